-- An inventory may go to another thread, and be shared with one.
use denote.Param.Send.{IsSend, IsSync, sendable}
use Rattle.std.proofs.Crossing as own
use Rattle.std.proofs.MapsCrossing as maps
use Rattle.pb_inventory.specs.contracts.inventory.Host as Host
use Rattle.pb_inventory.specs.contracts.inventory.Inventory as Inventory
use Rattle.pb_crossing.proofs.ValuesCross as values

pub Host-field-send : IsSend (Host.the_field).row
Host-field-send = search (values.crosses, maps.crosses, own.crosses, sendable) depth 20

pub Host-field-sync : IsSync (Host.the_field).row
Host-field-sync = search (values.crosses, maps.crosses, own.crosses, sendable) depth 20

pub Host-send : IsSend Host.the_row
Host-send = search (Host-field-send, sendable)

pub Host-sync : IsSync Host.the_row
Host-sync = search (Host-field-sync, sendable)

pub ruleset host = (Host-field-send, Host-field-sync, Host-send, Host-sync)

pub Inventory-field-send : IsSend (Inventory.the_field).row
Inventory-field-send = search (host, values.crosses, maps.crosses, own.crosses, sendable) depth 20

pub Inventory-field-sync : IsSync (Inventory.the_field).row
Inventory-field-sync = search (host, values.crosses, maps.crosses, own.crosses, sendable) depth 20

pub Inventory-send : IsSend Inventory.the_row
Inventory-send = search (Inventory-field-send, sendable)

pub Inventory-sync : IsSync Inventory.the_row
Inventory-sync = search (Inventory-field-sync, sendable)

pub ruleset inventory = (Inventory-field-send, Inventory-field-sync, Inventory-send, Inventory-sync)

pub ruleset crosses = (host, inventory)
