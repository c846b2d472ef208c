use Rattle.std.proofs.Common.{◌≡◌, map, take}
use Rattle.pb_semantics.specs.Data.{rec}
use Rattle.pb_value.specs.View.{view}
use Rattle.pb_inventory.specs.Inventory.{inventory_view}
use Rattle.pb_probe.specs.Told.{host_told}
use Rattle.pb_probe.proofs.inventory.hosts_told.Given as goal

abbrev pub invariant-loop-host : goal.invariant-loop-host
invariant-loop-host l = map view l.hosts.items ≡ map (λ h. rec (host_told (inventory_view l.inventory).groups h)) (take l.host (inventory_view l.inventory).hosts)
