-- A book that was accepted may go to another thread, and be shared with one.
use denote.Param.Send.{IsSend, IsSync, sendable}
use Rattle.std.proofs.Crossing as own
use Rattle.std.proofs.MapsCrossing as maps
use Rattle.pb_verify.specs.contracts.checked.Accepted as Accepted
use Rattle.pb_verify.specs.contracts.checked.Checked as Checked
use Rattle.pb_crossing.proofs.KindsCross as kinds
use Rattle.pb_crossing.proofs.ModulesCross as modules
use Rattle.pb_crossing.proofs.BooksCross as books
use Rattle.pb_crossing.proofs.InventoriesCross as inventories

pub Accepted-field-send : IsSend (Accepted.the_field).row
Accepted-field-send = search (kinds.crosses, modules.crosses, books.crosses, inventories.crosses, maps.crosses, own.crosses, sendable) depth 20

pub Accepted-field-sync : IsSync (Accepted.the_field).row
Accepted-field-sync = search (kinds.crosses, modules.crosses, books.crosses, inventories.crosses, maps.crosses, own.crosses, sendable) depth 20

pub Accepted-send : IsSend Accepted.the_row
Accepted-send = search (Accepted-field-send, sendable)

pub Accepted-sync : IsSync Accepted.the_row
Accepted-sync = search (Accepted-field-sync, sendable)

pub ruleset accepted = (Accepted-field-send, Accepted-field-sync, Accepted-send, Accepted-sync)

pub Checked-field-send : IsSend (Checked.the_field).row
Checked-field-send = search (accepted, maps.crosses, own.crosses, sendable) depth 20

pub Checked-field-sync : IsSync (Checked.the_field).row
Checked-field-sync = search (accepted, maps.crosses, own.crosses, sendable) depth 20

pub Checked-send : IsSend Checked.the_row
Checked-send = search (Checked-field-send, sendable)

pub Checked-sync : IsSync Checked.the_row
Checked-sync = search (Checked-field-sync, sendable)

pub ruleset checked = (Checked-field-send, Checked-field-sync, Checked-send, Checked-sync)

pub ruleset crosses = (accepted, checked)
