-- Values may go to another thread, and be shared with one.
use denote.Param.Send.{IsSend, IsSync, sendable}
use Rattle.std.proofs.Crossing as own
use Rattle.std.proofs.MapsCrossing as maps
use Rattle.pb_value.specs.contracts.value.Value as Value
use Rattle.pb_value.proofs.value.Value.TheLaws.TheKnot as value-knot

pub Value-field-send : IsSend (Value.the_field).row
Value-field-send = search (maps.crosses, own.crosses, value-knot.crosses_both, sendable) depth 60 fits 20000

pub Value-field-sync : IsSync (Value.the_field).row
Value-field-sync = search (maps.crosses, own.crosses, value-knot.crosses_both, sendable) depth 60 fits 20000

pub Value-send : IsSend Value.the_row
Value-send = search (Value-field-send, sendable)

pub Value-sync : IsSync Value.the_row
Value-sync = search (Value-field-sync, sendable)

pub ruleset value = (Value-field-send, Value-field-sync, Value-send, Value-sync)

pub ruleset crosses = (value)
