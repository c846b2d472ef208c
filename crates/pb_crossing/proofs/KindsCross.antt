-- Kinds may go to another thread, and be shared with one.
use denote.Param.Send.{IsSend, IsSync, sendable}
use Rattle.std.proofs.Crossing as own
use Rattle.std.proofs.MapsCrossing as maps
use Rattle.pb_kind.specs.contracts.kind.Kind as Kind
use Rattle.pb_kind.proofs.kind.Kind.TheLaws.TheKnot as kind-knot

pub Kind-field-send : IsSend (Kind.the_field).row
Kind-field-send = search (maps.crosses, own.crosses, kind-knot.crosses_both, sendable) depth 60 fits 20000

pub Kind-field-sync : IsSync (Kind.the_field).row
Kind-field-sync = search (maps.crosses, own.crosses, kind-knot.crosses_both, sendable) depth 60 fits 20000

pub Kind-send : IsSend Kind.the_row
Kind-send = search (Kind-field-send, sendable)

pub Kind-sync : IsSync Kind.the_row
Kind-sync = search (Kind-field-sync, sendable)

pub ruleset kind = (Kind-field-send, Kind-field-sync, Kind-send, Kind-sync)

pub ruleset crosses = (kind)
