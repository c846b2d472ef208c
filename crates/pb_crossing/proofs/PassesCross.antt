-- What a task does as it starts may go to another thread, and be shared with one.
use denote.Param.Send.{IsSend, IsSync, sendable}
use Rattle.std.proofs.Crossing as own
use Rattle.std.proofs.MapsCrossing as maps
use Rattle.pb_start.specs.contracts.passes.Entry as Entry
use Rattle.pb_start.specs.contracts.passes.Pass as Pass
use Rattle.pb_crossing.proofs.ValuesCross as values

pub Entry-field-send : IsSend (Entry.the_field).row
Entry-field-send = search (values.crosses, maps.crosses, own.crosses, sendable) depth 40

pub Entry-field-sync : IsSync (Entry.the_field).row
Entry-field-sync = search (values.crosses, maps.crosses, own.crosses, sendable) depth 40

pub Entry-send : IsSend Entry.the_row
Entry-send = search (Entry-field-send, sendable)

pub Entry-sync : IsSync Entry.the_row
Entry-sync = search (Entry-field-sync, sendable)

pub ruleset entry = (Entry-field-send, Entry-field-sync, Entry-send, Entry-sync)

pub Pass-field-send : IsSend (Pass.the_field).row
Pass-field-send = search (entry, values.crosses, maps.crosses, own.crosses, sendable) depth 20

pub Pass-field-sync : IsSync (Pass.the_field).row
Pass-field-sync = search (entry, values.crosses, maps.crosses, own.crosses, sendable) depth 20

pub Pass-send : IsSend Pass.the_row
Pass-send = search (Pass-field-send, sendable)

pub Pass-sync : IsSync Pass.the_row
Pass-sync = search (Pass-field-sync, sendable)

pub ruleset pass = (Pass-field-send, Pass-field-sync, Pass-send, Pass-sync)

pub ruleset crosses = (entry, pass)
