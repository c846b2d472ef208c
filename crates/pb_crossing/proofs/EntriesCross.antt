-- Named expressions may go to another thread, and be shared with one.
use denote.Param.Send.{IsSend, IsSync, sendable}
use Rattle.std.proofs.Crossing as own
use Rattle.pb_template.specs.contracts.entry.Entry as Entry
use Rattle.pb_crossing.proofs.ExpressionsCross as expressions

pub Entry-field-send : IsSend (Entry.the_field).row
Entry-field-send = search (expressions.crosses, own.crosses, sendable) depth 20

pub Entry-field-sync : IsSync (Entry.the_field).row
Entry-field-sync = search (expressions.crosses, own.crosses, sendable) depth 20

pub Entry-send : IsSend Entry.the_row
Entry-send = search (Entry-field-send, sendable)

pub Entry-sync : IsSync Entry.the_row
Entry-sync = search (Entry-field-sync, sendable)

pub ruleset entry = (Entry-field-send, Entry-field-sync, Entry-send, Entry-sync)

pub ruleset crosses = (entry)
