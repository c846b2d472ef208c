-- What the hosts of a run hold may go to another thread, and be shared with one.
use denote.Param.Send.{IsSend, IsSync, sendable}
use Rattle.std.proofs.Crossing as own
use Rattle.pb_facts.specs.contracts.facts.Facts as Facts
use Rattle.pb_crossing.proofs.ValuesCross as values

pub Facts-field-send : IsSend (Facts.the_field).row
Facts-field-send = search (values.crosses, own.crosses, sendable) depth 20

pub Facts-field-sync : IsSync (Facts.the_field).row
Facts-field-sync = search (values.crosses, own.crosses, sendable) depth 20

pub Facts-send : IsSend Facts.the_row
Facts-send = search (Facts-field-send, sendable)

pub Facts-sync : IsSync Facts.the_row
Facts-sync = search (Facts-field-sync, sendable)

pub ruleset facts = (Facts-field-send, Facts-field-sync, Facts-send, Facts-sync)

pub ruleset crosses = (facts)
