use Rattle.std.proofs.Common.{take}
use Rattle.pb_core.specs.Entries.{AreEntries}
use Rattle.pb_core.proofs.entries.entries_of.Given as goal

abbrev pub invariant-loop-member : goal.invariant-loop-member
invariant-loop-member g l = AreEntries l.play (take l.member-index l.members) l.hosts l.entries.items
