use Rattle.std.proofs.Common.{drop}
use Rattle.pb_core.specs.Entries.{AreOthersGone}
use Rattle.pb_core.proofs.active.is_any_here.Given as goal

abbrev pub invariant-loop-member : goal.invariant-loop-member
invariant-loop-member g l = AreOthersGone l.hosts l.members (drop l.member-index l.members)
