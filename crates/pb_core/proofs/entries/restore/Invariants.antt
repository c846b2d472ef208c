use Rattle.std.proofs.Common.{◌≡◌, length}
use Rattle.pb_core.specs.Formers.{before_all}
use Rattle.pb_core.proofs.entries.restore.Given as goal

abbrev pub invariant-loop-former : goal.invariant-loop-former
invariant-loop-former g l = before_all l.formers.items l.hosts ≡ before_all l.fn.formers.items l.fn.hosts

abbrev pub decreases-loop-former : goal.decreases-loop-former
decreases-loop-former g l = length l.formers.items
