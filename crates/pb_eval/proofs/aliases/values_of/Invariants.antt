use Rattle.std.proofs.Common.{◌≡◌, take}
use Rattle.pb_eval.proofs.aliases.values_of.Given as goal

abbrev pub invariant-loop-place : goal.invariant-loop-place
invariant-loop-place g l = l.known ≡ (l.world, take l.place l.names)
