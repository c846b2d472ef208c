use Rattle.std.proofs.Common.{◌≡◌, map, take}
use Rattle.pb_way.proofs.tabled.environments_of.Given as goal

abbrev pub invariant-loop-value : goal.invariant-loop-value
invariant-loop-value g l = l.environments.items ≡ map (λ v. v.at) (take l.value-index l.values)
