use Rattle.std.proofs.Common.{◌≡◌}
use Rattle.pb_value.specs.Weights.{nothing}
use Rattle.pb_kind.specs.KindWeight.{slots_onto}
use Rattle.pb_kind.proofs.kind.slots_weight.Given as goal

abbrev pub invariant-loop-name : goal.invariant-loop-name
invariant-loop-name l = slots_onto nothing l.slots.entries ≡ slots_onto l.total l.name-iterator
