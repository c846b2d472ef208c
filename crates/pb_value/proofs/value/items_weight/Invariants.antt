use Rattle.std.proofs.Common.{◌≡◌, drop}
use Rattle.pb_value.specs.Weights.{nothing}
use Rattle.pb_value.specs.ValueWeight.{items_onto}
use Rattle.pb_value.proofs.value.items_weight.Given as goal

abbrev pub invariant-loop-item : goal.invariant-loop-item
invariant-loop-item l = items_onto nothing l.items ≡ items_onto l.total (drop l.item-index l.items)
