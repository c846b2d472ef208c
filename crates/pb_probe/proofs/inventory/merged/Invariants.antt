use Rattle.std.proofs.Common.{◌≡◌, drop, fold, map}
use Rattle.pb_value.specs.View.{fields_view}
use Rattle.pb_inventory.specs.Views.{laid, layered}
use Rattle.pb_probe.proofs.inventory.merged.Given as goal

abbrev pub invariant-loop-layer : goal.invariant-loop-layer
invariant-loop-layer l = fold laid (fields_view l.variables.entries) (map (λ layer. fields_view layer.value.entries) (drop l.layer-index l.layers)) ≡ layered (map (λ layer. fields_view layer.value.entries) l.layers)
