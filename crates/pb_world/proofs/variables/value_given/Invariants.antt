use Rattle.std.proofs.Common.{◌≡◌, map, take}
use Rattle.pb_semantics.specs.Data.{field_value}
use Rattle.pb_inventory.specs.Views.{layered}
use Rattle.pb_value.specs.View.{fields_view}
use Rattle.pb_world.proofs.variables.value_given.Given as goal

abbrev pub invariant-loop-index : goal.invariant-loop-index
invariant-loop-index l =
    field_value l.name (layered (map (λ x. fields_view x.value.entries) l.layers)) ≡ field_value l.name (layered (map (λ x. fields_view x.value.entries) (take l.index l.layers)))
