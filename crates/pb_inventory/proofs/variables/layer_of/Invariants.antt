use Rattle.std.proofs.Common.{◌≡◌, string_cmp}
use Rattle.std.specs.List.Sorted.{IsStrictlySortedBy}
use Rattle.std.specs.Map.{keys_of}
use Rattle.pb_semantics.specs.Data.{Fields}
use Rattle.pb_language.specs.Inventories.{overlaid}
use Rattle.pb_value.specs.View.{fields_view}
use Rattle.pb_inventory.specs.Views.{laid}
use Rattle.pb_inventory.proofs.Overlays.{IsNext}
use Rattle.pb_inventory.proofs.variables.layer_of.Given as goal

abbrev pub invariant-loop-name : goal.invariant-loop-name
invariant-loop-name l = record {
  sorted : IsStrictlySortedBy string_cmp (keys_of l.name-iterator);
  next : IsNext (fields_view l.layer.entries) l.name-iterator;
  laid : (vs : Fields) → overlaid (laid vs (fields_view l.layer.entries)) (fields_view l.name-iterator) ≡ overlaid vs (fields_view l.fields.entries);
}
