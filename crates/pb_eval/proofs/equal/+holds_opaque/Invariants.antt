use Rattle.std.proofs.Common.{◌≡◌, [], drop}
use Rattle.pb_language.specs.Evaluation.{any_item_opaque, any_field_opaque}
use Rattle.pb_value.specs.View.{items_view, fields_view}
use Rattle.pb_syntax.proofs.Ascending.{Ascending}
use Rattle.pb_eval.proofs.equal.+holds_opaque.Given as goal

abbrev pub invariant-items_hold_opaque-loop-item : goal.invariant-items_hold_opaque-loop-item
invariant-items_hold_opaque-loop-item l = any_item_opaque (items_view l.items) ≡ any_item_opaque (items_view (drop l.item-index l.items))

abbrev pub invariant-fields_hold_opaque-loop-value : goal.invariant-fields_hold_opaque-loop-value
invariant-fields_hold_opaque-loop-value l = record {
  same : any_field_opaque [] (fields_view l.fields.entries) ≡ any_field_opaque [] (fields_view l.value-iterator);
  ascending : Ascending l.value-iterator;
}
