use Rattle.std.proofs.Common.{◌≡◌, drop, length}
use Rattle.pb_semantics.specs.Equal.{items_eq, fields_eq}
use Rattle.pb_value.specs.View.{items_view, fields_view}
use Rattle.pb_eval.proofs.equal.+equal.Given as goal

abbrev pub invariant-items_equal-loop-index : goal.invariant-items_equal-loop-index
invariant-items_equal-loop-index l = record {
  same : items_eq (items_view l.left) (items_view l.right) ≡ items_eq (items_view (drop l.index l.left)) (items_view (drop l.index l.right));
  sizes : length l.left ≡ length l.right;
}

abbrev pub invariant-fields_equal-loop-name : goal.invariant-fields_equal-loop-name
invariant-fields_equal-loop-name l =
    fields_eq (fields_view l.left.entries) (fields_view l.right.entries) ≡ fields_eq (fields_view l.name-iterator) (fields_view l.others)
