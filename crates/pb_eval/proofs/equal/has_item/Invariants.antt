use Rattle.std.proofs.Common.{◌≡◌, drop}
use Rattle.pb_semantics.specs.Equal.{is_item}
use Rattle.pb_value.specs.View.{view, items_view}
use Rattle.pb_eval.proofs.equal.has_item.Given as goal

abbrev pub invariant-loop-item : goal.invariant-loop-item
invariant-loop-item l = is_item (view l.value) (items_view l.items) ≡ is_item (view l.value) (items_view (drop l.item-index l.items))
