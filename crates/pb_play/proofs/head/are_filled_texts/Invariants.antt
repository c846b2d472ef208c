use Rattle.std.proofs.Common.{◌≡◌, drop}
use Rattle.pb_language.specs.BookForm.{are_filled_texts}
use Rattle.pb_value.specs.View.{items_view}
use Rattle.pb_play.proofs.head.are_filled_texts.Given as goal

abbrev pub invariant-loop-item : goal.invariant-loop-item
invariant-loop-item l = are_filled_texts (items_view l.items) ≡ are_filled_texts (items_view (drop l.item-index l.items))
