use denote.Shadow.{shadow}
use denote.Text.{Utf8}
use Rattle.std.proofs.Common.{◌≡◌, drop, string_bytes}
use Rattle.pb_language.specs.Evaluation.{joined_items}
use Rattle.pb_value.specs.View.{items_view}
use Rattle.pb_eval.proofs.MadeTexts.{after_text, led}
use Rattle.pb_eval.proofs.filter.items_joined.Given as goal

abbrev pub invariant-loop-item : goal.invariant-loop-item
invariant-loop-item l =
    shadow (Utf8 l.before) × (joined_items l.between (items_view l.items) ≡ after_text (string_bytes l.text) (led l.between l.before (items_view (drop l.item-index l.items))))
