use Rattle.std.proofs.Common.{◌≡◌, drop}
use Rattle.pb_language.specs.Texts.{are_short_conditions}
use Rattle.pb_value.specs.View.{items_view}
use Rattle.pb_template.proofs.condition.is_each_short.Given as goal

abbrev pub invariant-loop-item : goal.invariant-loop-item
invariant-loop-item l = are_short_conditions (items_view l.items) ≡ are_short_conditions (items_view (drop l.item-index l.items))
