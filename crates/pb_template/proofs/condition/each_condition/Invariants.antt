use Rattle.std.proofs.Common.{◌≡◌, drop}
use Rattle.pb_language.specs.Texts.{each_condition}
use Rattle.pb_template.proofs.Built.{items_before}
use Rattle.pb_value.specs.View.{items_view}
use Rattle.pb_syntax.specs.ExprView.{exprs_view}
use Rattle.pb_template.proofs.condition.each_condition.Given as goal

abbrev pub invariant-loop-item : goal.invariant-loop-item
invariant-loop-item l = each_condition (items_view l.items) ≡ items_before (exprs_view l.conditions.items) (each_condition (items_view (drop l.item-index l.items)))
