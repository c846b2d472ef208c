use Rattle.std.proofs.Common.{◌≡◌, drop}
use Rattle.pb_language.specs.Expansion.{all_expanded}
use Rattle.pb_language.specs.Narrow.{any_teaches}
use Rattle.pb_syntax.specs.ExprView.{exprs_view}
use Rattle.pb_syntax.specs.Aliases.{Trees}
use Rattle.pb_expr.proofs.narrow.+teaches.Given as goal

abbrev pub invariant-any_teaches-loop-operand : goal.invariant-any_teaches-loop-operand
invariant-any_teaches-loop-operand l = (f : Trees) → any_teaches (all_expanded f (exprs_view l.operands)) ≡ any_teaches (all_expanded f (exprs_view (drop l.operand-index l.operands)))
