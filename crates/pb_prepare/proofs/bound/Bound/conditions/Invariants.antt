use Rattle.std.proofs.Common.{◌≡◌, map, take}
use Rattle.pb_language.specs.Expression.{no_expressions}
use Rattle.pb_flow.specs.Nodes.{conditions_after}
use Rattle.pb_syntax.specs.ExprView.{exprs_view}
use Rattle.pb_prepare.proofs.bound.Bound.conditions.Given as goal

abbrev pub invariant-loop-head : goal.invariant-loop-head
invariant-loop-head l = exprs_view l.all.items ≡ conditions_after no_expressions (map (λ b. b.now) (take l.head-index l.around.blocks.items))
