use Rattle.std.proofs.Common.{◌≡◌, ◌++◌, map, take}
use Rattle.pb_syntax.specs.ExprView.{expr_view}
use Rattle.pb_prepare.proofs.bound.Bound.put_all.Given as goal

abbrev pub invariant-loop-expr : goal.invariant-loop-expr
invariant-loop-expr l = map expr_view l.all.items ≡ map expr_view l.initial.all.items ++ map expr_view (take l.expr-index l.exprs)
