use Rattle.std.proofs.Common.{Vec, Global, ap, arith, sym, ◌∙◌}
use Rattle.pb_language.specs.Expression.{disjunction}
use Rattle.pb_syntax.specs.ExprView.{exprs_view}
use Rattle.pb_syntax.specs.declared.expr.Expr.{Expr}
use Rattle.pb_syntax.proofs.Chains.{joined-other}
use Rattle.pb_syntax.proofs.Exprs.{view-Or}
use Rattle.pb_syntax.proofs.parse.any_of.Goals as goal

pub returns-in-Err : goal.returns-in-Err
returns-in-Err c =
    view-Or c.in-Err.operands ∙ ap (λ (v : Vec Expr Global). disjunction (exprs_view v.items)) c.in-Err.ensures.same
    ∙ sym (joined-other (λ es. disjunction es) c.args.operands.items (λ e. c.in-Err.ensures.other (omega (arith, c.args.operands.ok, e))))
