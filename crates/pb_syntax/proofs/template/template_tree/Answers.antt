use Rattle.std.proofs.Common.{Vec, Global, vec_len, ap, arith, sym, ◌∙◌}
use Rattle.std.proofs.lemmas.Bool.{eqb-false}
use Rattle.pb_language.specs.Expression.{concatenation}
use Rattle.pb_syntax.specs.ExprView.{exprs_view}
use Rattle.pb_syntax.specs.declared.expr.Expr.{Expr}
use Rattle.pb_syntax.proofs.Exprs.{view-Concat}
use Rattle.pb_syntax.proofs.Parts.{tree-many}
use Rattle.pb_syntax.proofs.template.template_tree.Goals as goal

pub returns-in-Err : goal.returns-in-Err
returns-in-Err c =
    view-Concat c.in-Err.parts ∙ ap (λ (v : Vec Expr Global). concatenation (exprs_view v.items)) c.in-Err.ensures.same
    ∙ sym (tree-many c.args.parts.items (λ e. eqb-false (vec_len c.args.parts) 0 (sym c.if-is_empty.ensures) (omega (arith, c.args.parts.ok, e)))
    (λ e. c.in-Err.ensures.other (omega (arith, c.args.parts.ok, e))))
