use Rattle.std.proofs.Common.{arith, refl, rules}
use Rattle.pb_syntax.specs.ExprView.{expr_view}
use Rattle.pb_syntax.proofs.Refusals.{tree-refused}
use Rattle.pb_syntax.proofs.Sorts.{whole-read, not-whole}
use Rattle.pb_syntax.proofs.parse.expr_from.Goals as goal

pub or_at-requires-clause-bounded : goal.or_at-requires-clause-bounded
or_at-requires-clause-bounded c = omega arith

pub returns-in_err-expr-clause-tree : goal.returns-in_err-expr-clause-tree
returns-in_err-expr-clause-tree c =
    tree-refused _ c.args.text.now c.args.from c.in_ok-token_at.field-0 _ c.in_err-expr.field-0.0 refl c.in_ok-token_at.ensures.next.read c.from_residual-in_err-expr.ensures.1 c.in_err-expr.ensures.refused.refused

pub returns-then-ne-clause-tree : goal.returns-then-ne-clause-tree
returns-then-ne-clause-tree c =
    not-whole _ c.args.text.now c.args.from c.in_ok-token_at.field-0 (expr_view c.in_ok-expr.expr) c.in_ok-expr.after refl c.in_ok-token_at.ensures.next.read c.in_ok-expr.ensures.read.tree (search rules)

pub returns-clause-tree : goal.returns-clause-tree
returns-clause-tree c =
    whole-read _ c.args.text.now c.args.from c.in_ok-token_at.field-0 (expr_view c.in_ok-expr.expr) c.in_ok-expr.after refl c.in_ok-token_at.ensures.next.read c.in_ok-expr.ensures.read.tree (search rules)
