use Rattle.std.proofs.Common.{◌≡◌, drop}
use Rattle.pb_language.specs.Expansion.{trees}
use Rattle.pb_syntax.specs.ExprView.{exprs_view}
use Rattle.pb_vars.specs.InScope.{in_scope}
use Rattle.pb_vars.specs.Reads.{expanded_every_read}
use Rattle.pb_rules.proofs.reads.all_hold.Given as goal

abbrev pub invariant-loop-expr : goal.invariant-loop-expr
invariant-loop-expr g l = expanded_every_read (trees (in_scope l.scope)) (g.Q.Question.holds l.question) (exprs_view (drop l.expr-index l.exprs))
    ≡ expanded_every_read (trees (in_scope l.scope)) (g.Q.Question.holds l.question) (exprs_view l.exprs)
