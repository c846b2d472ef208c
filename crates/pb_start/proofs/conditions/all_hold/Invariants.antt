use Rattle.std.proofs.Common.{◌≡◌, drop}
use Rattle.pb_language.specs.Evaluation.{eval_all}
use Rattle.pb_language.specs.Expansion.{all_expanded}
use Rattle.pb_syntax.specs.ExprView.{exprs_view}
use Rattle.pb_start.proofs.conditions.all_hold.Given as goal

abbrev pub invariant-loop-condition : goal.invariant-loop-condition
invariant-loop-condition g l =
    eval_all (g.V.Vars.world l.vars) (all_expanded (g.V.Vars.trees l.vars) (exprs_view l.conditions)) ≡ eval_all (g.V.Vars.world l.vars) (all_expanded (g.V.Vars.trees l.vars) (exprs_view (drop l.condition-index l.conditions)))
