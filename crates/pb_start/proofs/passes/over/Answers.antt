use Rattle.std.proofs.Common.{◌≡◌}
use Rattle.std.proofs.lemmas.Result.{IfOk-weaker}
use Rattle.pb_language.specs.Evaluation.{eval}
use Rattle.pb_language.specs.Expansion.{expanded}
use Rattle.pb_syntax.specs.ExprView.{expr_view}
use Rattle.pb_value.specs.View.{view}
use Rattle.pb_eval.specs.OwnWorld.{shown}
use Rattle.pb_start.specs.Prepared.{trees_of}
use Rattle.pb_start.proofs.Passed.{loop-shown}
use Rattle.pb_start.proofs.passes.over.Goals as goal

pub returns : goal.returns
returns g c =
    let w = g.V.Vars.world c.args.vars.now in
    let o = eval w (expanded (trees_of c.args.prepared.now) (expr_view c.args.items.now)) in
    let first = rw c.in_ok-known.ensures at c.in_ok-worth.ensures in
    let told : view c.in_ok-worth.worth ≡ shown o = rw c.deref.ensures.value at first in
    IfOk-weaker c.looped.result _ _ (λ ps h t d. loop-shown w t o (view c.in_ok-worth.worth) ps.items told (h t d)) c.looped.ensures
