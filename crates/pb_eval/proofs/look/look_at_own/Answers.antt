use Rattle.std.proofs.Common.{◌≡◌, IfOk, subst}
use Rattle.pb_language.specs.Evaluation.{Look}
use Rattle.pb_value.specs.View.{view}
use Rattle.pb_syntax.specs.ExprView.{names_of}
use Rattle.pb_eval.specs.OwnWorld.{end_of, look_view}
use Rattle.pb_eval.proofs.Trees.{alias-there, alias-none}
use Rattle.pb_eval.proofs.look.look_at_own.Goals as goal

pub returns-in-Some : goal.returns-in-Some
returns-in-Some g c =
    let w = g.V.Vars.world c.args.vars.now in
    let n = c.args.name.now in
    let ns = names_of c.args.steps.now in
    subst (λ (l : Look). IfOk c.look_at_alias.result (λ k. look_view k ≡ l))
    (alias-there w n ns (g.V.Vars.trees c.args.vars.now n) (view c.in-Some.worth.now) c.in-Some.ensures) c.look_at_alias.ensures

pub returns-in-None : goal.returns-in-None
returns-in-None g c =
    let w = g.V.Vars.world c.args.vars.now in
    let n = c.args.name.now in
    let ns = names_of c.args.steps.now in
    subst (λ (l : Look). IfOk c.look_at_variable.result (λ k. look_view k ≡ end_of ns l))
    (alias-none w n (g.V.Vars.trees c.args.vars.now n) c.in-None.ensures) c.look_at_variable.ensures
