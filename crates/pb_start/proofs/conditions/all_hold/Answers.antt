use Rattle.std.proofs.Common.{Some, sym, ap, ◌∙◌}
use Rattle.pb_value.specs.View.{truth}
use Rattle.pb_eval.specs.OwnWorld.{shown}
use Rattle.pb_eval.proofs.Turns.{all-turn, all-stops, all-spoilt, all-done}
use Rattle.pb_start.proofs.conditions.all_hold.Goals as goal

pub loop-condition-preserved : goal.loop-condition-preserved
loop-condition-preserved g c =
    c.loop-condition.invariant
    ∙ all-turn (g.V.Vars.world c.args.vars.now) (g.V.Vars.trees c.args.vars.now) c.args.conditions.now c.loop-condition.condition-index c.condition-item.result c.in_ok-found.found c.as_bool.result
    c.loop-condition-test.true c.condition-item.is c.in_ok-found.ensures c.as_bool.ensures (c.in-Some-true.is ∙ ap Some c.in-Some-true.field-0-test)

pub returns-in-Some-false : goal.returns-in-Some-false
returns-in-Some-false g c =
    sym (ap (λ o. truth (shown o)) c.loop-condition.invariant
    ∙ ap truth (all-stops (g.V.Vars.world c.args.vars.now) (g.V.Vars.trees c.args.vars.now) c.args.conditions.now c.loop-condition.condition-index c.condition-item.result c.in_ok-found.found c.as_bool.result
    c.loop-condition-test.true c.condition-item.is c.in_ok-found.ensures c.as_bool.ensures (c.in-Some-false.is ∙ ap Some c.in-Some-false.field-0-test)))

pub returns-in-None : goal.returns-in-None
returns-in-None g c =
    sym (ap (λ o. truth (shown o)) c.loop-condition.invariant
    ∙ ap truth (all-spoilt (g.V.Vars.world c.args.vars.now) (g.V.Vars.trees c.args.vars.now) c.args.conditions.now c.loop-condition.condition-index c.condition-item.result c.in_ok-found.found c.as_bool.result
    c.loop-condition-test.true c.condition-item.is c.in_ok-found.ensures c.as_bool.ensures c.in-None.is))

pub returns : goal.returns
returns g c =
    sym (ap (λ o. truth (shown o)) c.loop-condition.invariant
    ∙ ap truth (all-done (g.V.Vars.world c.args.vars.now) (g.V.Vars.trees c.args.vars.now) c.args.conditions.now c.loop-condition.condition-index c.loop-condition-test.false))
