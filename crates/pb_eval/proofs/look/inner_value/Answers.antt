use Rattle.std.proofs.Common.{option_map, sym, ap, ◌∙◌}
use Rattle.pb_value.specs.View.{view}
use Rattle.pb_eval.specs.OwnWorld.{field_in}
use Rattle.pb_eval.specs.OwnWorld.{value_read}
use Rattle.pb_eval.proofs.Turns.{steps-turn, steps-lost, steps-done}
use Rattle.pb_eval.proofs.look.inner_value.Goals as goal

pub loop-step-preserved : goal.loop-step-preserved
loop-step-preserved c =
    let here = view c.loop-step.here.now in
    c.loop-step.invariant
    ∙ steps-turn c.args.steps.now c.loop-step.step-index c.step-item.result here (view c.in_ok-here.here.now)
    c.loop-step-test.true c.step-item.is (c.in_ok-here.ensures ∙ ap (λ n. field_in n here) c.as_str.ensures.value)

pub returns-in_err-here : goal.returns-in_err-here
returns-in_err-here c =
    let here = view c.loop-step.here.now in
    ap (option_map (λ v. view v.now)) c.from_residual.ensures
    ∙ sym (ap value_read c.loop-step.invariant
    ∙ steps-lost c.args.steps.now c.loop-step.step-index c.step-item.result here
    c.loop-step-test.true c.step-item.is (c.in_err-here.ensures ∙ ap (λ n. field_in n here) c.as_str.ensures.value))

pub returns : goal.returns
returns c =
    sym (ap value_read c.loop-step.invariant
    ∙ steps-done c.args.steps.now c.loop-step.step-index (view c.loop-step.here.now) c.loop-step-test.false)
