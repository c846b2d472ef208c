use Rattle.std.proofs.Common.{sym, ap, ◌∙◌}
use Rattle.pb_language.specs.Kinds.{step_spot}
use Rattle.pb_kind.specs.KindView.{kind_view}
use Rattle.pb_forms.specs.SpotFound.{spot_found}
use Rattle.pb_forms.proofs.Findings.{lost-below}
use Rattle.pb_forms.proofs.kinds.spot_at_end.Goals as goal

pub returns-in_err-is_there : goal.returns-in_err-is_there
returns-in_err-is_there c =
    let here = kind_view c.loop-step.here.now in
    ap spot_found c.from_residual.ensures
    ∙ sym (c.loop-step.invariant
    ∙ lost-below c.args.steps.now c.loop-step.step-index c.step-item.result c.loop-step.is_certain here
    c.loop-step-test.true c.step-item.is (c.in_err-is_there.ensures ∙ ap (λ n. step_spot n here) c.as_str.ensures.value))
