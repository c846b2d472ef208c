use Rattle.std.proofs.Common.{option_map, sym, ap, ◌∙◌}
use Rattle.std.proofs.lemmas.Result.{IfOk-weaker}
use Rattle.pb_language.specs.Give.{own_of, with_own}
use Rattle.pb_sig.specs.AdmissionView.{admission_view}
use Rattle.pb_sig.specs.ModuleView.{known_view}
use Rattle.pb_value.specs.View.{view}
use Rattle.pb_finish.proofs.admission.result_of_answer.Goals as goal

pub returns-in-Ok : goal.returns-in-Ok
returns-in-Ok c =
    IfOk-weaker c.result_of_ok.result _ _ (λ k h r. ap (λ a. own_of (option_map view c.args.pass.now.item) (known_view c.args.«module».now) a (λ own. with_own own r)) (sym c.in_ok-admission.ensures ∙ ap admission_view c.in-Ok.is)
    ∙ h r) c.result_of_ok.ensures

pub returns-in-Failed : goal.returns-in-Failed
returns-in-Failed c =
    IfOk-weaker c.result_of_failure.result _ _ (λ k h r. ap (λ a. own_of (option_map view c.args.pass.now.item) (known_view c.args.«module».now) a (λ own. with_own own r)) (sym c.in_ok-admission.ensures ∙ ap admission_view c.in-Failed.is)
    ∙ h r (known_view c.args.«module».now)) c.result_of_failure.ensures
