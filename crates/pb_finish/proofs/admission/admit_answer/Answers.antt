use Rattle.std.proofs.Common.{◌≡◌, Some, option_map, ap, ◌∙◌}
use Rattle.std.proofs.lemmas.Result.{IfOk-weaker}
use Rattle.pb_language.specs.Expansion.{parts_expanded}
use Rattle.pb_language.specs.Give.{object}
use Rattle.pb_sig.specs.ModuleView.{shared_view}
use Rattle.pb_syntax.specs.ExprView.{parts_view}
use Rattle.pb_value.specs.View.{view}
use Rattle.pb_finish.specs.Answers.{answer_data}
use Rattle.pb_finish.proofs.Admissions.{object-admitted}
use Rattle.pb_finish.proofs.admission.admit_answer.Goals as goal

pub returns-in-Call-clause-admits : goal.returns-in-Call-clause-admits
returns-in-Call-clause-admits c =
    let d = view c.in-Object.value in
    let here : Some (answer_data c.args.answer.now) ≡ Some (object d) = ap (λ x. Some (answer_data x)) c.in-Object.is in
    IfOk-weaker c.admit_object.result _ _ (λ k h f go xs is.
    rw c.in-Call.is (object-admitted (option_map view c.args.pass.now.item) (shared_view c.in-Call.«module») (parts_expanded f (parts_view c.in-Call.arguments.entries)) d go xs k (is ∙ here) (rw c.deref.ensures at h))) c.admit_object.ensures.admits
