use Rattle.std.proofs.Common.{◌∙◌, Some, ap, sym, subst}
use Rattle.pb_value.proofs.Views.{view-fields}
use Rattle.pb_semantics.specs.Gives.{Gives}
use Rattle.pb_template.specs.Faults.{refused}
use Rattle.pb_language.specs.TaskForm.{assertion}
use Rattle.pb_task.specs.Tasks.{worked}
use Rattle.pb_task.proofs.argument.assertion.Goals as goal

pub returns-in-Rec-clause-given : goal.returns-in-Rec-clause-given
returns-in-Rec-clause-given c =
    let known = view-fields c.args.given.now c.in-Rec.fields c.deref-in-Rec.result.now c.in-Rec.is (c.deref-in-Rec.ensures ∙ ap (λ w. w.parts) c.deref.ensures) in
    subst (λ d. Gives (λ p. Some (worked p)) refused c.assertion_of.result (assertion d)) (sym known) c.assertion_of.ensures.given
