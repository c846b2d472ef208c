use Rattle.std.proofs.Common.{◌∙◌, Some, ap, sym, subst}
use Rattle.pb_value.proofs.Views.{view-fields}
use Rattle.pb_semantics.specs.Gives.{Gives}
use Rattle.pb_template.specs.Faults.{refused}
use Rattle.pb_language.specs.TaskForm.{vars_found}
use Rattle.pb_template.specs.Entries.{entries_view}
use Rattle.pb_task.proofs.clause.vars_of.Goals as goal

pub returns-in-Rec-clause-given : goal.returns-in-Rec-clause-given
returns-in-Rec-clause-given c =
    let known = view-fields c.args.vars.now c.in-Rec.fields c.deref-in-Rec.result.now c.in-Rec.is (c.deref-in-Rec.ensures ∙ ap (λ w. w.parts) c.deref.ensures) in
    subst (λ d. Gives (λ es. Some (entries_view es.items)) refused c.entries_of.result (vars_found (Some d))) (sym known) c.entries_of.ensures.given
