use Rattle.std.proofs.Common.{◌∙◌, Some, option_map, ap, sym, subst}
use Rattle.pb_value.proofs.Views.{view-fields}
use Rattle.pb_semantics.specs.Gives.{Gives}
use Rattle.pb_template.specs.Faults.{refused}
use Rattle.pb_language.specs.TaskForm.{arguments_in}
use Rattle.pb_template.specs.Entries.{entries_view}
use Rattle.pb_task.proofs.argument.arguments_in.Goals as goal

pub returns-in-Rec-clause-given : goal.returns-in-Rec-clause-given
returns-in-Rec-clause-given c =
    let known = view-fields c.args.given.now c.in-Rec.fields c.deref-in-Rec.result.now c.in-Rec.is (c.deref-in-Rec.ensures ∙ ap (λ w. w.parts) c.deref.ensures) in
    subst (λ d. Gives (λ es. Some (entries_view es.items)) refused c.entries_of.result (arguments_in (option_map (λ n. n.now) c.args.free) d)) (sym known) c.entries_of.ensures.given
