use Rattle.std.proofs.Common.{◌∙◌, ap, sym}
use Rattle.pb_value.proofs.Views.{view-fields}
use Rattle.pb_language.specs.TaskForm.{are_arguments_within}
use Rattle.pb_task.proofs.limit.are_arguments_within.Goals as goal

pub returns-in-Rec : goal.returns-in-Rec
returns-in-Rec c =
    c.are_values_within.ensures
    ∙ ap are_arguments_within (sym (view-fields c.args.given.now c.in-Rec.fields c.deref-in-Rec-2.result.now c.in-Rec.is (c.deref-in-Rec-2.ensures ∙ ap (λ w. w.parts) c.deref-in-Rec.ensures)))
