use Rattle.std.proofs.Common.{◌∙◌, Some, ap, sym}
use Rattle.pb_value.proofs.Views.{view-fields}
use Rattle.pb_language.specs.TaskForm.{is_record_within}
use Rattle.pb_task.proofs.limit.are_fields_within.Goals as goal

pub returns-in-Rec : goal.returns-in-Rec
returns-in-Rec c =
    c.are_values_within.ensures
    ∙ ap (λ d. is_record_within (Some d)) (sym (view-fields c.args.value.now c.in-Rec.fields c.deref-in-Rec.result.now c.in-Rec.is (c.deref-in-Rec.ensures ∙ ap (λ w. w.parts) c.deref.ensures)))
