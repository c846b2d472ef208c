use Rattle.std.proofs.Common.{◌∙◌, ap, sym}
use Rattle.pb_value.proofs.Views.{view-fields}
use Rattle.pb_language.specs.TaskForm.{is_assertion_within}
use Rattle.pb_task.proofs.limit.is_assertion_within.Goals as goal

pub returns-in-Rec : goal.returns-in-Rec
returns-in-Rec c =
    c.are_asserted_within.ensures
    ∙ ap is_assertion_within (sym (view-fields c.args.given.now c.in-Rec.fields c.deref-in-Rec.result.now c.in-Rec.is (c.deref-in-Rec.ensures ∙ ap (λ w. w.parts) c.deref.ensures)))
