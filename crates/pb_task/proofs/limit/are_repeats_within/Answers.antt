use Rattle.std.proofs.Common.{◌∙◌, Some, ap, sym}
use Rattle.pb_task.proofs.Values.{view-items}
use Rattle.pb_language.specs.TaskForm.{is_loop_within}
use Rattle.pb_task.proofs.limit.are_repeats_within.Goals as goal

pub returns-in-List : goal.returns-in-List
returns-in-List c =
    c.is_written_loop_within.ensures
    ∙ ap (λ d. is_loop_within (Some d)) (sym (view-items c.args.value.now c.in-List.items c.deref-in-List-2.result.now c.in-List.is
    (c.deref-in-List-2.ensures.value ∙ ap (λ v. v.items) (c.deref-in-List.ensures ∙ ap (λ w. w.parts) c.deref.ensures))))
