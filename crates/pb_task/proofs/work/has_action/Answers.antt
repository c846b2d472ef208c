use Rattle.std.proofs.Common.{◌≡◌, ◌∙◌, ◌||◌, ◌&&◌, true, false, ap, sym}
use Rattle.pb_value.specs.View.{fields_view}
use Rattle.pb_task.specs.Standings.{standing_view}
use Rattle.std.specs.List.{list_any}
use Rattle.std.proofs.Common.{string_bytes}
use Rattle.pb_language.specs.TaskForm.{is_action, keys_of, without_prefix, works_in}
use Rattle.pb_task.specs.Doings.{is_work}
use Rattle.pb_task.proofs.Works.{actions-next}
use Rattle.pb_task.proofs.work.has_action.Goals as goal

pub returns-then-is_action_at : goal.returns-then-is_action_at
returns-then-is_action_at c =
    let s = standing_view c.args.standing in
    let left = fields_view c.next.new.self in
    let n = string_bytes c.in-Some.key.now in
    let here : (is_work s n && is_action (without_prefix n)) ≡ true = ap (λ m. is_work s m && is_action (without_prefix m)) (sym c.as_str.ensures.value) ∙ sym c.is_action_at.ensures ∙ c.if-is_action_at.true in
    sym (c.loop-key.invariant ∙ ap (λ es. list_any is_action (keys_of (works_in s (fields_view es)))) c.in-Some.ensures.steps ∙ actions-next s n _ left
    ∙ ap (λ q. q || list_any is_action (keys_of (works_in s left))) here)

pub loop-key-preserved : goal.loop-key-preserved
loop-key-preserved c =
    let s = standing_view c.args.standing in
    let left = fields_view c.next.new.self in
    let n = string_bytes c.in-Some.key.now in
    let other : (is_work s n && is_action (without_prefix n)) ≡ false = ap (λ m. is_work s m && is_action (without_prefix m)) (sym c.as_str.ensures.value) ∙ sym c.is_action_at.ensures ∙ c.if-is_action_at.false in
    c.loop-key.invariant ∙ ap (λ es. list_any is_action (keys_of (works_in s (fields_view es)))) c.in-Some.ensures.steps ∙ actions-next s n _ left
    ∙ ap (λ q. q || list_any is_action (keys_of (works_in s left))) other
