use Rattle.std.proofs.Common.{◌≡◌}
use Rattle.std.specs.List.{list_any}
use Rattle.pb_language.specs.TaskForm.{is_action, keys_of, works_in}
use Rattle.pb_task.specs.Standings.{standing_view}
use Rattle.pb_value.specs.View.{fields_view}
use Rattle.pb_task.proofs.work.has_action.Given as goal

abbrev pub invariant-loop-key : goal.invariant-loop-key
invariant-loop-key l = list_any is_action (keys_of (works_in (standing_view l.standing) (fields_view l.fields.entries))) ≡ list_any is_action (keys_of (works_in (standing_view l.standing) (fields_view l.key-iterator)))
