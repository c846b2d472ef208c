use Rattle.std.proofs.Common.{◌≡◌}
use Rattle.pb_language.specs.TaskForm.{has_left_out}
use Rattle.pb_task.specs.Standings.{standing_view}
use Rattle.pb_value.specs.View.{fields_view}
use Rattle.pb_task.proofs.keyword.has_left_out.Given as goal

abbrev pub invariant-loop-key : goal.invariant-loop-key
invariant-loop-key l = has_left_out (standing_view l.standing) (fields_view l.fields.entries) ≡ has_left_out (standing_view l.standing) (fields_view l.key-iterator)
