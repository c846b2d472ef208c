use Rattle.std.proofs.Common.{◌≡◌, option_map}
use Rattle.pb_language.specs.TaskForm.{works_in}
use Rattle.pb_task.proofs.Works.{entry_before}
use Rattle.pb_task.specs.Standings.{standing_view}
use Rattle.pb_value.specs.View.{view, fields_view}
use Rattle.pb_task.proofs.work.lone_work.Given as goal

abbrev pub invariant-loop-key : goal.invariant-loop-key
invariant-loop-key l = works_in (standing_view l.standing) (fields_view l.fields.entries) ≡ entry_before (option_map (λ e. (e.0.now, view e.1.now)) l.found) (works_in (standing_view l.standing) (fields_view l.key-iterator))
