use Rattle.std.proofs.Common.{◌≡◌}
use Rattle.pb_language.specs.TaskForm.{fit_keywords}
use Rattle.pb_task.specs.Standings.{standing_view}
use Rattle.pb_value.specs.View.{fields_view}
use Rattle.pb_task.proofs.form.fit_keywords.Given as goal

abbrev pub invariant-loop-key : goal.invariant-loop-key
invariant-loop-key l = fit_keywords (standing_view l.standing) (fields_view l.fields.entries) ≡ fit_keywords (standing_view l.standing) (fields_view l.key-iterator)
