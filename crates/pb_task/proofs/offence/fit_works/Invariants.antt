use Rattle.std.proofs.Common.{◌≡◌}
use Rattle.pb_language.specs.TaskForm.{fit_works, works_in}
use Rattle.pb_sig.specs.Modules.{modules_of}
use Rattle.pb_task.specs.Standings.{standing_view}
use Rattle.pb_value.specs.View.{fields_view}
use Rattle.pb_task.proofs.offence.fit_works.Given as goal

abbrev pub invariant-loop-key : goal.invariant-loop-key
invariant-loop-key l = fit_works (modules_of l.registry) (standing_view l.standing) (fields_view l.fields.entries) (works_in (standing_view l.standing) (fields_view l.fields.entries)) ≡ fit_works (modules_of l.registry) (standing_view l.standing) (fields_view l.fields.entries) (works_in (standing_view l.standing) (fields_view l.key-iterator))
