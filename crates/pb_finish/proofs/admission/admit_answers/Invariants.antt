use Rattle.std.proofs.Common.{◌≡◌, ◌≤◌, length, map, drop}
use Rattle.pb_language.specs.Give.{admit_passes}
use Rattle.pb_syntax.specs.Aliases.{Trees}
use Rattle.pb_start.specs.Actions.{action_view}
use Rattle.pb_finish.specs.Answers.{answer_data}
use Rattle.pb_finish.specs.Results.{result_view}
use Rattle.pb_start.specs.Passes.{pass_view}
use Rattle.pb_finish.proofs.Admissions.{AreLooked, after_owns}
use Rattle.pb_finish.proofs.admission.admit_answers.Given as goal

abbrev pub invariant-loop-pass : goal.invariant-loop-pass
invariant-loop-pass l = record {
  few : l.next ≤ l.pass-index;
  within : l.next ≤ length l.answers;
  looked : (f : Trees) → AreLooked (action_view f l.action) (map pass_view l.passes) l.answers l.next (map result_view l.results.items) (map pass_view (drop l.pass-index l.passes));
  same : (f : Trees) → admit_passes (action_view f l.action) (map pass_view l.passes) (map answer_data l.answers)
      ≡ after_owns (map result_view l.results.items) (admit_passes (action_view f l.action) (map pass_view (drop l.pass-index l.passes)) (map answer_data (drop l.next l.answers)));
}
