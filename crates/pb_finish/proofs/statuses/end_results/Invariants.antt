use Rattle.std.proofs.Common.{◌≡◌, List, map}
use Rattle.pb_language.specs.Give as language
use Rattle.pb_language.specs.Give.{end_all, results_are}
use Rattle.pb_language.specs.Task.{Task}
use Rattle.pb_start.specs.Prepared.{Prepares}
use Rattle.pb_finish.specs.Endings.{final_view}
use Rattle.pb_finish.specs.Results.{result_view}
use Rattle.pb_finish.proofs.Statused.{after_ended}
use Rattle.pb_finish.proofs.statuses.end_results.Given as goal

abbrev pub invariant-loop-item : goal.invariant-loop-item
invariant-loop-item g l =
    (t : Task) → Prepares l.prepared t → (xs : List language.Ended) → end_all (g.V.Vars.world l.vars) t (map result_view l.fn.results.items) ≡ results_are xs
    → after_ended (map final_view l.all.items) (end_all (g.V.Vars.world l.vars) t (map result_view l.item-iterator.rest.items)) ≡ results_are xs
