use Rattle.std.proofs.Common.{◌≡◌, map, drop}
use Rattle.pb_language.specs.Give.{all_skipped}
use Rattle.pb_finish.specs.Endings.{final_view}
use Rattle.pb_finish.proofs.outcome.all_skipped.Given as goal

abbrev pub invariant-loop-item : goal.invariant-loop-item
invariant-loop-item l = all_skipped (map final_view l.results) ≡ all_skipped (map final_view (drop l.item-index l.results))
