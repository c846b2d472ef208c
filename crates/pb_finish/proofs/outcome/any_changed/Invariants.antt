use Rattle.std.proofs.Common.{◌≡◌, map, drop}
use Rattle.pb_language.specs.Give.{any_changed}
use Rattle.pb_finish.specs.Endings.{final_view}
use Rattle.pb_finish.proofs.outcome.any_changed.Given as goal

abbrev pub invariant-loop-item : goal.invariant-loop-item
invariant-loop-item l = any_changed (map final_view l.results) ≡ any_changed (map final_view (drop l.item-index l.results))
