use Rattle.std.proofs.Common.{◌≡◌, ◌++◌, map}
use Rattle.pb_language.specs.Give.{last_attempts}
use Rattle.pb_finish.specs.Endings.{final_view}
use Rattle.pb_finish.proofs.ending.fail_last_attempts.Given as goal

abbrev pub invariant-loop-item : goal.invariant-loop-item
invariant-loop-item l = last_attempts (map final_view l.fn.results.items) ≡ map final_view l.last.items ++ last_attempts (map final_view l.item-iterator.rest.items)
