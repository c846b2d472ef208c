use Rattle.std.proofs.Common.{◌≡◌, map, take}
use Rattle.pb_value.specs.View.{view}
use Rattle.pb_journal.specs.Said.{told_by, told_data}
use Rattle.pb_journal.proofs.event.answer_values.Given as goal

abbrev pub invariant-loop-answer : goal.invariant-loop-answer
invariant-loop-answer l = map view l.found.items ≡ map (λ r. told_data (told_by r)) (take l.answer-index l.answers)
