use Rattle.std.proofs.Common.{map, take_all, ap, ◌∙◌, arith}
use Rattle.pb_value.specs.View.{items_of}
use Rattle.pb_journal.specs.Said.{told_by, told_data}
use Rattle.pb_journal.proofs.Told.{told_each}
use Rattle.pb_journal.proofs.event.answer_values.Goals as goal

pub returns : goal.returns
returns c =
    ap items_of (c.loop-answer.invariant ∙ ap (map (λ r. told_data (told_by r))) (take_all c.loop-answer.answer-index c.args.answers.now (omega arith)))
    ∙ told_each c.args.answers.now
