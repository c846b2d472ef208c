use Rattle.std.proofs.Common.{◌≡◌, map, take}
use Rattle.pb_finish.specs.Answers.{answer_data}
use Rattle.pb_run.specs.Follows.{why_of}
use Rattle.pb_run.proofs.follow.copies_of.Given as goal

abbrev pub invariant-loop-answer : goal.invariant-loop-answer
invariant-loop-answer l = record {
  same : map answer_data l.copies.items ≡ map answer_data (take l.answer-index l.answers);
  whys : map why_of l.copies.items ≡ map why_of (take l.answer-index l.answers);
}
