use Rattle.pb_runner.proofs.script.answer_of.Goals as goal

pub returns-then-is_unreachable-clause-memory : goal.returns-then-is_unreachable-clause-memory
returns-then-is_unreachable-clause-memory c = λ failed. let clash = failed in cc
