use Rattle.pb_pool.specs.Executed.{IsAnswerOfOne, IsOpenedWith}
use Rattle.pb_pool.proofs.execution.execute.Given as goal

-- the ledgers of the blanks, and the book and the runners of the call
abbrev pub ghosts-execute_by-C-Ledger : goal.ghosts-execute_by-C-Ledger
ghosts-execute_by-C-Ledger g a = record { name = a.calls.name; parts = a.calls.parts }

abbrev pub ghosts-execute_by-G-Ledger : goal.ghosts-execute_by-G-Ledger
ghosts-execute_by-G-Ledger g a = record { name = a.gives.name; parts = a.gives.parts }

abbrev pub ghosts-execute_by-P-Rule : goal.ghosts-execute_by-P-Rule
ghosts-execute_by-P-Rule g a = record {
  of = IsOpenedWith a.checked.now a.forks;
  told = IsAnswerOfOne g.W.Runner.answers g.W.Runner.short a.runners.items (IsOpenedWith a.checked.now a.forks);
}
