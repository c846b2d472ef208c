-- The Turns that are due, one after the other, and what there is to do after them (this project's
-- own).
use Rattle.std.specs.Prelude.{ℕ, zero, suc, List, [], ◌∷◌, cond, length, Option, Some, None}
use Rattle.pb_language.specs.Drive.{Starting, next_start}
use Rattle.pb_language.specs.Machine.{State, enabled, step, turn}
use Rattle.pb_language.specs.Program.{Batch}

-- at most so many Turns, as long as one is enabled, and how many these are
abbrev pub turned_for : ℕ → State → State
turned_for zero s = s
turned_for (suc n) s = cond (enabled s turn) (turned_for n (step s turn)) s

abbrev pub turns_for : ℕ → State → ℕ
turns_for zero s = 0
turns_for (suc n) s = cond (enabled s turn) (suc (turns_for n (step s turn))) 0

-- each Turn leaves fewer batches, so there are no more Turns than batches
abbrev pub turned : State → State
turned s = turned_for (length s.batches) s

abbrev pub turns_due : State → ℕ
turns_due s = turns_for (length s.batches) s

-- a task is started on the host of that number, or nothing can be: while a job is out, since the
-- run has ended, or since it was stopped
pub data Next : Type 0 where
  starts : ℕ → Next
  waits : Next
  ended : Next
  stopped : Next

abbrev pub start_or : Option Starting → List Batch → Next
start_or (Some x) bs = starts x.number
start_or None [] = ended
start_or None (b ∷ bs) = waits

-- what there is to do, after the Turns that are due: the ready host with the lowest place starts,
-- ties by host order
abbrev pub next_of : State → Next
next_of s = cond s.is_stopped stopped (start_or (next_start (turned s)) (turned s).batches)
