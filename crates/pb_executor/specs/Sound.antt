-- What holds of every run of what was accepted.
use Rattle.std.specs.Prelude.{◌≡◌, ◌≤◌, ◌+◌, ℕ, false, length}
use Rattle.pb_language.specs.Program.{all_batches}
use Rattle.pb_language.specs.Theorem.{occurrence_events}
use Rattle.pb_schedule.specs.Schedules.{program_for}
use Rattle.pb_run.specs.Openings.{AllEnabled}
use Rattle.pb_run.specs.Recorded.{data_of}
use Rattle.pb_executor.specs.States.{RunState, opening_of, state_of}

-- the most events of a run: for each task on each host a Start and a Give for each attempt, one for
-- each batch, and one Stop
abbrev pub most_events : RunState → ℕ
most_events r = occurrence_events (all_batches (program_for r.accepted))
    + length (all_batches (program_for r.accepted)) + 1

-- it is the machine's run of its history, each event of which was enabled: no step was stuck, no
-- more calls were handed out than the budget, and few events happened
pub record IsSound (r : RunState) : Type 0 where
  pub enabled : AllEnabled (opening_of r) (data_of r.history)
  pub never_stuck : (state_of r).is_stuck ≡ false
  pub within : (state_of r).handed ≤ r.accepted.budget
  pub short : length r.history ≤ most_events r
