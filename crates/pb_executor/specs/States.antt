-- A run as its callers see it: what was accepted, the fork count, and what has happened.
use Rattle.std.specs.Prelude.{ℕ, List, []}
use Rattle.pb_language.specs.Machine.{State}
use Rattle.pb_inventory.specs.Inventory.{inventory_view}
use Rattle.pb_verify.specs.declared.checked.Accepted.{Accepted}
use Rattle.pb_schedule.specs.Schedules.{program_for}
use Rattle.pb_run.specs.Openings.{Opening, state_after}
use Rattle.pb_run.specs.Recorded.{data_of}
use Rattle.pb_run.specs.declared.event.Event.{Event}

pub record RunState : Type 0 where
  pub accepted : Accepted
  pub forks : ℕ
  pub history : List Event

-- a run in which nothing has happened yet
abbrev pub opened : Accepted → ℕ → RunState
opened a forks = record { accepted = a; forks = forks; history = [] }

-- what is run
abbrev pub opening_for : Accepted → ℕ → Opening
opening_for a forks =
    record { program = program_for a; inventory = inventory_view a.inventory; forks = forks }

abbrev pub opening_of : RunState → Opening
opening_of r = opening_for r.accepted r.forks

-- where the definitions' machine stands after what has happened
abbrev pub state_of : RunState → State
state_of r = state_after (opening_of r) (data_of r.history)
