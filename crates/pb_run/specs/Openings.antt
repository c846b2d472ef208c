-- What is run: the batches of a program on the hosts of an inventory.
use Rattle.std.specs.Prelude.{◌≡◌, ◌<◌, ℕ, List, [], false, Option, Some, None, get_or, length}
use Rattle.pb_language.specs.Machine as machine
use Rattle.pb_language.specs.Machine.{Event, State}
use Rattle.pb_language.specs.Program.{Inventory, Program}
use Rattle.pb_machine.specs.Run as flat
use Rattle.pb_machine.specs.Run.{FlatState}
use Rattle.pb_history.specs.Jobs.{handed_to, last_place}

-- at most so many hosts have a job out at one time
pub record Opening : Type 0 where
  pub program : Program
  pub inventory : Inventory
  pub forks : ℕ

-- where the definitions' machine stands after these events, and the one on flat plans
abbrev pub state_after : Opening → List Event → State
state_after o es = machine.run o.program o.inventory o.forks es

abbrev pub flat_after : Opening → List Event → FlatState
flat_after o es = flat.run o.program o.inventory o.forks es

-- each of these events is enabled where it comes
abbrev pub AllEnabled : Opening → List Event → Type 0
AllEnabled o es =
    machine.history (machine.opening o.program o.inventory o.forks) es ≡ es

-- whatever happens, no step is stuck
abbrev pub IsNeverStuck : Opening → Type 0
IsNeverStuck o = (es : List Event) → (state_after o es).is_stuck ≡ false

-- host by host: the tickets of jobs that are out are the places of the hosts' last events
abbrev pub ArePlaces : List (Option ℕ) → List Event → Type 0
ArePlaces ts es = (k p : ℕ) → get_or ts k None ≡ Some p → last_place k es ≡ Some p

-- and so many calls were handed out
abbrev pub AreCounted : List ℕ → Opening → List Event → Type 0
AreCounted cs o es =
    (k : ℕ) → k < length cs → get_or cs k 0 ≡ handed_to k (state_after o []) es
