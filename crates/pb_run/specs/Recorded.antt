-- The machine of a run with its history, as a state of the run.
use Rattle.std.specs.Prelude.{◌≡◌, ◌++◌, ℕ, List, [], ◌∷◌, Vec, Bool, true, false, ◌||◌, cond}
use Rattle.std.specs.Prelude.{get_or, map, length}
use Rattle.std.specs.declared.alloc.Global.{Global}
use Rattle.pb_language.specs.Expression.{Name}
use Rattle.pb_language.specs.Machine as machine
use Rattle.pb_language.specs.Machine.{State, empty_recap}
use Rattle.pb_language.specs.Program as program
use Rattle.pb_language.specs.Program.{all_batches}
use Rattle.pb_language.specs.Theorem.{are_distinct, host_names}
use Rattle.pb_history.specs.Jobs.{is_out_at}
use Rattle.pb_inventory.specs.Inventory.{inventory_view}
use Rattle.pb_inventory.specs.declared.inventory.Inventory.{Inventory}
use Rattle.pb_slots.specs.Words.{names_of_slots}
use Rattle.pb_slots.specs.declared.slots.Slots.{Slots}
use Rattle.pb_start.specs.declared.passes.Pass.{Pass}
use Rattle.pb_finish.specs.Answers.{answer_data}
use Rattle.pb_world.specs.Hosts.{AreNamed}
use Rattle.pb_core.specs.Cores.{AreBatches, tickets_of}
use Rattle.pb_core.specs.Hosts.{recap_view}
use Rattle.pb_core.specs.Readings.{Reading}
use Rattle.pb_core.specs.declared.batch.Schedule.{Schedule}
use Rattle.pb_core.specs.declared.recap.Recap.{Recap}
use Rattle.pb_jobs.specs.Machines.{IsMachine}
use Rattle.pb_jobs.specs.declared.machine.Machine.{Machine}
use Rattle.pb_run.specs.Openings.{AllEnabled, AreCounted, ArePlaces, Opening, flat_after}
use Rattle.pb_run.specs.Openings.{state_after}
use Rattle.pb_run.specs.declared.event.Event.{Event}
use Rattle.pb_run.specs.declared.event.Event.TheVariants.{Start, Give, Turn, Stop}
use Rattle.pb_run.specs.declared.recorded.RecordedMachine.{RecordedMachine}

abbrev pub event_data : Event → machine.Event
event_data (Start k) = machine.start k
event_data (Give k xs) = machine.give k (map answer_data xs.items)
event_data Turn = machine.turn
event_data Stop = machine.stop

abbrev pub data_of : List Event → List machine.Event
data_of es = map event_data es

-- the machine stands where the run does after these events, each of which was enabled; the jobs
-- that are out have their tickets, and the calls of each host are counted
pub record Stands (o : Opening) (es : List machine.Event) (m : Machine) (stopped : Bool)
    : Type 0 where
  pub reading : Reading (Vec Pass Global)
  pub machine : IsMachine m reading (flat_after o es)
  pub enabled : AllEnabled o es
  pub is_stopped : (flat_after o es).is_stopped ≡ stopped
  pub tickets : ArePlaces (tickets_of m.core) es
  pub counts : AreCounted m.calls.items o es

abbrev pub history_of : RecordedMachine → List Event
history_of m = m.history.items

-- the names of the slots of its variables
abbrev pub slot_names : RecordedMachine → List Name
slot_names m = names_of_slots m.machine.slots

-- it is the run after its history
abbrev pub IsRecorded : Opening → RecordedMachine → Type 0
IsRecorded o m = Stands o (data_of m.history.items) m.machine m.is_stopped

-- it is what that schedule is of, on these hosts, and nothing has happened yet
pub record IsScheduled (i : Inventory) (schedule : Schedule) (forks : ℕ) (o : Opening) : Type 0
  where
    pub inventory : o.inventory ≡ inventory_view i
    pub forks_are : o.forks ≡ forks
    pub distinct : are_distinct (host_names o.inventory.hosts) ≡ true
    pub batches : (name : ℕ → Name) → AreNamed name o.inventory.hosts
        → AreBatches name schedule.plays.items schedule.batches.items (all_batches o.program)

pub record IsOpened (o : Opening) (given : Slots) (m : RecordedMachine) : Type 0 where
  pub recorded : IsRecorded o m
  pub none_out : (k : ℕ) → is_out_at k (state_after o []) ≡ false
  pub slots : slot_names m ≡ names_of_slots given

abbrev pub Opens : Inventory → Slots → Schedule → ℕ → RecordedMachine → Type 0
Opens i slots schedule forks m =
    (o : Opening) → IsScheduled i schedule forks o → IsOpened o slots m

-- nothing happens any more: it was stopped, or has ended
abbrev pub is_none : List program.Batch → Bool
is_none [] = true
is_none (b ∷ bs) = false

abbrev pub is_over : State → Bool
is_over s = s.is_stopped || is_none s.batches

-- what a Stop records in that state
abbrev pub stop_events : State → List Event
stop_events s = cond (is_over s) [] (Stop ∷ [])

pub record IsStopped (o : Opening) (old new : RecordedMachine) : Type 0 where
  pub history : new.history.items
      ≡ old.history.items ++ stop_events (state_after o (data_of old.history.items))
  pub recorded : IsRecorded o new
  pub slots : slot_names new ≡ slot_names old

abbrev pub Stops : RecordedMachine → RecordedMachine → Type 0
Stops old new = (o : Opening) → IsRecorded o old → IsStopped o old new

-- the recaps of the hosts, in host order
abbrev pub recaps_in : State → List machine.Recap
recaps_in s = map (λ h. h.recap) s.hosts

-- the recap of the host of that number; of none, nothing
abbrev pub Recaps : ℕ → Recap → RecordedMachine → Type 0
Recaps k r m = (o : Opening) → IsRecorded o m
    → recap_view r ≡ get_or (recaps_in (state_after o (data_of m.history.items))) k empty_recap

-- whether it was stopped
abbrev pub TellsStopped : Bool → RecordedMachine → Type 0
TellsStopped q m = (o : Opening) → IsRecorded o m
    → q ≡ (state_after o (data_of m.history.items)).is_stopped

-- there are so many hosts
abbrev pub CountsHosts : ℕ → RecordedMachine → Type 0
CountsHosts n m = (o : Opening) → IsRecorded o m
    → (n ≡ length (state_after o (data_of m.history.items)).hosts)
    × (n ≡ length o.inventory.hosts)
