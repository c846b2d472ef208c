-- What a fault says of the machine: the event can't happen, or a count has no room for it.
use Rattle.std.specs.Prelude.{◌≡◌, ◌≤◌, ◌+◌, ◌<◌, ◌^◌, ℕ, suc, List, Vec, All, IfSome, String}
use Rattle.std.specs.Prelude.{false, get_or, true}
use Rattle.std.specs.declared.alloc.Global.{Global}
use Rattle.pb_language.specs.Expression.{Name}
use Rattle.pb_language.specs.Give.{Answer}
use Rattle.pb_language.specs.Machine.{give, start}
use Rattle.pb_language.specs.Start.{call_count}
use Rattle.pb_machine.specs.Run as flat
use Rattle.pb_machine.specs.Run.{FlatState}
use Rattle.pb_history.specs.Happens.{MayStart, Works}
use Rattle.pb_slots.specs.Words.{names_of_slots}
use Rattle.pb_value.specs.View.{fields_view}
use Rattle.pb_value.specs.declared.value.Value.{Value}
use Rattle.pb_start.specs.declared.passes.Pass.{Pass}
use Rattle.pb_world.specs.Writes.{have_slots}
use Rattle.pb_core.specs.Cores.{AreOfNoProgram, counts_at, job_at}
use Rattle.pb_core.specs.Events.{IsDisabled}
use Rattle.pb_core.specs.Readings.{Reading}
use Rattle.pb_core.specs.declared.batch.Schedule.{Schedule}
use Rattle.pb_core.specs.declared.fault.CoreFault.{CoreFault}
use Rattle.pb_core.specs.declared.fault.CoreFault.TheVariants.{Full, Memory, NotThere}
use Rattle.pb_core.specs.declared.outcome.TaskOutcome.{TaskOutcome}
use Rattle.pb_jobs.specs.Machines.{IsMachine}
use Rattle.pb_jobs.specs.Tasks.{EndsSo}
use Rattle.pb_jobs.specs.declared.machine.Machine.{Machine}

-- ---- as it is opened

-- no program has that schedule
abbrev pub OpensNot : Schedule → CoreFault → Type 0
OpensNot schedule (Memory e) = Unit {0}
OpensNot schedule NotThere = AreOfNoProgram schedule.plays.items schedule.batches.items
OpensNot schedule Full = ⊥

-- ---- at a Start

-- in no state that the machine is the host may start
abbrev pub CannotBegin : ℕ → Machine → Type 0
CannotBegin k m = (reading : Reading (Vec Pass Global)) (s : FlatState) → IsMachine m reading s
    → MayStart s k → ⊥

-- a host to whom no more calls were handed out than in the run starts: the run has handed out more
-- than a count has room for
abbrev pub StartPast : ℕ → Machine → FlatState → Type 0
StartPast k m s = MayStart s k → (flat.step s (start k)).is_stuck ≡ false
    → get_or m.calls.items k 0 ≤ s.handed → 2 ^ 64 ≤ (flat.step s (start k)).handed

abbrev pub BeginsPast : ℕ → Machine → Type 0
BeginsPast k m = (reading : Reading (Vec Pass Global)) (s : FlatState) → IsMachine m reading s
    → StartPast k m s

-- ---- at a Give

-- each variable that the task sets by these answers has one of these slots
abbrev pub HasSlots : {s : FlatState} → {k : ℕ} → Works s k → List Answer → List Name → Type 0
HasSlots w xs names = (o : TaskOutcome) (ws : List (String Global × Value))
    → EndsSo w xs o (fields_view ws) → have_slots names ws ≡ true

-- in no state that the machine is a job of the host is out whose Give isn't stuck and each of whose
-- variables has a slot
abbrev pub CannotGive : ℕ → List Answer → Machine → Type 0
CannotGive k xs m = (reading : Reading (Vec Pass Global)) (s : FlatState) → IsMachine m reading s
    → (w : Works s k) → (flat.step s (give k xs)).is_stuck ≡ false
    → HasSlots w xs (names_of_slots m.slots) → ⊥

abbrev pub CannotLeave : ℕ → Machine → Type 0
CannotLeave k m = (xs : List Answer) → IsDisabled (give k xs) m.core

abbrev pub CannotAgain : ℕ → Machine → Type 0
CannotAgain k m = (reading : Reading (Vec Pass Global)) (s : FlatState) → IsMachine m reading s
    → Works s k → ⊥

abbrev pub CannotSettle : ℕ → TaskOutcome → List (String Global × Value) → Machine → Type 0
CannotSettle k o ws m = (reading : Reading (Vec Pass Global)) (s : FlatState)
    → IsMachine m reading s → (w : Works s k) (xs : List Answer) → EndsSo w xs o (fields_view ws)
    → have_slots (names_of_slots m.slots) ws ≡ true → ⊥

-- a count of the host's recap has no room
abbrev pub IsCounted : ℕ → Machine → Type 0
IsCounted k m = All (λ n. suc n < 2 ^ 64) (counts_at m.core k) → ⊥

-- the counts of the host's attempts and of its recap have room, and no more calls were handed out
-- to it than in the run
pub record HasRoom (k : ℕ) (m : Machine) (s : FlatState) : Type 0 where
  pub calls : get_or m.calls.items k 0 ≤ s.handed
  pub attempts : IfSome (job_at m.core k) (λ j. suc j.0 < 2 ^ 64)
  pub counts : All (λ n. suc n < 2 ^ 64) (counts_at m.core k)

-- a job is made again: the run has handed out more calls than a count has room for
abbrev pub AgainPast : ℕ → Machine → Type 0
AgainPast k m = (reading : Reading (Vec Pass Global)) (s : FlatState) → IsMachine m reading s
    → (w : Works s k) → HasRoom k m s → 2 ^ 64 ≤ s.handed + call_count w.passes

abbrev pub GivesPast : ℕ → List Answer → Machine → Type 0
GivesPast k xs m = (reading : Reading (Vec Pass Global)) (s : FlatState) → IsMachine m reading s
    → Works s k → (flat.step s (give k xs)).is_stuck ≡ false → HasRoom k m s
    → 2 ^ 64 ≤ (flat.step s (give k xs)).handed
