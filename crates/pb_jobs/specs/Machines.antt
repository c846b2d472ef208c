-- The machine of a run, as a state of pb_machine's machine.
use Rattle.std.specs.Prelude.{◌≡◌, ◌+◌, ℕ, List, Vec, Bool, true, false, IfSome, IsSome, OnOk}
use Rattle.std.specs.Prelude.{Option, Result, Some, None, String, get_or, length, map, slice_set}
use Rattle.std.specs.declared.alloc.AllocError.{AllocError}
use Rattle.std.specs.declared.alloc.Global.{Global}
use Rattle.pb_language.specs.Cases.{action_name}
use Rattle.pb_language.specs.Give.{Answer}
use Rattle.pb_language.specs.Machine.{give, start, stop, turn}
use Rattle.pb_language.specs.Program.{Program, all_batches}
use Rattle.pb_language.specs.Start as started
use Rattle.pb_language.specs.Start.{plan_of, planned}
use Rattle.pb_machine.specs.Hosts.{FlatHost}
use Rattle.pb_machine.specs.Run as flat
use Rattle.pb_machine.specs.Run.{FlatState}
use Rattle.pb_history.specs.Happens as happens
use Rattle.pb_history.specs.Happens.{MayStart, Works, left_by, step_in, task_of_start}
use Rattle.pb_history.specs.Happens.{turned}
use Rattle.pb_history.specs.Jobs.{pass_calls}
use Rattle.pb_inventory.specs.Inventory.{inventory_view}
use Rattle.pb_value.specs.View.{fields_view}
use Rattle.pb_value.specs.declared.value.Value.{Value}
use Rattle.pb_start.specs.declared.passes.Pass.{Pass}
use Rattle.pb_core.specs.Cores.{AreBatches, tickets_of}
use Rattle.pb_core.specs.Events.{TurnsAll}
use Rattle.pb_core.specs.Formers.{before_turns}
use Rattle.pb_core.specs.Readings.{Reading}
use Rattle.pb_core.specs.declared.batch.Schedule.{Schedule}
use Rattle.pb_core.specs.declared.outcome.TaskOutcome.{TaskOutcome}
use Rattle.pb_core.specs.declared.run.RunCore.{RunCore}
use Rattle.pb_core.specs.declared.turns.Turned.{Turned}
use Rattle.pb_jobs.specs.Active.{IsActiveBatch}
use Rattle.pb_jobs.specs.Calls.{call_data}
use Rattle.pb_jobs.specs.Scenes.{IsKept, IsReading, Kept}
use Rattle.pb_jobs.specs.Tasks.{EndsSo, Repeats}
use Rattle.pb_jobs.specs.declared.active.ActiveBatch.{ActiveBatch}
use Rattle.pb_jobs.specs.declared.job.Call.{Call}
use Rattle.pb_jobs.specs.declared.machine.Answered.{Answered}
use Rattle.pb_jobs.specs.declared.machine.Answered.TheVariants as answered
use Rattle.pb_jobs.specs.declared.machine.Machine.{Machine}
use Rattle.pb_jobs.specs.declared.scene.RunScene.{RunScene}

abbrev pub kept_in : Machine → Kept
kept_in m = record {
  inventory = m.inventory.now;
  slots = m.slots;
  facts = m.facts;
  constants = m.constants;
  core = m.core;
}

-- it is that state, and its active hosts are those of the state where they are known
pub record IsMachine (m : Machine) (reading : Reading (Vec Pass Global)) (s : FlatState)
    : Type 0 where
  pub kept : IsKept (kept_in m) reading s
  pub batch : IfSome m.batch (IsActiveBatch reading (inventory_view m.inventory.now) s)

-- nothing but whether the active hosts are known
pub record IsSameBut (old new : Machine) : Type 0 where
  pub inventory : new.inventory ≡ old.inventory
  pub slots : new.slots ≡ old.slots
  pub constants : new.constants ≡ old.constants
  pub facts : new.facts ≡ old.facts
  pub core : new.core ≡ old.core
  pub calls : new.calls ≡ old.calls
  pub batch : (reading : Reading (Vec Pass Global)) (s : FlatState) → IsMachine old reading s
      → IfSome new.batch (IsActiveBatch reading (inventory_view new.inventory.now) s)

pub record Looks (old new : Machine) (r : Result Unit AllocError) : Type 0 where
  pub same : IsSameBut old new
  pub known : OnOk r (IsSome new.batch)

-- what is seen of that machine, with the hosts at that core
pub record IsSceneOf (m : Machine) (hosts : RunCore (Vec Pass Global)) (b : ActiveBatch)
    (c : RunScene) : Type 0 where
  pub inventory : c.world.variables.inventory.now ≡ m.inventory.now
  pub slots : c.world.variables.slots.now ≡ m.slots
  pub facts : c.world.variables.facts.now ≡ m.facts
  pub constants : c.world.constants.now ≡ m.constants
  pub active : c.world.active.now ≡ b.hosts
  pub names : c.world.play_batch.now ≡ b.names
  pub core : c.core.now ≡ hosts
  pub calls : c.calls.now ≡ m.calls.items

-- a host that may start starts, where that isn't stuck, and these are its calls
pub record HasBegun (k : ℕ) (cs : List Call) (before : ℕ) (new : Machine)
    (reading : Reading (Vec Pass Global)) {s : FlatState} (m : MayStart s k) : Type 0 where
  pub machine : IsMachine new reading (flat.step s (start k))
  pub passes : List started.Pass
  pub plans : plan_of (flat.world_of s m.batch m.host (task_of_start m)) (task_of_start m)
      (task_of_start m).loop ≡ planned passes
  pub calls : map call_data cs
      ≡ pass_calls k m.host.name (action_name (task_of_start m).action) passes before

abbrev pub BeginsAs : ℕ → List Call → Machine → Machine → Type 0
BeginsAs k cs old new = (reading : Reading (Vec Pass Global)) (s : FlatState)
    → IsMachine old reading s → (m : MayStart s k) → (flat.step s (start k)).is_stuck ≡ false
    → HasBegun k cs (get_or old.calls.items k 0) new reading m

-- the same after so many Turns
abbrev pub BeginsAfter : ℕ → ℕ → List Call → Machine → Machine → Type 0
BeginsAfter n k cs old new = (reading : Reading (Vec Pass Global)) (s : FlatState)
    → IsMachine old reading s → (m : MayStart (turned n s) k)
    → (flat.step (turned n s) (start k)).is_stuck ≡ false
    → HasBegun k cs (get_or old.calls.items k 0) new reading m

abbrev pub GoesOnTo : ℕ → Machine → Machine → Type 0
GoesOnTo n old new = (reading : Reading (Vec Pass Global)) (s : FlatState)
    → IsMachine old reading s → IsMachine new reading (turned n s)

-- so many Turns happened, which are all that may
pub record TurnsAllAs (n : ℕ) (old new : Machine) : Type 0 where
  pub core : TurnsAll n old.core new.core
  pub machine : GoesOnTo n old new
  pub tickets : tickets_of new.core ≡ tickets_of old.core
  pub calls : new.calls ≡ old.calls
  pub slots : new.slots ≡ old.slots

-- the machine before those Turns, but for whether the active hosts are known
pub record IsBefore (t : Turned) (new old : Machine) : Type 0 where
  pub inventory : old.inventory ≡ new.inventory
  pub slots : old.slots ≡ new.slots
  pub constants : old.constants ≡ new.constants
  pub facts : old.facts ≡ new.facts
  pub core : old.core ≡ before_turns t new.core
  pub calls : old.calls ≡ new.calls

-- it is the state after one Turn that may happen
abbrev pub TurnsAs : Machine → Machine → Type 0
TurnsAs old new = (reading : Reading (Vec Pass Global)) (s : FlatState) → IsMachine old reading s
    → flat.enabled s turn ≡ true → IsMachine new reading (flat.step s turn)

-- a Stop where one may happen, and else nothing
abbrev pub StopsAs : Machine → Machine → Type 0
StopsAs old new = (reading : Reading (Vec Pass Global)) (s : FlatState) → IsMachine old reading s
    → (flat.enabled s stop ≡ true → IsMachine new reading (flat.step s stop))
    × (flat.enabled s stop ≡ false → IsSameBut old new)

-- it is the run's beginning, however its values are read, where those are the program's batches
abbrev pub OpensAs : Schedule → ℕ → Machine → Type 0
OpensAs schedule forks m = (reading : Reading (Vec Pass Global)) (program : Program)
    → IsReading (kept_in m) reading
    → AreBatches reading.name schedule.plays.items schedule.batches.items (all_batches program)
    → IsMachine m reading (flat.opening program (inventory_view m.inventory.now) forks)

-- so many more calls were handed out to the host, and the slots of variables stay
pub record CountsMore (k n : ℕ) (old new : Machine) : Type 0 where
  pub calls : new.calls.items ≡ slice_set old.calls.items k (get_or old.calls.items k 0 + n)
  pub slots : new.slots ≡ old.slots

-- none were
pub record CountsNone (old new : Machine) : Type 0 where
  pub calls : new.calls ≡ old.calls
  pub slots : new.slots ≡ old.slots

abbrev pub ticket_after : ℕ → Answered → Option ℕ
ticket_after t answered.Done = None
ticket_after t (answered.Again cs) = Some t

abbrev pub calls_after : Answered → ℕ
calls_after answered.Done = 0
calls_after (answered.Again cs) = length cs.items

-- it is the state after that Give, with some reading
pub record IsAfterGive (k : ℕ) (xs : List Answer) (new : Machine) (s : FlatState) : Type 0 where
  pub reading : Reading (Vec Pass Global)
  pub machine : IsMachine new reading (flat.step s (give k xs))

abbrev pub LeavesAs : ℕ → Bool → Machine → Machine → Type 0
LeavesAs k is_reached old new = (reading : Reading (Vec Pass Global)) (s : FlatState)
    → IsMachine old reading s → (w : Works s k) (xs : List Answer)
    → happens.answered w xs ≡ left_by is_reached → IsAfterGive k xs new s

-- the calls of the job that is out, once more
abbrev pub AreCallsOf : {s : FlatState} → {k : ℕ} → Works s k → ℕ → List Call → Type 0
AreCallsOf {k = k} w before cs = map call_data cs
    ≡ pass_calls k w.host.name (action_name (step_in w).task.action) w.passes before

abbrev pub AgainAs : ℕ → List Call → Machine → Machine → Type 0
AgainAs k cs old new = (reading : Reading (Vec Pass Global)) (s : FlatState)
    → IsMachine old reading s → (w : Works s k) (xs : List Answer) → Repeats w xs
    → IsAfterGive k xs new s × AreCallsOf w (get_or old.calls.items k 0) cs

abbrev pub SettlesAs : ℕ → TaskOutcome → List (String Global × Value) → Machine → Machine → Type 0
SettlesAs k o ws old new = (reading : Reading (Vec Pass Global)) (s : FlatState)
    → IsMachine old reading s → (w : Works s k) (xs : List Answer)
    → EndsSo w xs o (fields_view ws) → IsAfterGive k xs new s

-- where the job's calls are made again its answers ask for that
abbrev pub HasCallsAfter : {s : FlatState} → {k : ℕ} → Works s k → List Answer → ℕ → Answered
    → Type 0
HasCallsAfter w xs before answered.Done = Unit {0}
HasCallsAfter w xs before (answered.Again cs) = Repeats w xs × AreCallsOf w before cs.items

-- the job of a host, to whom so many calls were handed out before, was answered
pub record HasGiven {s : FlatState} {k : ℕ} (w : Works s k) (xs : List Answer) (a : Answered)
    (before : ℕ) (new : Machine) : Type 0 where
  pub after : IsAfterGive k xs new s
  pub calls : HasCallsAfter w xs before a
  pub hosts : List FlatHost
  pub steps : flat.step s (give k xs)
      ≡ record s { hosts = hosts; handed = s.handed + calls_after a }

-- a job that is out is answered, where that isn't stuck
abbrev pub GivesAs : ℕ → List Answer → Answered → Machine → Machine → Type 0
GivesAs k xs a old new = (reading : Reading (Vec Pass Global)) (s : FlatState)
    → IsMachine old reading s → (w : Works s k) → (flat.step s (give k xs)).is_stuck ≡ false
    → HasGiven w xs a (get_or old.calls.items k 0) new
