-- What a run keeps, as a state of pb_machine's machine, and what a host's task sees of it.
use Rattle.std.specs.Prelude.{◌≡◌, ◌<◌, ℕ, suc, List, ◌∷◌, Vec, map, get_or, length, Option}
use Rattle.std.specs.Prelude.{Some, nat_lt, option_map, true}
use Rattle.std.specs.List.{list_all}
use Rattle.std.specs.declared.alloc.Global.{Global}
use Rattle.pb_language.specs.Program as program
use Rattle.pb_language.specs.World.{HostVariables}
use Rattle.pb_language.specs.Cases.{action_name}
use Rattle.pb_language.specs.Machine.{innermost, outermost}
use Rattle.pb_language.specs.Task.{Task}
use Rattle.pb_machine.specs.Hosts.{FlatHost, at}
use Rattle.pb_machine.specs.Run.{FlatState, host_at, plan_steps}
use Rattle.pb_machine.specs.Ways.{step_at}
use Rattle.pb_history.specs.Jobs.{pass_calls}
use Rattle.pb_value.specs.View.{view}
use Rattle.pb_value.specs.declared.value.Value.{Value}
use Rattle.pb_inventory.specs.Inventory.{inventory_view}
use Rattle.pb_inventory.specs.Numbered.{name_of}
use Rattle.pb_inventory.specs.declared.inventory.Inventory.{Inventory}
use Rattle.pb_slots.specs.Words.{names_of_slots}
use Rattle.pb_slots.specs.declared.slots.Slots.{Slots}
use Rattle.pb_facts.specs.Facts.{Held}
use Rattle.pb_start.specs.Passes.{pass_view}
use Rattle.pb_start.specs.Prepared.{Prepares}
use Rattle.pb_start.specs.declared.passes.Pass.{Pass}
use Rattle.pb_start.specs.declared.prepared.Prepared.{Prepared}
use Rattle.pb_world.specs.Constants.{AreConstants, names_data}
use Rattle.pb_world.specs.Hosts.{names_of_hosts}
use Rattle.pb_world.specs.Variables.{host_variables}
use Rattle.pb_world.specs.World.{failure_value}
use Rattle.pb_world.specs.declared.constants.Constants.{Constants}
use Rattle.pb_core.specs.Readings.{Reading}
use Rattle.pb_core.specs.Cores.{IsCore}
use Rattle.pb_core.specs.Events.{active_in}
use Rattle.pb_core.specs.Hosts.{location_in}
use Rattle.pb_core.specs.declared.run.RunCore.{RunCore}
use Rattle.pb_jobs.specs.Calls.{call_data}
use Rattle.pb_jobs.specs.declared.job.Call.{Call}
use Rattle.pb_jobs.specs.declared.scene.RunScene.{RunScene}

-- what a run keeps of where its hosts stand
pub record Kept : Type 0 where
  pub inventory : Inventory
  pub slots : Slots
  pub facts : Held
  pub constants : Constants
  pub core : RunCore (Vec Pass Global)

abbrev pub hosts_of : Kept → List HostVariables
hosts_of k = (inventory_view k.inventory).hosts

-- the values of the run stand for that
pub record IsReading (k : Kept) (reading : Reading (Vec Pass Global)) : Type 0 where
  pub variables : (i : ℕ) → reading.variables i
      ≡ host_variables (hosts_of k) (names_of_slots k.slots) k.facts i
  pub passes : (ps : Vec Pass Global) → reading.passes ps ≡ map pass_view ps.items
  pub name : (i : ℕ) → i < length (hosts_of k)
      → reading.name i ≡ name_of (names_of_hosts (hosts_of k)) i

-- it is that state
pub record IsKept (k : Kept) (reading : Reading (Vec Pass Global)) (s : FlatState) : Type 0 where
  pub reads : IsReading k reading
  pub core : IsCore reading k.core s
  pub inventory : s.inventory ≡ inventory_view k.inventory
  pub constants : AreConstants (inventory_view k.inventory) k.constants
  pub count : length k.core.hosts.items ≡ length (hosts_of k)

abbrev pub kept_by : RunScene → Kept
kept_by c = record {
  inventory = c.world.variables.inventory.now;
  slots = c.world.variables.slots.now;
  facts = c.world.variables.facts.now;
  constants = c.world.constants.now;
  core = c.core.now;
}

-- what is seen is that state
pub record IsScene (c : RunScene) (reading : Reading (Vec Pass Global)) (s : FlatState) : Type 0
  where
    pub kept : IsKept (kept_by c) reading s
    pub hosts : map reading.name c.world.active.now.members ≡ active_in s.hosts s.batches
    pub names : view c.world.play_batch.now ≡ names_data s.inventory c.world.active.now.members
    pub within : list_all (λ k. nat_lt k (length (hosts_of (kept_by c))))
        c.world.active.now.members ≡ true

-- a host stands before a task, or in it, at that node
pub record IsAtNode (s : FlatState) (k : ℕ) : Type 0 where
  pub batch : program.Batch
  pub later : List program.Batch
  pub host : FlatHost
  pub node : ℕ
  pub batches : s.batches ≡ batch ∷ later
  pub there : host_at k s.hosts ≡ Some host
  pub stage : location_in host.stage ≡ at node

-- it is the place of the host's task among the steps of the play
abbrev pub IsNodeOf : RunScene → ℕ → ℕ → Type 0
IsNodeOf c k index = (reading : Reading (Vec Pass Global)) (s : FlatState)
    → IsScene c reading s → (n : IsAtNode s k)
    → (n.node ≡ suc index) × (index < length (plan_steps n.batch))

-- it is the task where the host stands
abbrev pub IsTaskOf : RunScene → ℕ → Prepared → Type 0
IsTaskOf c k t = (reading : Reading (Vec Pass Global)) (s : FlatState) → IsScene c reading s
    → (n : IsAtNode s k) → Prepares t (step_at (plan_steps n.batch) n.node).task

-- the failure that a task sees inside so many `rescue` parts
abbrev pub HasFailure : RunScene → ℕ → ℕ → Option Value → Type 0
HasFailure c k depth v = (reading : Reading (Vec Pass Global)) (s : FlatState)
    → IsScene c reading s → (h : FlatHost) → host_at k s.hosts ≡ Some h
    → option_map view v ≡ failure_value depth (innermost (outermost depth h.rescues))

-- the calls of that task's passes on the host
abbrev pub CallsAs : RunScene → ℕ → Prepared → List Pass → List Call → Type 0
CallsAs c k p ps cs = (reading : Reading (Vec Pass Global)) (s : FlatState)
    → IsScene c reading s → (h : FlatHost) → host_at k s.hosts ≡ Some h → (t : Task)
    → Prepares p t → map call_data cs
    ≡ pass_calls k h.name (action_name t.action) (map pass_view ps) (get_or c.calls.now k 0)
