-- The task where a host stands, by what is seen of the run.
use Rattle.std.specs.Prelude.{◌≡◌, ℕ, List, Vec, Some, get_or, slice_get, string_bytes}
use Rattle.std.specs.declared.alloc.Global.{Global}
use Rattle.pb_language.specs.Expression.{Name}
use Rattle.pb_language.specs.Notify.{all_notified, handlers_are}
use Rattle.pb_machine.specs.Hosts.{FlatHost}
use Rattle.pb_machine.specs.Run.{FlatState, host_at, plan_steps}
use Rattle.pb_machine.specs.Ways.{step_at}
use Rattle.pb_history.specs.Happens.{Works}
use Rattle.pb_start.specs.declared.passes.Pass.{Pass}
use Rattle.pb_steps.specs.declared.step.Step.{Step}
use Rattle.pb_core.specs.Readings.{Reading}
use Rattle.pb_jobs.specs.Scenes.{IsAtNode, IsScene, IsTaskOf}
use Rattle.pb_jobs.specs.declared.host_task.HostTask.{HostTask}
use Rattle.pb_jobs.specs.declared.scene.RunScene.{RunScene}

-- the host's name
abbrev pub IsNameOf : RunScene → ℕ → Name → Type 0
IsNameOf c k name = (reading : Reading (Vec Pass Global)) (s : FlatState) → IsScene c reading s
    → (h : FlatHost) → host_at k s.hosts ≡ Some h → name ≡ h.name

-- a step that knows which handlers the host's task notifies
abbrev pub IsStepOf : RunScene → ℕ → Step → Type 0
IsStepOf c k x = (reading : Reading (Vec Pass Global)) (s : FlatState) → IsScene c reading s
    → (n : IsAtNode s k) (is : List ℕ) → all_notified n.batch.play.handlers
    (step_at (plan_steps n.batch) n.node).task.notifies ≡ handlers_are is → x.notifies.items ≡ is

-- it is what is seen of the task where the host stands
pub record IsHostTask (c : RunScene) (k : ℕ) (t : HostTask) : Type 0 where
  pub name : IsNameOf c k (string_bytes t.name.now.value)
  pub state : slice_get c.core.now.hosts.items k ≡ Some t.state.now
  pub task : IsTaskOf c k t.task.now
  pub step : IsStepOf c k t.step.now
  pub before : t.before ≡ get_or c.calls.now k 0

-- in no state that is seen the host stands before a task, or in one
abbrev pub HasNoTask : RunScene → ℕ → Type 0
HasNoTask c k = (reading : Reading (Vec Pass Global)) (s : FlatState) → IsScene c reading s
    → IsAtNode s k → ⊥

-- in none a job of the host is out
abbrev pub IsNotOut : RunScene → ℕ → Type 0
IsNotOut c k = (reading : Reading (Vec Pass Global)) (s : FlatState) → IsScene c reading s
    → Works s k → ⊥
