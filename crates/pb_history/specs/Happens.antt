-- What happens in pb_machine's machine, by what was evaluated.
use Rattle.std.specs.Prelude.{◌≡◌, ℕ, zero, suc, List, ◌∷◌, Bool, true, false, Some}
use Rattle.pb_language.specs.Start.{Pass, planned, plan_of}
use Rattle.pb_language.specs.Task.{Task}
use Rattle.pb_language.specs.Give.{Answer, Own, Admitted, admitted, breached, unreached}
use Rattle.pb_language.specs.Give.{admit_passes, Ended, results_are, end_all}
use Rattle.pb_language.specs.Program.{Batch}
use Rattle.pb_language.specs.Machine.{start, turn}
use Rattle.pb_machine.specs.Hosts.{FlatHost, stands, works, at}
use Rattle.pb_machine.specs.Steps.{Step}
use Rattle.pb_machine.specs.Ways.{step_at}
use Rattle.pb_machine.specs.Run as flat
use Rattle.pb_machine.specs.Run.{FlatState, plan_steps}

-- a host may start its task
pub record MayStart (s : FlatState) (k : ℕ) : Type 0 where
  pub batch : Batch
  pub later : List Batch
  pub host : FlatHost
  pub node : ℕ
  pub batches : s.batches ≡ batch ∷ later
  pub there : flat.host_at k s.hosts ≡ Some host
  pub stage : host.stage ≡ stands (at node)
  pub enabled : flat.enabled s (start k) ≡ true

abbrev pub task_of_start : {s : FlatState} → {k : ℕ} → MayStart s k → Task
task_of_start m = (step_at (plan_steps m.batch) m.node).task

-- a host may start, and its task comes to these passes
pub record Starts (s : FlatState) (k : ℕ) (ps : List Pass) : Type 0 where
  pub batch : Batch
  pub later : List Batch
  pub host : FlatHost
  pub node : ℕ
  pub batches : s.batches ≡ batch ∷ later
  pub there : flat.host_at k s.hosts ≡ Some host
  pub stage : host.stage ≡ stands (at node)
  pub enabled : flat.enabled s (start k) ≡ true
  pub plans : (let t = (step_at (plan_steps batch) node).task in
      plan_of (flat.world_of s batch host t) t t.loop) ≡ planned ps

-- a job of a host is out
pub record Works (s : FlatState) (k : ℕ) : Type 0 where
  pub batch : Batch
  pub later : List Batch
  pub host : FlatHost
  pub node : ℕ
  pub attempts : ℕ
  pub passes : List Pass
  pub batches : s.batches ≡ batch ∷ later
  pub there : flat.host_at k s.hosts ≡ Some host
  pub stage : host.stage ≡ works node attempts passes
  pub going : s.is_stopped ≡ false

-- its step, and what its answers are admitted as
abbrev pub step_in : {s : FlatState} → {k : ℕ} → Works s k → Step
step_in w = step_at (plan_steps w.batch) w.node

abbrev pub answered : {s : FlatState} → {k : ℕ} → Works s k → List Answer → Admitted
answered w xs = admit_passes (step_in w).task.action w.passes xs

-- the answers are admitted, and the task comes to this
pub record Comes {s : FlatState} {k : ℕ} (w : Works s k) (xs : List Answer) (es : List Ended)
    : Type 0 where
  pub owns : List Own
  pub admits : answered w xs ≡ admitted owns
  pub ends : end_all (flat.world_of s w.batch w.host (step_in w).task) (step_in w).task owns
      ≡ results_are es

abbrev pub left_by : Bool → Admitted
left_by true = breached
left_by false = unreached

-- after so many Turns
abbrev pub turned : ℕ → FlatState → FlatState
turned zero s = s
turned (suc n) s = flat.step (turned n s) turn
