-- What a host's task does as it starts, and what the answers to its job make of it.
use Rattle.std.specs.Prelude.{◌≡◌, ◌≤◌, ◌+◌, ◌^◌, ℕ, List, Vec, Bool, true, false, not, ◌&&◌, map}
use Rattle.std.specs.Prelude.{get_or}
use Rattle.std.specs.declared.alloc.Global.{Global}
use Rattle.pb_semantics.specs.Data.{Fields, put_all}
use Rattle.pb_language.specs.Cases.{action_name}
use Rattle.pb_language.specs.Give.{Answer, Ended, any_changed, any_failed, asks_again}
use Rattle.pb_language.specs.Give.{last_attempts, written_variables}
use Rattle.pb_language.specs.Machine.{give, notified_by}
use Rattle.pb_language.specs.Notify.{handlers_are}
use Rattle.pb_language.specs.Start as started
use Rattle.pb_language.specs.Start.{call_count, plan_of, planned}
use Rattle.pb_machine.specs.Run as flat
use Rattle.pb_machine.specs.Run.{FlatState, plan_steps, world_of}
use Rattle.pb_machine.specs.Ways.{step_at}
use Rattle.pb_history.specs.Happens.{Comes, MayStart, Works, answered, left_by, step_in}
use Rattle.pb_history.specs.Happens.{task_of_start}
use Rattle.pb_history.specs.Jobs.{pass_calls}
use Rattle.pb_value.specs.View.{fields_view}
use Rattle.pb_start.specs.Passes.{pass_view}
use Rattle.pb_start.specs.declared.passes.Pass.{Pass}
use Rattle.pb_finish.specs.Answers.{answer_data}
use Rattle.pb_finish.specs.Endings as finish
use Rattle.pb_finish.specs.Endings.{EndsAs}
use Rattle.pb_finish.specs.declared.answer.Answer as code
use Rattle.pb_finish.specs.declared.ending.Ending.{Ending}
use Rattle.pb_finish.specs.declared.outcome.Outcome.{Outcome}
use Rattle.pb_core.specs.Hosts.{IsOutcome}
use Rattle.pb_core.specs.Readings.{Reading}
use Rattle.pb_core.specs.declared.outcome.TaskOutcome.{TaskOutcome}
use Rattle.pb_jobs.specs.Calls.{call_data}
use Rattle.pb_jobs.specs.Scenes.{IsAtNode, IsScene}
use Rattle.pb_jobs.specs.declared.finish.Finished.{Finished}
use Rattle.pb_jobs.specs.declared.finish.Finished.TheVariants as finished
use Rattle.pb_jobs.specs.declared.job.Call.{Call}
use Rattle.pb_jobs.specs.declared.scene.RunScene.{RunScene}
use Rattle.pb_jobs.specs.declared.start.Begun.{Begun}

-- the number of calls that were handed out to the host
abbrev pub handed_at : RunScene → ℕ → ℕ
handed_at c k = get_or c.calls.now k 0

-- where the task has a plan it has these passes, and the calls are theirs
pub record IsBegun (c : RunScene) {s : FlatState} {k : ℕ} (m : MayStart s k) (b : Begun)
    (ps : List started.Pass) : Type 0 where
  pub passes : map pass_view b.passes.items ≡ ps
  pub calls : map call_data b.calls.items
      ≡ pass_calls k m.host.name (action_name (task_of_start m).action) ps (handed_at c k)

abbrev pub StartsAs : RunScene → ℕ → Begun → Type 0
StartsAs c k b = (reading : Reading (Vec Pass Global)) (s : FlatState) → IsScene c reading s
    → (m : MayStart s k) (ps : List started.Pass) → (let t = task_of_start m in
    plan_of (world_of s m.batch m.host t) t t.loop ≡ planned ps → IsBegun c m b ps)

-- where it has a plan more calls are handed out to the host than a count has room for
abbrev pub StartsPast : RunScene → ℕ → Type 0
StartsPast c k = (reading : Reading (Vec Pass Global)) (s : FlatState) → IsScene c reading s
    → (m : MayStart s k) (ps : List started.Pass) → (let t = task_of_start m in
    plan_of (world_of s m.batch m.host t) t t.loop ≡ planned ps
    → 2 ^ 64 ≤ handed_at c k + call_count ps)

-- the calls of the job that is out
abbrev pub RepeatsAs : RunScene → ℕ → List Call → Type 0
RepeatsAs c k cs = (reading : Reading (Vec Pass Global)) (s : FlatState) → IsScene c reading s
    → (w : Works s k) → map call_data cs
    ≡ pass_calls k w.host.name (action_name (step_in w).task.action) w.passes (handed_at c k)

-- more calls would be handed out to the host than a count has room for
abbrev pub RepeatsPast : RunScene → ℕ → Type 0
RepeatsPast c k = (reading : Reading (Vec Pass Global)) (s : FlatState) → IsScene c reading s
    → (w : Works s k) → 2 ^ 64 ≤ handed_at c k + call_count w.passes

-- the task ended so: it notifies these handlers, and the host has these variables
pub record EndsSo {s : FlatState} {k : ℕ} (w : Works s k) (xs : List Answer) (o : TaskOutcome)
    (ws : Fields) : Type 0 where
  pub results : List Ended
  pub comes : Comes w xs results
  pub last : asks_again (step_in w).task w.attempts results ≡ false
  pub notified : (let ended = last_attempts results in
      notified_by w.batch.play (step_in w).task (any_changed ended && not (any_failed ended)))
      ≡ handlers_are o.notified.items
  pub outcome : IsOutcome o (step_in w).task (last_attempts results)
  pub writes : (vars : Fields)
      → put_all ws vars ≡ written_variables (step_in w).task (last_attempts results) vars

abbrev pub Repeats : {s : FlatState} → {k : ℕ} → Works s k → List Answer → Type 0
Repeats w xs =
    (es : List Ended) × Comes w xs es × (asks_again (step_in w).task w.attempts es ≡ true)

-- what the answers make of a job where their Give isn't stuck
abbrev pub IsFinished : {s : FlatState} → {k : ℕ} → Works s k → List Answer → Finished → Type 0
IsFinished w xs (finished.Left is_reached) = answered w xs ≡ left_by is_reached
IsFinished w xs finished.Again = Repeats w xs
IsFinished w xs (finished.Ended o ws) = EndsSo w xs o (fields_view ws.items)

abbrev pub FinishesAs : RunScene → ℕ → List code.Answer → Finished → Type 0
FinishesAs c k xs f = (reading : Reading (Vec Pass Global)) (s : FlatState) → IsScene c reading s
    → (w : Works s k) → (flat.step s (give k (map answer_data xs))).is_stuck ≡ false
    → IsFinished w (map answer_data xs) f

-- by the answers the task ends so, before that is told to the core
abbrev pub ComesAs : RunScene → ℕ → List code.Answer → Ending → Type 0
ComesAs c k xs e = (reading : Reading (Vec Pass Global)) (s : FlatState) → IsScene c reading s
    → (w : Works s k) → EndsAs e (world_of s w.batch w.host (step_in w).task) (step_in w).task
    w.attempts (answered w (map answer_data xs))

-- where the host's task notifies handlers it is these
abbrev pub NotifiesAs : RunScene → ℕ → Bool → List ℕ → Type 0
NotifiesAs c k q ms = (reading : Reading (Vec Pass Global)) (s : FlatState) → IsScene c reading s
    → (n : IsAtNode s k) (is : List ℕ)
    → notified_by n.batch.play (step_at (plan_steps n.batch) n.node).task q ≡ handlers_are is
    → ms ≡ is

-- a task that ended so
abbrev pub IsEndedOf : RunScene → ℕ → Outcome → Finished → Type 0
IsEndedOf c k o f = (reading : Reading (Vec Pass Global)) (s : FlatState) → IsScene c reading s
    → (w : Works s k) (xs : List Answer) (es : List Ended) → Comes w xs es
    → asks_again (step_in w).task w.attempts es ≡ false → (ms : List ℕ)
    → (let ended = last_attempts es in
    notified_by w.batch.play (step_in w).task (any_changed ended && not (any_failed ended))
    ≡ handlers_are ms
    → finish.IsOutcome o (step_in w).task ended → IsFinished w xs f)
