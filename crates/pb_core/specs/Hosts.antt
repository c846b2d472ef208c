-- Where the code's hosts are, as the hosts of pb_machine's machine.
use Rattle.std.specs.Prelude.{◌≡◌, ◌<◌, ◌≤◌, ℕ, suc, List, [], ◌∷◌, Bool, true, not, ◌&&◌, false}
use Rattle.std.specs.Prelude.{nat_lt, Option, Some, None, length}
use Rattle.pb_language.specs.Start.{call_count}
use Rattle.pb_language.specs.Machine as machine
use Rattle.pb_language.specs.Machine.{ended_recap, empty_recap}
use Rattle.pb_language.specs.Task.{Task}
use Rattle.pb_language.specs.Give.{Ended, all_skipped, any_changed, any_failed, message_of}
use Rattle.pb_machine.specs.Steps as flat
use Rattle.pb_machine.specs.Hosts.{Location, at_end, left_play, at, FlatHost, FlatStage, stands}
use Rattle.pb_machine.specs.Hosts.{works, arrived}
use Rattle.pb_machine.specs.Ways.{step_at}
use Rattle.pb_machine.specs.Run.{after_task, target_on}
use Rattle.pb_steps.specs.declared.step.Step.{Step}
use Rattle.pb_position.specs.declared.position.Position.{Position}
use Rattle.pb_position.specs.declared.position.TaskEnd.{TaskEnd}
use Rattle.pb_position.specs.Texts.{text_of}
use Rattle.pb_position.specs.Positions.{IsAt}
use Rattle.pb_position.specs.Calls.{AreKept, IsEndOf, before_plays}
use Rattle.pb_core.specs.declared.batch.RunPlay.{RunPlay}
use Rattle.pb_core.specs.declared.host.Stage.{Stage}
use Rattle.pb_core.specs.declared.host.Stage.TheVariants.{Waits, Runs}
use Rattle.pb_core.specs.declared.host.HostState.{HostState}
use Rattle.pb_core.specs.declared.host.Onward.{Onward}
use Rattle.pb_core.specs.declared.outcome.TaskOutcome.{TaskOutcome}
use Rattle.pb_core.specs.declared.outcome.TaskStatus.{TaskStatus}
use Rattle.pb_core.specs.declared.recap.Recap.{Recap}
use Rattle.pb_core.specs.Readings.{Reading}

abbrev pub recap_view : Recap → machine.Recap
recap_view r = record {
  ok = r.ok;
  changed = r.changed;
  unreachable = r.unreachable;
  failed = r.failed;
  skipped = r.skipped;
  rescued = r.rescued;
  ignored = r.ignored;
}

abbrev pub counts_of : Recap → List ℕ
counts_of r =
    r.ok ∷ r.changed ∷ r.unreachable ∷ r.failed ∷ r.skipped ∷ r.rescued ∷ r.ignored ∷ []

-- one more task that ended so (`Machine.task_recap`)
abbrev pub recap_after : TaskStatus → machine.Recap → machine.Recap
recap_after t r = ended_recap t.is_skipped t.is_changed t.has_failed t.is_ignored t.is_rescued r

-- one more whose host left: an answer broke its word, or the host wasn't reached
abbrev pub left_recap : Bool → machine.Recap → machine.Recap
left_recap true r = record r { failed = suc r.failed }
left_recap false r = record r { unreachable = suc r.unreachable }

abbrev pub goes_wrong : TaskStatus → Bool
goes_wrong t = t.has_failed && not t.is_ignored

-- where a host stands, also while its task runs
abbrev pub location_in : FlatStage → Location
location_in (stands l) = l
location_in (works n i ps) = at n

-- the place of the task where it stands
abbrev pub place_in : List flat.Step → FlatStage → Option ℕ
place_in ss (stands at_end) = None
place_in ss (stands left_play) = None
place_in ss (stands (at n)) = Some (step_at ss n).task.place
place_in ss (works n i ps) = Some (step_at ss n).task.place

-- how many handlers a play has, and how many nodes
pub record PlaySize : Type 0 where
  pub handlers : ℕ
  pub nodes : ℕ

-- a host that is at a node is at one of the play's, with room for the marks of its handlers
abbrev pub Fits : PlaySize → ℕ → FlatStage → Type 0
Fits z handlers (stands at_end) = Unit {0}
Fits z handlers (stands left_play) = Unit {0}
Fits z handlers (stands (at n)) = (handlers ≡ z.handlers) × (0 < n) × (n ≤ z.nodes)
Fits z handlers (works n i ps) = (handlers ≡ z.handlers) × (0 < n) × (n ≤ z.nodes)

-- the job of a host: the attempts before this one, and the calls
abbrev pub job_of : {P : Type 0} → Stage P → Option (ℕ × ℕ)
job_of Waits = None
job_of (Runs ticket attempts calls passes) = Some (attempts, calls)

-- the ticket of its job
abbrev pub ticket_of : {P : Type 0} → Stage P → Option ℕ
ticket_of Waits = None
ticket_of (Runs ticket attempts calls passes) = Some ticket

-- the job that is out after it, of that ticket and with so many attempts before it
abbrev pub repeated : {P : Type 0} → ℕ → ℕ → Stage P → Stage P
repeated t i Waits = Waits
repeated t i (Runs ticket attempts calls passes) = Runs t i calls passes

module _ {P : Type 0} where
  -- a job is out or not, and it is the same job
  abbrev pub IsStage : Reading P → Stage P → FlatStage → Type 0
  IsStage reading Waits (stands l) = Unit {0}
  IsStage reading (Runs ticket attempts calls passes) (works n i ps) =
      (i ≡ attempts) × (ps ≡ reading.passes passes) × (calls ≡ call_count ps)
  IsStage reading x g = ⊥

  -- in a play of that size, x is the host of that number
  pub record IsHost (reading : Reading P) (z : PlaySize) (k : ℕ) (x : HostState P) (h : FlatHost)
      : Type 0 where
    pub position : IsAt x.position (record h { stage = stands (location_in h.stage) })
    pub stage : IsStage reading x.stage h.stage
    pub fits : Fits z x.handlers h.stage
    pub name_is : h.name ≡ reading.name k
    pub variables : h.variables ≡ reading.variables k
    pub recap : h.recap ≡ recap_view x.recap

  abbrev pub IsHostAt : Reading P → PlaySize → ℕ → Option (HostState P) → Option FlatHost → Type 0
  IsHostAt reading z k (Some x) (Some h) = IsHost reading z k x h
  IsHostAt reading z k None None = Unit {0}
  IsHostAt reading z k x h = ⊥

  -- before its first play
  pub record IsFresh (x : HostState P) : Type 0 where
    pub position : (h : FlatHost) → IsAt x.position (before_plays h)
    pub stage : x.stage ≡ Waits
    pub recap : recap_view x.recap ≡ empty_recap

-- what a task ended with
pub record IsOutcome (o : TaskOutcome) (t : Task) (es : List Ended) : Type 0 where
  pub is_skipped : o.status.is_skipped ≡ all_skipped es
  pub is_changed : o.status.is_changed ≡ any_changed es
  pub has_failed : o.status.has_failed ≡ any_failed es
  pub is_ignored : o.status.is_ignored ≡ t.ignores
  pub is_rescued : o.status.is_rescued ≡ t.rescued
  pub text : any_failed es && not t.ignores ≡ true → text_of o.text ≡ message_of t.loop es

-- the place of the task where the position is
abbrev pub IsPlaceAt : List Step → Position → Option ℕ → Type 0
IsPlaceAt steps p o = (ss : List flat.Step) → AreKept ss steps → (h : FlatHost) → IsAt p h
    → o ≡ place_in ss h.stage

-- a host at that node, and the one that it is after its task
abbrev pub standing_at : ℕ → FlatHost → FlatHost
standing_at n h = record h { stage = stands (at n) }

abbrev pub gone_on : List flat.Step → ℕ → List Ended → List ℕ → FlatHost → FlatHost
gone_on ss n es ms h =
    let s = step_at ss n in arrived ss (target_on s es) (after_task h s.task es ms)

-- after the task where it stands, which came to that end, the host is there
pub record GoesTo (play : RunPlay) (end : TaskEnd) (old : Position) (o : Onward) : Type 0 where
  pub host : (ss : List flat.Step) → AreKept ss play.plan.steps.items → (h : FlatHost) (n : ℕ)
      (es : List Ended) → IsAt old (standing_at n h) → 0 < n → n ≤ length ss
      → IsEndOf end (step_at ss n).task es
      → IsAt o.position (gone_on ss n es end.notified.items h)
  pub place : IsPlaceAt play.plan.steps.items o.position o.to

abbrev pub are_below : ℕ → List ℕ → Bool
are_below n [] = true
are_below n (m ∷ ms) = nat_lt m n && are_below n ms

-- no host of a play is there, or a handler isn't one of its handlers
abbrev pub HasGone : RunPlay → Position → ℕ → List ℕ → Type 0
HasGone play p handlers ms = (h : FlatHost) (n : ℕ) → IsAt p (standing_at n h) → 0 < n
    → n ≤ length play.plan.steps.items → are_below handlers ms ≡ true → ⊥
