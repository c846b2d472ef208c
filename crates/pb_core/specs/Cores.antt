-- The core of a run, as a state of pb_machine's machine.
use Rattle.std.specs.Prelude.{◌≡◌, ◌≤◌, ◌⊎◌, ℕ, suc, ◌+◌, ◌-◌, ◌^◌, List, [], ◌∷◌, Option, Some}
use Rattle.std.specs.Prelude.{None, drop, length, cond, map, slice_get}
use Rattle.pb_language.specs.Expression.{Name}
use Rattle.pb_language.specs.Notify.{HandlerNames, all_notified, handlers_are}
use Rattle.pb_language.specs.Task.{Row, Task}
use Rattle.pb_language.specs.Machine as machine
use Rattle.pb_language.specs.Machine.{any_names}
use Rattle.pb_language.specs.Program as program
use Rattle.pb_language.specs.Program.{Play}
use Rattle.pb_machine.specs.Steps.{play_steps, play_begin}
use Rattle.pb_machine.specs.Run.{FlatState, current_steps, plan_steps, still_active}
use Rattle.pb_steps.specs.Words.{ArePrepared, PlayPlan, outline, plan_view}
use Rattle.pb_steps.specs.declared.step.Step.{Step}
use Rattle.pb_position.specs.declared.position.TaskEnd.{TaskEnd}
use Rattle.pb_position.specs.Positions.{handlers_of}
use Rattle.pb_core.specs.declared.batch.Batch.{Batch}
use Rattle.pb_core.specs.declared.batch.RunPlay.{RunPlay}
use Rattle.pb_core.specs.declared.run.RunCore.{RunCore}
use Rattle.pb_core.specs.declared.entry.Entry.{Entry}
use Rattle.pb_core.specs.declared.host.HostState.{HostState}
use Rattle.pb_core.specs.declared.host.Onward.{Onward}
use Rattle.pb_core.specs.Readings.{Reading}
use Rattle.pb_core.specs.Activities.{Activity, activities, runs, ready}
use Rattle.pb_core.specs.Indexes.{IsIndexOf}
use Rattle.pb_core.specs.Hosts.{PlaySize, GoesTo, HasGone, counts_of, job_of, recap_view}
use Rattle.pb_core.specs.Hosts.{ticket_of}
use Rattle.pb_core.specs.Entries.{AreEntries, AreHosts}

-- what is kept of a row's plan
abbrev pub row_plan : Row → PlayPlan
row_plan row = record { begin = play_begin row; steps = map outline (play_steps row) }

-- the tasks of a row's plan
abbrev pub row_tasks : Row → List Task
row_tasks row = map (λ x. x.task) (play_steps row)

-- where a task notifies handlers, its step knows which
abbrev pub AreNotified : List HandlerNames → List Step → List Task → Type 0
AreNotified hs [] [] = Unit {0}
AreNotified hs (s ∷ ss) (t ∷ ts) =
    ((is : List ℕ) → all_notified hs t.notifies ≡ handlers_are is → s.notifies.items ≡ is)
    × AreNotified hs ss ts
AreNotified hs ss ts = ⊥

pub record IsPlay (p : RunPlay) (q : Play) : Type 0 where
  pub plan : plan_view p.plan ≡ row_plan q.row
  pub tasks : ArePrepared p.tasks.items (row_tasks q.row)
  pub notified : AreNotified q.handlers p.plan.steps.items (row_tasks q.row)
  pub handlers : p.plan.handlers ≡ length q.handlers
  pub linear : p.is_linear ≡ q.is_linear

pub record IsBatch (name : ℕ → Name) (plays : List RunPlay) (c : Batch) (b : program.Batch)
    : Type 0 where
  pub play : RunPlay
  pub is : slice_get plays c.play ≡ Some play
  pub denotes : IsPlay play b.play
  pub members : b.members ≡ map name c.members.items

abbrev pub AreBatches : (ℕ → Name) → List RunPlay → List Batch → List program.Batch → Type 0
AreBatches name plays [] [] = Unit {0}
AreBatches name plays (c ∷ cs) (b ∷ bs) = IsBatch name plays c b × AreBatches name plays cs bs
AreBatches name plays cs bs = ⊥

-- no program has these batches
abbrev pub AreOfNoProgram : List RunPlay → List Batch → Type 0
AreOfNoProgram plays cs =
    (name : ℕ → Name) (bs : List program.Batch) → AreBatches name plays cs bs → ⊥

-- of the play that runs
abbrev pub size_of : List program.Batch → PlaySize
size_of [] = record { handlers = 0; nodes = 0 }
size_of (b ∷ bs) = record { handlers = length b.play.handlers; nodes = length (plan_steps b) }

-- what the hosts of a state do
abbrev pub activities_of : FlatState → List Activity
activities_of s = activities (current_steps s.batches) s.hosts

abbrev pub scheduled_plays : {P : Type 0} → RunCore P → List RunPlay
scheduled_plays c = c.schedule.value.plays.items

abbrev pub scheduled_batches : {P : Type 0} → RunCore P → List Batch
scheduled_batches c = c.schedule.value.batches.items

-- the core is that state, and its index that of the hosts
pub record IsCore {P : Type 0} (reading : Reading P) (c : RunCore P) (s : FlatState) : Type 0 where
  pub hosts : AreHosts reading (size_of s.batches) c.hosts.items s.hosts
  pub batches : AreBatches reading.name (scheduled_plays c)
      (drop c.current (scheduled_batches c)) s.batches
  pub index : IsIndexOf c.index (activities_of s)
  pub forks : s.forks ≡ c.forks
  pub handed : s.handed ≡ c.handed
  pub stopped : s.is_stopped ≡ c.is_stopped

abbrev pub play_in : List RunPlay → Option Batch → Option RunPlay
play_in plays None = None
play_in plays (Some b) = slice_get plays b.play

abbrev pub running_place : Option Activity → Option ℕ
running_place (Some (runs p)) = Some p
running_place o = None

abbrev pub ready_place : Option Activity → Option ℕ
ready_place (Some (ready p)) = Some p
ready_place o = None

module _ {P : Type 0} where
  -- the play of a batch
  abbrev pub play_of : RunCore P → ℕ → Option RunPlay
  play_of c n = play_in (scheduled_plays c) (slice_get (scheduled_batches c) n)

  -- how many batches are left, with the one that runs
  abbrev pub batches_left : RunCore P → ℕ
  batches_left c = length (scheduled_batches c) - c.current

  abbrev pub job_in : Option (HostState P) → Option (ℕ × ℕ)
  job_in None = None
  job_in (Some x) = job_of x.stage

  -- the attempts and the calls of a host's job that is out
  abbrev pub job_at : RunCore P → ℕ → Option (ℕ × ℕ)
  job_at c k = job_in (slice_get c.hosts.items k)

  -- a job of the host is out, and with its calls made again its attempts or the calls of the run
  -- are more than a count has room for
  abbrev pub IsAgainPast : ℕ → RunCore P → Type 0
  IsAgainPast k c = (j : ℕ × ℕ) × (job_at c k ≡ Some j)
      × ((2 ^ 64 ≤ suc j.0) ⊎ (2 ^ 64 ≤ c.handed + j.1))

  -- the tickets of the jobs that are out, host by host
  abbrev pub tickets_of : RunCore P → List (Option ℕ)
  tickets_of c = map (λ x. ticket_of x.stage) c.hosts.items

  -- the recaps, host by host
  abbrev pub recaps_of : RunCore P → List machine.Recap
  recaps_of c = map (λ x. recap_view x.recap) c.hosts.items

  abbrev pub counts_in : Option (HostState P) → List ℕ
  counts_in None = []
  counts_in (Some x) = counts_of x.recap

  -- the counts of a host's recap
  abbrev pub counts_at : RunCore P → ℕ → List ℕ
  counts_at c k = counts_in (slice_get c.hosts.items k)

  -- where the task of a host runs; where a host waits before one
  abbrev pub IsRunningAt : RunCore P → ℕ → Option ℕ → Type 0
  IsRunningAt c k o = (reading : Reading P) (s : FlatState) → IsCore reading c s
      → o ≡ running_place (slice_get (activities_of s) k)

  abbrev pub IsReadyAt : RunCore P → ℕ → Option ℕ → Type 0
  IsReadyAt c k o = (reading : Reading P) (s : FlatState) → IsCore reading c s
      → o ≡ ready_place (slice_get (activities_of s) k)

  -- where a host goes on once the task where it stands came to that end
  pub record GoesFrom (k : ℕ) (end : TaskEnd) (c : RunCore P) (o : Onward) : Type 0 where
    pub goes : (play : RunPlay) (x : HostState P) → play_of c c.current ≡ Some play
        → slice_get c.hosts.items k ≡ Some x → GoesTo play end x.position o
    pub handlers : (x : HostState P) → slice_get c.hosts.items k ≡ Some x
        → handlers_of o.position ≡ x.handlers

  abbrev pub HasGoneFrom : ℕ → List ℕ → RunCore P → Type 0
  HasGoneFrom k ms c = (play : RunPlay) (x : HostState P) → play_of c c.current ≡ Some play
      → slice_get c.hosts.items k ≡ Some x → HasGone play x.position x.handlers ms

  -- no batches of a program begin with that one
  abbrev pub HasNoPlay : ℕ → RunCore P → Type 0
  HasNoPlay n c = (name : ℕ → Name) (bs : List program.Batch)
      → AreBatches name (scheduled_plays c) (drop n (scheduled_batches c)) bs → ⊥

  -- where the hosts of a batch begin its play
  abbrev pub AreEntriesAt : ℕ → RunCore P → List Entry → Type 0
  AreEntriesAt n c es = (b : Batch) (play : RunPlay) → slice_get (scheduled_batches c) n ≡ Some b
      → play_of c n ≡ Some play → AreEntries play b.members.items c.hosts.items es

  -- once the batch is over the one of that number is next, or none where all hosts left
  abbrev pub LeadsTo : ℕ → RunCore P → Type 0
  LeadsTo n c = (reading : Reading P) (s : FlatState) → IsCore reading c s
      → (b : program.Batch) (later : List program.Batch) → s.batches ≡ b ∷ later
      → AreBatches reading.name (scheduled_plays c) (drop n (scheduled_batches c))
      (cond (any_names (still_active s.hosts b.members)) later [])
