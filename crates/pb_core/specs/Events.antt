-- What each call of the core does, as an event of pb_machine's machine.
use Rattle.std.specs.Prelude.{◌≡◌, ◌<◌, ℕ, drop, List, [], ◌∷◌, Bool, true, false, not}
use Rattle.std.specs.Prelude.{◌&&◌, map, Option}
use Rattle.pb_language.specs.Expression.{Name}
use Rattle.pb_language.specs.Start.{call_count}
use Rattle.pb_language.specs.Task.{Task}
use Rattle.pb_language.specs.Give.{Answer, Ended, asks_again}
use Rattle.pb_language.specs.Give.{last_attempts, any_changed, any_failed, written_variables}
use Rattle.pb_language.specs.Notify.{handlers_are}
use Rattle.pb_language.specs.Program.{Inventory, Program, Batch, all_batches}
use Rattle.pb_language.specs.Machine.{Event, start, give, turn, stop, notified_by}
use Rattle.pb_machine.specs.Hosts.{FlatHost}
use Rattle.pb_machine.specs.Run as flat
use Rattle.pb_machine.specs.Run.{FlatState}
use Rattle.pb_history.specs.Happens.{Comes, Starts, Works, answered, left_by, step_in, turned}
use Rattle.pb_core.specs.declared.batch.Batch as code
use Rattle.pb_core.specs.declared.batch.RunPlay.{RunPlay}
use Rattle.pb_core.specs.declared.run.RunCore.{RunCore}
use Rattle.pb_core.specs.declared.outcome.TaskOutcome.{TaskOutcome}
use Rattle.pb_core.specs.Readings.{Reading, AreGiven, with_variables}
use Rattle.pb_core.specs.Activities.{number_of}
use Rattle.pb_core.specs.Hosts.{IsOutcome}
use Rattle.pb_core.specs.Cores.{AreBatches, IsCore, scheduled_batches, scheduled_plays}

-- the hosts of the batch that runs that haven't left
abbrev pub active_in : List FlatHost → List Batch → List Name
active_in hs [] = []
active_in hs (b ∷ bs) = flat.still_active hs b.members

abbrev pub is_over : List Batch → Bool
is_over [] = true
is_over (b ∷ bs) = false

module _ {P : Type 0} where
  -- a Start
  abbrev pub Begins : ℕ → P → ℕ → RunCore P → RunCore P → Type 0
  Begins k passes calls old new = (reading : Reading P) (s : FlatState) → IsCore reading old s
      → Starts s k (reading.passes passes) → calls ≡ call_count (reading.passes passes)
      → IsCore reading new (flat.step s (start k))

  -- a Give after which the calls are made again
  abbrev pub Repeats : ℕ → RunCore P → RunCore P → Type 0
  Repeats k old new = (reading : Reading P) (s : FlatState) → IsCore reading old s
      → (w : Works s k) (xs : List Answer) (es : List Ended) → Comes w xs es
      → asks_again (step_in w).task w.attempts es ≡ true
      → IsCore reading new (flat.step s (give k xs))

  -- a Give after which the host leaves
  abbrev pub Leaves : ℕ → Bool → RunCore P → RunCore P → Type 0
  Leaves k is_reached old new = (reading : Reading P) (s : FlatState) → IsCore reading old s
      → (w : Works s k) (xs : List Answer) → answered w xs ≡ left_by is_reached
      → IsCore reading new (flat.step s (give k xs))

  -- a Give that ends the task: of the variables that are read the host's are those it wrote
  abbrev pub Settles : ℕ → TaskOutcome → RunCore P → RunCore P → Type 0
  Settles k o old new = (reading : Reading P) (s : FlatState) → IsCore reading old s
      → (w : Works s k) (xs : List Answer) (es : List Ended) → Comes w xs es
      → asks_again (step_in w).task w.attempts es ≡ false
      → (let t = (step_in w).task in let ended = last_attempts es in
      notified_by w.batch.play t (any_changed ended && not (any_failed ended))
      ≡ handlers_are o.notified.items
      → IsOutcome o t ended
      → IsCore (with_variables k (written_variables t ended w.host.variables) reading) new
      (flat.step s (give k xs)))

  -- in no state that the core is
  abbrev pub IsDisabled : Event → RunCore P → Type 0
  IsDisabled e c = (reading : Reading P) (s : FlatState) → IsCore reading c s
      → flat.enabled s e ≡ false

  -- no job of the host is out, or its play hasn't all of these handlers
  abbrev pub HasNoJob : ℕ → List ℕ → RunCore P → Type 0
  HasNoJob k ms c = (reading : Reading P) (s : FlatState) → IsCore reading c s → (w : Works s k)
      (t : Task) (q : Bool) → notified_by w.batch.play t q ≡ handlers_are ms → ⊥

  -- which host starts next
  abbrev pub IsNext : RunCore P → Option ℕ → Type 0
  IsNext c o = (reading : Reading P) (s : FlatState) → IsCore reading c s
      → o ≡ number_of (flat.next_start s)

  -- it says whether the host may start its task
  abbrev pub CanStart : ℕ → RunCore P → Bool → Type 0
  CanStart k c q = (reading : Reading P) (s : FlatState) → IsCore reading c s
      → q ≡ flat.enabled s (start k)

  -- once no host is at a task, that batch begins, or the run ends
  abbrev pub RunsBatch : ℕ → RunCore P → RunCore P → Type 0
  RunsBatch n old new = (reading : Reading P) (s : FlatState) (bs : List Batch)
      → IsCore reading old s → flat.all_idle s.hosts ≡ true
      → AreBatches reading.name (scheduled_plays old) (drop n (scheduled_batches old)) bs
      → IsCore reading new (flat.with_batches s bs)

  -- a Turn
  abbrev pub Turns : RunCore P → RunCore P → Type 0
  Turns old new = (reading : Reading P) (s : FlatState) → IsCore reading old s
      → flat.enabled s turn ≡ true → IsCore reading new (flat.step s turn)

  -- it says whether a Turn may happen
  abbrev pub CanTurn : RunCore P → Bool → Type 0
  CanTurn c q = (reading : Reading P) (s : FlatState) → IsCore reading c s
      → q ≡ flat.enabled s turn

  -- so many Turns, each of which may happen
  pub record TurnsTo (n : ℕ) (old new : RunCore P) : Type 0 where
    pub core : (reading : Reading P) (s : FlatState) → IsCore reading old s
        → IsCore reading new (turned n s)
    pub enabled : (reading : Reading P) (s : FlatState) → IsCore reading old s
        → (i : ℕ) → i < n → flat.enabled (turned i s) turn ≡ true

  -- all Turns that may happen, one or more
  pub record TurnsAll (n : ℕ) (old new : RunCore P) : Type 0 where
    pub turns : TurnsTo n old new
    pub some : 0 < n
    pub over : CanTurn new false

  -- the members of the batch that runs that haven't left, and none where none runs
  abbrev pub AreActive : RunCore P → List ℕ → Type 0
  AreActive c ms = (reading : Reading P) (s : FlatState) → IsCore reading c s
      → map reading.name ms ≡ active_in s.hosts s.batches

  -- it says whether no batch is left
  abbrev pub TellsEnd : RunCore P → Bool → Type 0
  TellsEnd c q = (reading : Reading P) (s : FlatState) → IsCore reading c s
      → q ≡ is_over s.batches

  -- it says whether the run was stopped
  abbrev pub TellsStop : RunCore P → Bool → Type 0
  TellsStop c q = (reading : Reading P) (s : FlatState) → IsCore reading c s → q ≡ s.is_stopped

  -- the run's beginning
  abbrev pub Opens : List RunPlay → List code.Batch → ℕ → ℕ → RunCore P → Type 0
  Opens plays batches hosts forks c =
      (reading : Reading P) (program : Program) (inventory : Inventory)
      → AreGiven reading hosts inventory.hosts
      → AreBatches reading.name plays batches (all_batches program)
      → IsCore reading c (flat.opening program inventory forks)

  -- a Stop where one may happen, and else nothing
  abbrev pub Stops : RunCore P → RunCore P → Type 0
  Stops old new = (reading : Reading P) (s : FlatState) → IsCore reading old s
      → (flat.enabled s stop ≡ true → IsCore reading new (flat.step s stop))
      × (flat.enabled s stop ≡ false → new ≡ old)
