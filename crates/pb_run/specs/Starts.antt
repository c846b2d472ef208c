-- How a job is handed out, by the Turns that happen before.
use Rattle.std.specs.Prelude.{◌≡◌, ◌+◌, ◌++◌, ◌<◌, ℕ, List, [], ◌∷◌, true, length, replicate}
use Rattle.pb_language.specs.Machine.{start, turn}
use Rattle.pb_machine.specs.Run as flat
use Rattle.pb_machine.specs.Run.{FlatState}
use Rattle.pb_machine.specs.Simulation.{state_of}
use Rattle.pb_history.specs.Happens.{turned}
use Rattle.pb_jobs.specs.declared.job.Job.{Job}
use Rattle.pb_run.specs.Calls.{AreOut, Continues, HandsOutNone, IsHandedOut, and_host}
use Rattle.pb_run.specs.Openings.{IsNeverStuck, Opening, flat_after, state_after}
use Rattle.pb_run.specs.Recorded.{IsRecorded, data_of, slot_names}
use Rattle.pb_run.specs.declared.event.Event.{Event}
use Rattle.pb_run.specs.declared.event.Event.TheVariants.{Start, Turn}
use Rattle.pb_run.specs.declared.recorded.RecordedMachine.{RecordedMachine}

-- so many Turns may happen, one after the other
abbrev pub MayTurn : ℕ → FlatState → Type 0
MayTurn n s = (i : ℕ) → i < n → flat.enabled (turned i s) turn ≡ true

-- so many Turns, and a Start
abbrev pub start_behind : ℕ → ℕ → List Event
start_behind n k = replicate n Turn ++ Start k ∷ []

pub record IsStarted (o : Opening) (n k : ℕ) (old new : RecordedMachine) (j : Job) : Type 0 where
  pub host : j.host ≡ k
  pub history : new.history.items ≡ old.history.items ++ start_behind n k
  pub handed : IsHandedOut o old.history.items new.history.items (length old.history.items + n) j
  pub out : AreOut o old.history.items new.history.items (and_host k)
  pub going : Continues o old.history.items new.history.items
  pub recorded : IsRecorded o new
  pub slots : slot_names new ≡ slot_names old

-- the host of that number starts after so many Turns, where it may
abbrev pub StartsJob : ℕ → ℕ → Job → RecordedMachine → RecordedMachine → Type 0
StartsJob n k j old new = (o : Opening) → IsNeverStuck o → IsRecorded o old
    → (let s = flat_after o (data_of old.history.items) in MayTurn n s
    → flat.enabled (turned n s) (start k) ≡ true → IsStarted o n k old new j)

-- so many Turns happen
pub record HasTurned (o : Opening) (n : ℕ) (old new : RecordedMachine) : Type 0 where
  pub history : new.history.items ≡ old.history.items ++ replicate n Turn
  pub stands : state_after o (data_of new.history.items)
      ≡ state_of (turned n (flat_after o (data_of old.history.items)))
  pub none : HandsOutNone o old.history.items new.history.items
  pub going : Continues o old.history.items new.history.items
  pub recorded : IsRecorded o new
  pub slots : slot_names new ≡ slot_names old

abbrev pub GoesOn : ℕ → RecordedMachine → RecordedMachine → Type 0
GoesOn n old new = (o : Opening) → IsRecorded o old
    → MayTurn n (flat_after o (data_of old.history.items)) → HasTurned o n old new
