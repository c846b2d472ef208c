-- What the calls of a run record, and what they tell.
use Rattle.std.specs.Prelude.{◌≡◌, ◌+◌, ◌++◌, ◌==◌, ℕ, List, [], ◌∷◌, Vec, Bool, true, false, cond}
use Rattle.std.specs.Prelude.{not, ◌&&◌, ◌||◌, nat_eq, nat_lt, map, length, replicate, Option, Some}
use Rattle.std.specs.Prelude.{None}
use Rattle.std.specs.declared.alloc.Global.{Global}
use Rattle.pb_language.specs.Machine as machine
use Rattle.pb_language.specs.Drive.{next_start}
use Rattle.pb_language.specs.Machine.{State, enabled}
use Rattle.pb_history.specs.Jobs.{handed_to, is_out_at, job_calls, ticket_out}
use Rattle.pb_history.specs.Turns.{Next, starts, waits, ended, stopped, next_of, turns_due}
use Rattle.pb_finish.specs.declared.answer.Answer.{Answer}
use Rattle.pb_jobs.specs.Calls.{call_data}
use Rattle.pb_jobs.specs.declared.job.Job.{Job}
use Rattle.pb_jobs.specs.declared.machine.Answered.{Answered}
use Rattle.pb_jobs.specs.declared.machine.Answered.TheVariants as answered
use Rattle.pb_run.specs.Openings.{IsNeverStuck, Opening, state_after}
use Rattle.pb_run.specs.Faults.{Faults}
use Rattle.pb_run.specs.Recorded.{IsRecorded, data_of, is_none, slot_names}
use Rattle.pb_run.specs.declared.event.Event.{Event}
use Rattle.pb_run.specs.declared.event.Event.TheVariants.{Start, Give, Turn}
use Rattle.pb_run.specs.declared.event.Given.{Given}
use Rattle.pb_run.specs.declared.event.Given.TheVariants as given
use Rattle.pb_run.specs.declared.event.GiveFault.{GiveFault}
use Rattle.pb_run.specs.declared.event.GiveFault.TheVariants as refusal
use Rattle.pb_run.specs.declared.event.Taken.{Taken}
use Rattle.pb_run.specs.declared.event.Taken.TheVariants as taken
use Rattle.pb_run.specs.declared.recorded.RecordedMachine.{RecordedMachine}

abbrev pub taken_next : Taken → Next
taken_next (taken.Job j) = starts j.host
taken_next taken.Idle = waits
taken_next taken.Finished = ended
taken_next taken.Stopped = stopped

-- what is recorded: so many Turns, and the Start of a job
abbrev pub taken_events : ℕ → Taken → List Event
taken_events n (taken.Job j) = replicate n Turn ++ Start j.host ∷ []
taken_events n taken.Idle = replicate n Turn
taken_events n taken.Finished = replicate n Turn
taken_events n taken.Stopped = []

-- so many more calls were handed out
abbrev pub HandsOut : Opening → List Event → List Event → ℕ → Type 0
HandsOut o old new n =
    (state_after o (data_of new)).handed ≡ (state_after o (data_of old)).handed + n

-- it isn't stopped
abbrev pub Continues : Opening → List Event → List Event → Type 0
Continues o old new = (state_after o (data_of new)).is_stopped
    ≡ (state_after o (data_of old)).is_stopped

-- which hosts have a job out, by whether they had one
abbrev pub AreOut : Opening → List Event → List Event → (ℕ → Bool → Bool) → Type 0
AreOut o old new out = (i : ℕ) → is_out_at i (state_after o (data_of new))
    ≡ out i (is_out_at i (state_after o (data_of old)))

-- this one has too, this one no more, or the same have
abbrev pub and_host : ℕ → ℕ → Bool → Bool
and_host k i q = nat_eq i k || q

abbrev pub but_host : ℕ → ℕ → Bool → Bool
but_host k i q = not (nat_eq i k) && q

abbrev pub same_hosts : ℕ → Bool → Bool
same_hosts i q = q

-- the job of the event at that place of the history: the place is its ticket, and its calls are
-- those that its host then has out
pub record IsHandedOut (o : Opening) (old new : List Event) (place : ℕ) (j : Job) : Type 0 where
  pub ticket : j.ticket ≡ place
  pub calls : map call_data j.calls.items
      ≡ job_calls j.host (handed_to j.host (state_after o []) (data_of old))
      (state_after o (data_of new))
  pub count : HandsOut o old new (length j.calls.items)

-- no job is handed out, and none ends
abbrev pub HandsOutNone : Opening → List Event → List Event → Type 0
HandsOutNone o old new = HandsOut o old new 0 × AreOut o old new same_hosts

-- nothing can be started, no batch is over, and the run neither has ended nor was stopped
pub record IsWaiting (s : State) : Type 0 where
  pub none : next_start s ≡ None
  pub busy : enabled s machine.turn ≡ false
  pub going : s.is_stopped ≡ false
  pub left : is_none s.batches ≡ false

abbrev pub HasJob : Opening → List Event → List Event → ℕ → Taken → Type 0
HasJob o old new n (taken.Job j) =
    IsHandedOut o old new (length old + n) j × AreOut o old new (and_host j.host)
HasJob o old new n taken.Idle =
    HandsOutNone o old new × IsWaiting (state_after o (data_of new))
HasJob o old new n taken.Finished =
    HandsOutNone o old new × (is_none (state_after o (data_of new)).batches ≡ true)
HasJob o old new n taken.Stopped = HandsOutNone o old new

-- the Turns that are due happen, and the ready host with the lowest place starts, ties by host
-- order
pub record IsTaken (o : Opening) (old new : List Event) (t : Taken) : Type 0 where
  pub next : taken_next t ≡ next_of (state_after o (data_of old))
  pub events : new ≡ old ++ taken_events (turns_due (state_after o (data_of old))) t
  pub job : HasJob o old new (turns_due (state_after o (data_of old))) t
  pub going : Continues o old new

pub record IsTakenFrom (o : Opening) (old new : RecordedMachine) (t : Taken) : Type 0 where
  pub taken : IsTaken o old.history.items new.history.items t
  pub recorded : IsRecorded o new
  pub slots : slot_names new ≡ slot_names old

abbrev pub Takes : Taken → RecordedMachine → RecordedMachine → Type 0
Takes t old new = (o : Opening) → IsNeverStuck o → IsRecorded o old → IsTakenFrom o old new t

-- whether a Turn or a Start is to be recorded
abbrev pub records_some : Next → ℕ → Bool
records_some (starts k) n = true
records_some waits n = nat_lt 0 n
records_some ended n = nat_lt 0 n
records_some stopped n = false

-- memory is wanted only where it is
abbrev pub TakesSome : RecordedMachine → Type 0
TakesSome m = (o : Opening) → IsRecorded o m
    → (let s = state_after o (data_of m.history.items) in
    records_some (next_of s) (turns_due s) ≡ true)

-- nothing has happened
pub record StaysRecorded (old new : RecordedMachine) : Type 0 where
  pub history : new.history.items ≡ old.history.items
  pub recorded : (o : Opening) → IsRecorded o old → IsRecorded o new
  pub slots : slot_names new ≡ slot_names old

abbrev pub is_ticket : ℕ → Option ℕ → Bool
is_ticket t None = false
is_ticket t (Some p) = p == t

-- why answers to the job of that host and ticket are refused, whatever the machine answers
abbrev pub refusal_at : State → List machine.Event → ℕ → ℕ → Option GiveFault
refusal_at s es k t = cond s.is_stopped (Some refusal.Stopped)
    (cond (is_ticket t (ticket_out k s es)) None (Some refusal.Stranger))

abbrev pub refusal_in : Opening → List Event → ℕ → ℕ → Option GiveFault
refusal_in o es k t = refusal_at (state_after o (data_of es)) (data_of es) k t

-- what is told of a job that was answered, whose calls may be made again under that ticket
abbrev pub given_as : Answered → ℕ → ℕ → Given
given_as answered.Done k t = given.Done
given_as (answered.Again cs) k t = given.Again (record { ticket = t; host = k; calls = cs })

-- the host's job has ended, or its calls are made again, under a ticket of their own
abbrev pub IsTold : Opening → List Event → List Event → ℕ → Given → Type 0
IsTold o old new k given.Done = HandsOut o old new 0 × AreOut o old new (but_host k)
IsTold o old new k (given.Again j) =
    (j.host ≡ k) × IsHandedOut o old new (length old) j × AreOut o old new same_hosts

-- answers to the job of that host and ticket, which is out, are recorded
pub record IsGiven (o : Opening) (old new : List Event) (k t : ℕ) (xs : Vec Answer Global)
    (g : Given) : Type 0 where
  pub out : refusal_in o old k t ≡ None
  pub events : new ≡ old ++ Give k xs ∷ []
  pub told : IsTold o old new k g
  pub going : Continues o old new

pub record IsGivenTo (o : Opening) (old new : RecordedMachine) (k t : ℕ) (xs : Vec Answer Global)
    (g : Given) : Type 0 where
  pub given : IsGiven o old.history.items new.history.items k t xs g
  pub recorded : IsRecorded o new
  pub slots : slot_names new ≡ slot_names old

abbrev pub Gives : ℕ → ℕ → Vec Answer Global → Given → RecordedMachine → RecordedMachine → Type 0
Gives k t xs g old new = (o : Opening) → IsNeverStuck o → IsRecorded o old
    → IsGivenTo o old new k t xs g

-- it is refused for that reason; or for none, and by a fault of the machine
abbrev pub IsRefusedAs : Option GiveFault → ℕ → ℕ → RecordedMachine → Type 0
IsRefusedAs why k t m = (o : Opening) → IsRecorded o m → refusal_in o m.history.items k t ≡ why

abbrev pub IsRefused : GiveFault → ℕ → ℕ → RecordedMachine → Type 0
IsRefused refusal.Stopped k t m = IsRefusedAs (Some refusal.Stopped) k t m
IsRefused refusal.Stranger k t m = IsRefusedAs (Some refusal.Stranger) k t m
IsRefused (refusal.Core fault) k t m = IsRefusedAs None k t m × Faults fault m
