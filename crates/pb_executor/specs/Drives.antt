-- What a runner is asked on the way of a run, and what it answers.
use Rattle.std.specs.Prelude.{◌≡◌, ◌++◌, ◌⊎◌, ℕ, List, Vec, Bool, true, false, Result, Ok, Err}
use Rattle.std.specs.declared.alloc.AllocError.{AllocError}
use Rattle.std.specs.declared.alloc.Global.{Global}
use Rattle.pb_language.specs.Machine.{State}
use Rattle.pb_history.specs.Jobs.{is_out_at}
use Rattle.pb_finish.specs.declared.answer.Answer.{Answer}
use Rattle.pb_jobs.specs.declared.job.Call.{Call}
use Rattle.pb_jobs.specs.declared.job.Job.{Job}
use Rattle.pb_run.specs.Calls.{IsGiven, IsTaken}
use Rattle.pb_run.specs.Recorded.{is_over}
use Rattle.pb_run.specs.declared.event.Event.{Event}
use Rattle.pb_run.specs.declared.event.Given.{Given}
use Rattle.pb_run.specs.declared.event.Given.TheVariants as given
use Rattle.pb_run.specs.declared.event.Taken.{Taken}
use Rattle.pb_run.specs.declared.event.Taken.TheVariants as taken
use Rattle.pb_runner.specs.Answered.{AreAnswered}
use Rattle.pb_executor.specs.States.{RunState, opening_of}

-- nothing but the history is another
abbrev pub IsSameRun : RunState → RunState → Type 0
IsSameRun old new = new ≡ record old { history = new.history }

-- the same run, in which more may have happened since
abbrev pub GoesOn : RunState → RunState → Type 0
GoesOn old new = (later : List Event) × (new ≡ record old { history = old.history ++ later })

-- it is over; where all went well it may rest instead while somebody else's job is out
abbrev pub HasEnded : Result Unit AllocError → State → Type 0
HasEnded (Ok done) s = (is_over s ≡ true) ⊎ ((k : ℕ) × (is_out_at k s ≡ true))
HasEnded (Err refused) s = is_over s ≡ true

-- a run is asked what there is to do, and answers are given to the job of that host and ticket
pub record TakesRun (t : Taken) (old new : RunState) : Type 0 where
  pub same : IsSameRun old new
  pub taken : IsTaken (opening_of old) old.history new.history t

pub record GivesRun (k t : ℕ) (xs : Vec Answer Global) (g : Given) (old new : RunState)
    : Type 0 where
  pub same : IsSameRun old new
  pub given : IsGiven (opening_of old) old.history new.history k t xs g

abbrev pub is_job : Taken → Bool
is_job (taken.Job j) = true
is_job taken.Idle = false
is_job taken.Finished = false
is_job taken.Stopped = false

-- by what is said of a runner: asked this call, it gives this answer, and is that runner then
module _ {R : Type 0} (answers : R → Call → Answer → R → Type 0) where
  -- the calls of a job are answered and its host is given just these answers, once more as long as
  -- the calls are made again
  pub data Ends : RunState → R → Job → RunState → R → Type 0 where
    done : {old new : RunState} {r s : R} {j : Job} (xs : Vec Answer Global)
        → AreAnswered answers r j.calls.items xs.items s
        → GivesRun j.host j.ticket xs given.Done old new → Ends old r j new s
    again : {old mid new : RunState} {r q s : R} {j : Job} (xs : Vec Answer Global) (next : Job)
        → AreAnswered answers r j.calls.items xs.items q
        → GivesRun j.host j.ticket xs (given.Again next) old mid → Ends mid q next new s
        → Ends old r j new s

  -- a run is driven: one job after the other is taken and ends, until there is none to take
  pub data Drives : RunState → R → RunState → R → Type 0 where
    rests : {old new : RunState} {r : R} (t : Taken) → is_job t ≡ false → TakesRun t old new
        → Drives old r new r
    goes_on : {old begun mid new : RunState} {r q s : R} (j : Job)
        → TakesRun (taken.Job j) old begun → Ends begun r j mid q → Drives mid q new s
        → Drives old r new s
