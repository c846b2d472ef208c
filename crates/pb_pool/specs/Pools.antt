-- What the workers of a pool answer, and what the pool leaves.
use Rattle.std.specs.Prelude.{◌≡◌, ◌<◌, ◌≤◌, ◌+◌, ◌^◌, ℕ, List, Bool, false, true, Option, Some}
use Rattle.pb_finish.specs.declared.answer.Answer.{Answer}
use Rattle.pb_jobs.specs.declared.job.Call.{Call}
use Rattle.pb_jobs.specs.declared.job.Job.{Job}
use Rattle.pb_run.specs.Recorded.{is_over}
use Rattle.pb_runner.specs.Answered.{AreAnswered}
use Rattle.pb_executor.specs.States.{RunState, state_of}
use Rattle.pb_pool.specs.Jobs.{IsRuledJob}
use Rattle.pb_pool.specs.Kept.{AnswerRule, IsKept, IsRuled, OpeningRule}
use Rattle.pb_pool.specs.declared.fault.PoolFault.{PoolFault}
use Rattle.pb_pool.specs.declared.fault.PoolFault.TheVariants.{NoMemory, NoThread}

-- by what is said of a runner: asked this call, it gives this answer, and is that runner then; and
-- whether memory was short
module _ {R : Type 0} (answers : R → Call → Answer → R → Type 0) (short : R → Bool) where
  -- the runner, once it was asked some calls, gives these answers to those of a job that some run
  -- hands out to that host by that ticket
  pub record IsAnswer (of : OpeningRule) (first : R) (t k : ℕ) (xs : List Answer) : Type 0 where
    pub job : Job
    pub ruled : IsRuledJob of job
    pub ticket : job.ticket ≡ t
    pub host : job.host ≡ k
    pub earlier_calls : List Call
    pub earlier : List Answer
    pub before : R
    pub becomes : AreAnswered answers first earlier_calls earlier before
    pub after : R
    pub answered : AreAnswered answers before job.calls.items xs after
    pub fine : short after ≡ false

  -- whatever it so answers is allowed
  abbrev pub MayAnswer : OpeningRule → AnswerRule → R → Type 0
  MayAnswer of told first =
      (t k : ℕ) (xs : List Answer) → IsAnswer of first t k xs → told t k xs

-- runners that made so many calls can count those of any run that the rule allows too
abbrev pub CanCount : OpeningRule → ℕ → Type 0
CanCount of made = (opened : ℕ) (r : RunState) → IsRuled of opened r
    → made + r.accepted.budget < 2 ^ 64

-- a runner that made so many calls, of those that a seat was handed, can count what comes
abbrev pub CanGoOn : OpeningRule → ℕ → ℕ → Type 0
CanGoOn of made handed = (n : ℕ) × CanCount of n × (made ≤ n + handed)

-- what the workers of a pool add up to
pub record Totals : Type 0 where
  -- how many they are
  pub workers : ℕ
  -- calls that they made
  pub made : ℕ
  -- calls that their seats were handed
  pub handed : ℕ

-- the run is over, and the board kept it while so many calls were handed out and so many jobs
-- answered
pub record IsPooled (of : OpeningRule) (told : AnswerRule) (r : RunState) : Type 0 where
  pub over : is_over (state_of r) ≡ true
  pub opened : ℕ
  pub handed : ℕ
  pub given : ℕ
  pub kept : IsKept of told opened handed given r

-- and all calls that were handed out, but for those that the seats had been handed before, were
-- made: by so many made before and after
pub record AllMade (of : OpeningRule) (told : AnswerRule) (before after handed : ℕ) (r : RunState)
    : Type 0 where
  pub pooled : IsPooled of told r
  pub made : after + handed ≡ before + pooled.handed

-- the run that comes back where a pool gives up
abbrev pub fault_run : PoolFault → Option RunState
fault_run (NoMemory r) = r
fault_run (NoThread r) = Some r
