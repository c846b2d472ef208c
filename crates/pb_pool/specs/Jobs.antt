-- What some run that a rule allows answers to whoever works at a board.
use Rattle.std.specs.Prelude.{◌≤◌, ◌⊎◌, ℕ, Vec}
use Rattle.std.specs.declared.alloc.Global.{Global}
use Rattle.pb_finish.specs.declared.answer.Answer.{Answer}
use Rattle.pb_jobs.specs.declared.job.Job.{Job}
use Rattle.pb_run.specs.declared.event.Given.{Given}
use Rattle.pb_run.specs.declared.event.Given.TheVariants as given
use Rattle.pb_run.specs.declared.event.Taken.{Taken}
use Rattle.pb_run.specs.declared.event.Taken.TheVariants as taken
use Rattle.pb_executor.specs.Drives.{GivesRun, TakesRun}
use Rattle.pb_executor.specs.States.{RunState}
use Rattle.pb_pool.specs.Kept.{IsRuled, OpeningRule}

-- asked what there is to do
pub record IsRuledTake (of : OpeningRule) (t : Taken) : Type 0 where
  pub old : RunState
  pub new : RunState
  pub opened : ℕ
  pub ruled : IsRuled of opened old
  pub takes : TakesRun t old new

-- given the answers to a job
pub record IsRuledGive (of : OpeningRule) (g : Given) : Type 0 where
  pub old : RunState
  pub new : RunState
  pub opened : ℕ
  pub ruled : IsRuled of opened old
  pub host : ℕ
  pub ticket : ℕ
  pub answers : Vec Answer Global
  pub gives : GivesRun host ticket answers g old new

-- the job is one that such a run hands out
abbrev pub IsRuledJob : OpeningRule → Job → Type 0
IsRuledJob of j = IsRuledTake of (taken.Job j) ⊎ IsRuledGive of (given.Again j)

-- so many calls are within the budget of such a run
pub record IsWithinBudget (of : OpeningRule) (calls : ℕ) : Type 0 where
  pub run : RunState
  pub opened : ℕ
  pub ruled : IsRuled of opened run
  pub within : calls ≤ run.accepted.budget
