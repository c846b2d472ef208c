-- A run of what was accepted by workers, from its beginning to its end.
use Rattle.std.specs.Prelude.{◌≡◌, Any, Bool, List, [], ℕ, false, true}
use Rattle.pb_finish.specs.declared.answer.Answer.{Answer}
use Rattle.pb_jobs.specs.declared.job.Call.{Call}
use Rattle.pb_run.specs.Recorded.{is_none, is_over}
use Rattle.pb_run.specs.declared.event.Event.{Event}
use Rattle.pb_verify.specs.declared.checked.Accepted.{Accepted}
use Rattle.pb_executor.specs.Sound.{IsSound}
use Rattle.pb_executor.specs.States.{RunState, state_of}
use Rattle.pb_pool.specs.Kept.{AnswerRule, OpeningRule}
use Rattle.pb_pool.specs.Pools.{IsAnswer}

-- opened with that book and fork count, and nothing had happened
pub record IsOpenedWith (book : Accepted) (forks : ℕ) (a : Accepted) (f : ℕ) (es : List Event)
    : Type 0 where
  pub book_is : a ≡ book
  pub forks_are : f ≡ forks
  pub none : es ≡ []

-- one of these runners answers so
abbrev pub IsAnswerOfOne : {R : Type 0} → (R → Call → Answer → R → Type 0) → (R → Bool) → List R
    → OpeningRule → AnswerRule
IsAnswerOfOne answers short firsts of t k xs =
    Any (λ first. IsAnswer answers short of first t k xs) firsts

-- a run of that book, which the definitions' machine makes of its history
pub record IsRunOf (a : Accepted) (forks : ℕ) (r : RunState) : Type 0 where
  pub book : r.accepted ≡ a
  pub forks_are : r.forks ≡ forks
  pub sound : IsSound r

-- to its end, and not stopped
pub record IsExecuted (a : Accepted) (forks : ℕ) (r : RunState) : Type 0 where
  pub run : IsRunOf a forks r
  pub ended : is_none (state_of r).batches ≡ true
  pub going_on : (state_of r).is_stopped ≡ false

-- which has ended or is stopped
pub record IsLeft (a : Accepted) (forks : ℕ) (r : RunState) : Type 0 where
  pub run : IsRunOf a forks r
  pub over : is_over (state_of r) ≡ true
