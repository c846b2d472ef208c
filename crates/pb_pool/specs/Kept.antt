-- What a board keeps of its run, by a rule that whoever opens it picks.
use Rattle.std.specs.Prelude.{◌≡◌, ◌≤◌, ◌+◌, ℕ, List, Bool, true, false, Option, Some, count_by}
use Rattle.std.specs.Prelude.{length, slice_get, take}
use Rattle.pb_history.specs.Jobs.{last_place}
use Rattle.pb_verify.specs.declared.checked.Accepted.{Accepted}
use Rattle.pb_finish.specs.declared.answer.Answer.{Answer}
use Rattle.pb_run.specs.Recorded.{data_of}
use Rattle.pb_run.specs.declared.event.Event.{Event}
use Rattle.pb_run.specs.declared.event.Event.TheVariants.{Start, Give, Turn, Stop}
use Rattle.pb_executor.specs.Sound.{IsSound}
use Rattle.pb_executor.specs.States.{RunState, state_of}

-- what may be opened: of what was accepted, the fork count and what had happened by then
abbrev pub OpeningRule : Type 1
OpeningRule = Accepted → ℕ → List Event → Type 0

-- what may be answered: of a job's ticket and host, and the answers to its calls
abbrev pub AnswerRule : Type 1
AnswerRule = ℕ → ℕ → List Answer → Type 0

-- behind these events: the answers of a Give are allowed, to the job whose ticket is the place of
-- its host's last event
abbrev pub IsTold : AnswerRule → List Event → Event → Type 0
IsTold told es (Start k) = Unit {0}
IsTold told es (Give k xs) =
    (p : ℕ) × (last_place k (data_of es) ≡ Some p) × told p k xs.items
IsTold told es Turn = Unit {0}
IsTold told es Stop = Unit {0}

-- the answers of each Give among the events are
abbrev pub AllTold : AnswerRule → List Event → Type 0
AllTold told es = (i : ℕ) (e : Event) → slice_get es i ≡ Some e → IsTold told (take i es) e

abbrev pub is_give : Event → Bool
is_give (Start k) = false
is_give (Give k xs) = true
is_give Turn = false
is_give Stop = false

abbrev pub gives_in : List Event → ℕ
gives_in es = count_by is_give es

-- the run when so many events had happened
abbrev pub run_at : ℕ → RunState → RunState
run_at n r = record r { history = take n r.history }

-- a run that the rule allows: it is sound, and could be opened when so many events had happened
pub record IsRuled (of : OpeningRule) (opened : ℕ) (r : RunState) : Type 0 where
  pub sound : IsSound r
  pub within : opened ≤ length r.history
  pub opening : of r.accepted r.forks (take opened r.history)

-- and since then so many calls were handed out and so many jobs answered, all as the rule allows
pub record IsKept (of : OpeningRule) (told : AnswerRule) (opened calls gives : ℕ) (r : RunState)
    : Type 0 where
  pub ruled : IsRuled of opened r
  pub all_told : AllTold told r.history
  pub handed : (state_of (run_at opened r)).handed + calls ≡ (state_of r).handed
  pub given : gives_in (take opened r.history) + gives ≡ gives_in r.history
