-- What a task does, as far as its results go, and how they are judged.
use Rattle.std.specs.Prelude.{◌≡◌, false, not, cond, Option, Some, None, is_some}
use Rattle.pb_semantics.specs.Data.{null}
use Rattle.pb_semantics.specs.Kind.{KindData, Cases, recs, no_cases, one, skipped_shape}
use Rattle.pb_semantics.specs.Join.{append_cases}
use Rattle.pb_language.specs.Cases.{action_name, answered_cases, either_status, is_conditional}
use Rattle.pb_language.specs.Cases.{perhaps_failed, skipped_slots}
use Rattle.pb_language.specs.Expression.{literal, no_expressions, no_parts}
use Rattle.pb_language.specs.Narrow.{cases_with, results_of}
use Rattle.pb_language.specs.Task.{Action, Task, call_of, debug, set_fact, assertion, failure_of}
use Rattle.pb_sig.specs.ModuleView.{known_view}
use Rattle.pb_task.specs.declared.task.Work.{Work}
use Rattle.pb_task.specs.declared.task.Work.TheVariants.{Module, Debug, SetFact, Assert, Fail}
use Rattle.pb_judgement.specs.declared.ends.Manner.{Manner}

-- what a task does, as far as its results go
abbrev pub doing : Work → Action
doing (Module m) = call_of (known_view m.value) no_parts
doing Debug = debug (literal null)
doing SetFact = set_fact no_parts
doing (Assert a) = assertion no_expressions None
doing Fail = failure_of None

-- a task that does that
pub record Does (w : Work) (t : Task) : Type 0 where
  pub answers : answered_cases t.action ≡ answered_cases (doing w)
  pub named : action_name t.action ≡ action_name (doing w)

-- how its results are judged
pub record IsJudgedIn (m : Manner) (t : Task) : Type 0 where
  pub skipped : is_conditional t.conditions ≡ m.may_skip
  pub failed : is_some t.failed_when ≡ m.asks_failed
  pub repeats : is_some t.attempts ≡ m.repeats
  pub ignores : t.ignores ≡ m.ignores

-- the kind of the result where there is a case
abbrev pub case_kind : Cases → Option KindData
case_kind no_cases = None
case_kind (one n sh fl k cs) = Some (results_of (one n sh fl k cs))

-- the results where `failed_when` is asked or not, and those of a last attempt
abbrev pub judged_in : Manner → Cases → Cases
judged_in m cs = cond m.asks_failed (either_status cs) cs

abbrev pub ended_in : Manner → Cases → Cases
ended_in m cs = cond m.repeats (perhaps_failed cs) cs

-- that of a task that is skipped, where it may be
abbrev pub skipped_in : Manner → Action → Cases
skipped_in m a =
    cond m.may_skip (one (action_name a) skipped_shape false (recs skipped_slots) no_cases) no_cases

-- every result of what is done
abbrev pub results_in : Manner → Action → Cases
results_in m a = append_cases (skipped_in m a) (ended_in m (judged_in m (answered_cases a)))

-- those with which it goes on, and those with which it fails
abbrev pub going_in : Manner → Cases → Cases
going_in m cs = cond m.ignores cs (cases_with (λ sh fl k. not fl) cs)

abbrev pub failing_in : Manner → Cases → Cases
failing_in m cs = cond m.ignores no_cases (cases_with (λ sh fl k. fl) cs)
