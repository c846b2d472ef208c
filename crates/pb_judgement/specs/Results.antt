-- What the results of all tasks are that do the same, in one manner.
use Rattle.std.specs.Prelude.{◌≡◌, option_map}
use Rattle.pb_language.specs.Cases.{all_results, answered_cases, failing_cases, going_cases}
use Rattle.pb_language.specs.Cases.{judged_cases}
use Rattle.pb_language.specs.Narrow.{results_of}
use Rattle.pb_language.specs.Task.{Task}
use Rattle.pb_kind.specs.KindView.{kind_view}
use Rattle.pb_task.specs.declared.task.Work.{Work}
use Rattle.pb_judgement.specs.Ends.{Does, IsJudgedIn, case_kind}
use Rattle.pb_judgement.specs.declared.ends.Manner.{Manner}
use Rattle.pb_judgement.specs.declared.results.Made.{Made}
use Rattle.pb_judgement.specs.declared.results.Results.{Results}

-- they are those of each task that does the work, in that manner
pub record AreResults (w : Work) (m : Manner) (r : Results) : Type 0 where
  pub going : (t : Task) → Does w t → IsJudgedIn m t
      → option_map kind_view r.ends.going ≡ case_kind (going_cases t)
  pub failing : (t : Task) → Does w t → IsJudgedIn m t
      → option_map kind_view r.ends.failing ≡ case_kind (failing_cases t)
  pub all : (t : Task) → Does w t → IsJudgedIn m t
      → kind_view r.ends.all ≡ results_of (all_results t)
  pub answered : (t : Task) → Does w t
      → kind_view r.own.answered ≡ results_of (answered_cases t.action)
  pub judged : (t : Task) → Does w t → IsJudgedIn m t
      → kind_view r.own.judged ≡ results_of (judged_cases t.action t.failed_when)

-- what is kept is so
abbrev pub IsMade : Made → Type 0
IsMade x = AreResults x.work.now x.manner x.results

-- the same kinds
pub record AreAlike (r s : Results) : Type 0 where
  pub going : option_map kind_view r.ends.going ≡ option_map kind_view s.ends.going
  pub failing : option_map kind_view r.ends.failing ≡ option_map kind_view s.ends.failing
  pub all : kind_view r.ends.all ≡ kind_view s.ends.all
  pub answered : kind_view r.own.answered ≡ kind_view s.own.answered
  pub judged : kind_view r.own.judged ≡ kind_view s.own.judged
