-- What a file of answers answers, by runners that share it.
use Rattle.std.proofs.Common.{◌≡◌, ℕ, List, [], ◌∷◌, Bool, false, subst, ◌∙◌}
use Rattle.std.specs.Prelude.{All, Any, slice_index_or}
use Rattle.std.proofs.lemmas.List.Elements.{All-get_or}
use Rattle.pb_semantics.specs.Data.{Fields}
use Rattle.pb_verify.specs.declared.checked.Accepted.{Accepted}
use Rattle.pb_finish.specs.declared.answer.Answer.{Answer}
use Rattle.pb_jobs.specs.declared.job.Call.{Call}
use Rattle.pb_runner.specs.Answered.{AreAnswered}
use Rattle.pb_runner.specs.Scripts.{IsFromFile, IsScripted, answers_in}
use Rattle.pb_runner.specs.declared.script.ScriptRunner.{ScriptRunner}
use Rattle.pb_runner.proofs.Scripted.{AreFromFile-scripted}
use Rattle.pb_executor.specs.States.{RunState}
use Rattle.pb_pool.specs.Executed.{IsAnswerOfOne, IsOpenedWith}
use Rattle.pb_pool.specs.Kept.{AllTold, OpeningRule}
use Rattle.pb_pool.specs.Pools.{IsAnswer}
use Rattle.pb_pool.proofs.Keeps.{all_told_along}

abbrev short : ScriptRunner → Bool
short r = r.is_short

-- a runner that isn't short gave its file's answers
of_file : (of : OpeningRule) (first : ScriptRunner) (file : Fields) (t k : ℕ) (xs : List Answer) → answers_in first ≡ file → IsAnswer IsScripted short of first t k xs → IsAnswer (IsFromFile file) short of first t k xs
of_file of first file t k xs is x =
    let now = AreFromFile-scripted x.before x.job.calls.items xs x.after x.answered x.fine in
    let earlier = AreFromFile-scripted first x.earlier_calls x.earlier x.before x.becomes now.fine in record {
      job = x.job;
      ruled = x.ruled;
      ticket = x.ticket;
      host = x.host;
      earlier_calls = x.earlier_calls;
      earlier = x.earlier;
      before = x.before;
      becomes = subst (λ fs. AreAnswered (IsFromFile fs) first x.earlier_calls x.earlier x.before) is earlier.answered;
      after = x.after;
      answered = subst (λ fs. AreAnswered (IsFromFile fs) x.before x.job.calls.items xs x.after) (earlier.same ∙ is) now.answered;
      fine = x.fine;
    }

-- and so did each of these
pub told_by_file : (of : OpeningRule) (firsts : List ScriptRunner) (file : Fields) (r : RunState) → All (λ s. answers_in s ≡ file) firsts → AllTold (IsAnswerOfOne IsScripted short firsts of) r.history → AllTold (IsAnswerOfOne (IsFromFile file) short firsts of) r.history
told_by_file of firsts file r same told =
    all_told_along (IsAnswerOfOne IsScripted short firsts of) (IsAnswerOfOne (IsFromFile file) short firsts of) r.history
    (λ t k xs x. (x.0, x.1, x.2, x.3, of_file of x.1 file t k xs (subst (λ s. answers_in s ≡ file) x.3 (same x.0 x.1 x.2)) x.4)) told
