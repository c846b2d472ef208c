-- Calls that a file of answers answers.
use Rattle.std.proofs.Common.{◌≡◌, List, [], ◌∷◌, Bool, true, false, refl, sym, ap, subst, ◌∙◌, inl, inr, string_bytes}
use Rattle.pb_language.specs.Give as language
use Rattle.pb_finish.specs.declared.answer.Answer.{Answer}
use Rattle.pb_jobs.specs.declared.job.Call.{Call}
use Rattle.pb_runner.specs.Answered.{AreAnswered}
use Rattle.pb_runner.specs.Scripts.{IsFromFile, IsScripted, IsWithheld, answers_in, scripted}
use Rattle.pb_runner.specs.declared.script.ScriptRunner.{ScriptRunner}

fine_before : (b c : Bool) → (b ≡ true → c ≡ true) → c ≡ false → b ≡ false
fine_before true c along fine = let no : ◌≡◌ {A = Bool} true false = sym (along refl) ∙ fine in cc
fine_before false c along fine = refl

fine_gives : (x : language.Answer) (a : Answer) (s : ScriptRunner) → IsWithheld x a s → s.is_short ≡ false → ⊥
fine_gives (language.object d) a s short fine = let no : ◌≡◌ {A = Bool} true false = sym short.1 ∙ fine in cc
fine_gives language.unreachable a s short fine = absurd short
fine_gives language.broken a s short fine = absurd short

-- a runner that isn't short after a call gave its file's answer
from_file : (r : ScriptRunner) (c : Call) (a : Answer) (s : ScriptRunner) → IsScripted r c a s → s.is_short ≡ false → IsFromFile (answers_in r) r c a s
from_file r c a s one fine = elim one.answer [
  | inl given ↦ given
  | inr short ↦ absurd (fine_gives (scripted (answers_in r) (string_bytes c.name.value) c.number) a s short fine)
]

-- these calls were answered by the file, of which the runner has the same answers before and behind them
pub record AreFromFile (r : ScriptRunner) (cs : List Call) (xs : List Answer) (s : ScriptRunner) : Type 0 where
  pub fine : r.is_short ≡ false
  pub same : answers_in s ≡ answers_in r
  pub answered : AreAnswered (IsFromFile (answers_in r)) r cs xs s

-- calls behind which the runner isn't short were answered by the file
pub AreFromFile-scripted : (r : ScriptRunner) (cs : List Call) (xs : List Answer) (s : ScriptRunner) → AreAnswered IsScripted r cs xs s → s.is_short ≡ false → AreFromFile r cs xs s
AreFromFile-scripted r [] [] s e fine = record { fine = ap (λ x. x.is_short) e ∙ fine; same = ap answers_in (sym e); answered = e }
AreFromFile-scripted r (c ∷ cs) (a ∷ xs) s e fine =
    let q = e.0 in
    let one : IsScripted r c a q = e.1 in
    let more : AreFromFile q cs xs s = AreFromFile-scripted q cs xs s e.2 fine in record {
      fine = fine_before r.is_short q.is_short one.short more.fine;
      same = more.same ∙ one.answers;
      answered = (q, from_file r c a q one more.fine, subst (λ fs. AreAnswered (IsFromFile fs) q cs xs s) one.answers more.answered);
    }
AreFromFile-scripted r [] (a ∷ xs) s e fine = absurd e
AreFromFile-scripted r (c ∷ cs) [] s e fine = absurd e
