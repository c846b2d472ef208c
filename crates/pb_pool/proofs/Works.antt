-- What a runner answers, call after call, and how many calls it can count.
use Rattle.std.proofs.Common.{◌≡◌, ◌<◌, ◌≤◌, ◌+◌, ◌^◌, ◌++◌, ◌∷◌, ℕ, suc, List, [], length, get_or, Bool, false, refl, sym, ap, subst, ◌∙◌, arith}
use Rattle.std.specs.Prelude.{sum_by}
use Rattle.std.proofs.lemmas.List.Sums.{sum_by-cons}
use Rattle.pb_finish.specs.declared.answer.Answer.{Answer}
use Rattle.pb_jobs.specs.declared.job.Call.{Call}
use Rattle.pb_jobs.specs.declared.job.Job.{Job}
use Rattle.pb_runner.specs.Answered.{AreAnswered}
use Rattle.pb_runner.proofs.Answered.{AreAnswered-join}
use Rattle.pb_pool.specs.Jobs.{IsRuledJob, IsWithinBudget}
use Rattle.pb_pool.specs.Kept.{AnswerRule, OpeningRule}
use Rattle.pb_pool.specs.Pools.{CanGoOn, IsAnswer, MayAnswer}

module _ {R : Type 0} (answers : R → Call → Answer → R → Type 0) (short : R → Bool) (of : OpeningRule) where
  is_answer_before : (r q : R) (cs : List Call) (xs : List Answer) (t k : ℕ) (ys : List Answer) → AreAnswered answers r cs xs q → IsAnswer answers short of q t k ys → IsAnswer answers short of r t k ys
  is_answer_before r q cs xs t k ys asked x = record {
    job = x.job;
    ruled = x.ruled;
    ticket = x.ticket;
    host = x.host;
    earlier_calls = cs ++ x.earlier_calls;
    earlier = xs ++ x.earlier;
    before = x.before;
    becomes = AreAnswered-join answers r cs xs q x.earlier_calls x.earlier x.before asked x.becomes;
    after = x.after;
    answered = x.answered;
    fine = x.fine;
  }

  -- what a runner may answer it may once it was asked some calls
  pub may_answer_after : (told : AnswerRule) (r q : R) (cs : List Call) (xs : List Answer) → MayAnswer answers short of told r → AreAnswered answers r cs xs q → MayAnswer answers short of told q
  may_answer_after told r q cs xs may asked = λ t k ys x. may t k ys (is_answer_before r q cs xs t k ys asked x)

  -- the answers to a job's calls are allowed
  pub told_now : (told : AnswerRule) (r q : R) (j : Job) (ds : List Call) (xs : List Answer) → ds ≡ j.calls.items → MayAnswer answers short of told r → IsRuledJob of j → AreAnswered answers r ds xs q → short q ≡ false → told j.ticket j.host xs
  told_now told r q j ds xs same may ruled asked fine =
      may j.ticket j.host xs
      (record {
        job = j;
        ruled = ruled;
        ticket = refl;
        host = refl;
        earlier_calls = [];
        earlier = [];
        before = r;
        becomes = refl;
        after = q;
        answered = subst (λ cs. AreAnswered answers r cs xs q) same asked;
        fine = fine;
      })

-- the calls of a seat that is within some budget can be counted
pub fits : (of : OpeningRule) (made handed : ℕ) → CanGoOn of made handed → IsWithinBudget of handed → made < 2 ^ 64
fits of made handed go within =
    let room = go.1 within.opened within.run within.ruled in
    omega (arith, room, go.2, within.within)
