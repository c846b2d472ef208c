-- Calls that are answered one after the other.
use Rattle.std.proofs.Common.{◌≡◌, List, [], ◌∷◌, ◌++◌, refl}
use Rattle.pb_finish.specs.declared.answer.Answer.{Answer}
use Rattle.pb_jobs.specs.declared.job.Call.{Call}
use Rattle.pb_runner.specs.Answered.{AreAnswered}

module _ {R : Type 0} (answers : R → Call → Answer → R → Type 0) where
  push : (r : R) (cs : List Call) (xs : List Answer) (q : R) (c : Call) (a : Answer) (s : R) → AreAnswered answers r cs xs q → answers q c a s → AreAnswered answers r (cs ++ c ∷ []) (xs ++ a ∷ []) s
  push r [] [] q c a s before one = (s, rw before one, refl)
  push r (d ∷ cs) (x ∷ xs) q c a s before one = (before.0, before.1, push before.0 cs xs q c a s before.2 one)
  push r [] (x ∷ xs) q c a s before one = absurd before
  push r (d ∷ cs) [] q c a s before one = absurd before

  -- one more call is answered
  pub AreAnswered-push : (r : R) (cs : List Call) (xs : List Answer) (q : R) (c : Call) (a : Answer) (s : R) (ds : List Call) (ys : List Answer) → ds ≡ cs ++ c ∷ [] → ys ≡ xs ++ a ∷ [] → AreAnswered answers r cs xs q → answers q c a s → AreAnswered answers r ds ys s
  AreAnswered-push r cs xs q c a s ds ys calls given before one = rw calls (rw given (push r cs xs q c a s before one))

  -- calls that are answered one after the other
  pub AreAnswered-join : (r : R) (cs : List Call) (xs : List Answer) (q : R) (ds : List Call) (ys : List Answer) (s : R) → AreAnswered answers r cs xs q → AreAnswered answers q ds ys s → AreAnswered answers r (cs ++ ds) (xs ++ ys) s
  AreAnswered-join r [] [] q ds ys s first then = rw first then
  AreAnswered-join r (c ∷ cs) (x ∷ xs) q ds ys s first then = (first.0, first.1, AreAnswered-join first.0 cs xs q ds ys s first.2 then)
  AreAnswered-join r [] (x ∷ xs) q ds ys s first then = absurd first
  AreAnswered-join r (c ∷ cs) [] q ds ys s first then = absurd first
