-- What a runner is asked, call by call, and what it answers.
use Rattle.std.specs.Prelude.{◌≡◌, List, [], ◌∷◌}
use Rattle.pb_finish.specs.declared.answer.Answer.{Answer}
use Rattle.pb_jobs.specs.declared.job.Call.{Call}

-- by what is said of a runner: asked this call, it gives this answer, and is that runner then
module _ {R : Type 0} (answers : R → Call → Answer → R → Type 0) where
  -- asked these calls in order, it gives these answers in order
  abbrev pub AreAnswered : R → List Call → List Answer → R → Type 0
  AreAnswered r [] [] s = r ≡ s
  AreAnswered r (c ∷ cs) (a ∷ xs) s = (q : R) × answers r c a q × AreAnswered q cs xs s
  AreAnswered r [] (a ∷ xs) s = ⊥
  AreAnswered r (c ∷ cs) [] s = ⊥
