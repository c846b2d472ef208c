-- The breach that is told: that of the first answer that isn't admitted.
use Rattle.std.specs.Prelude.{◌≡◌, ◌≤◌, ◌++◌, ◌∷◌, List, Some, drop, length, map, take}
use Rattle.pb_language.specs.Give as language
use Rattle.pb_language.specs.Give.{admit_passes, breached, unreachable, unreached}
use Rattle.pb_language.specs.Start as started
use Rattle.pb_language.specs.Task.{Action}
use Rattle.pb_finish.specs.Answers.{IsFaultOf, answer_data, first_of}
use Rattle.pb_finish.specs.declared.answer.Answer.{Answer}
use Rattle.pb_finish.specs.declared.answer.Breach.{Breach}

-- it tells what is wrong with the answer at its call's place; that call is made, and the answers
-- before it are admitted: an unreachable one in its place would decide
pub record IsFirstBreach (a : Action) (ps : List started.Pass) (xs : List Answer) (b : Breach)
    : Type 0 where
  pub fault : IsFaultOf b.fault (first_of (drop b.call xs))
  pub within : b.call ≤ length xs
  pub asked : (ys : List language.Answer)
      → admit_passes a ps (map answer_data (take b.call xs) ++ unreachable ∷ ys) ≡ unreached
  pub refused : (x : Answer) (ys : List language.Answer) → first_of (drop b.call xs) ≡ Some x
      → admit_passes a ps (map answer_data (take b.call xs) ++ answer_data x ∷ ys) ≡ breached
