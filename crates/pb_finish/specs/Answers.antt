-- What the answers to a task's calls stand for, and what is wrong with one.
use Rattle.std.specs.Prelude.{◌≡◌, List, [], ◌∷◌, Option, Some, None}
use Rattle.pb_language.specs.Give as language
use Rattle.pb_language.specs.Give.{object, unreachable, broken}
use Rattle.pb_value.specs.View.{view}
use Rattle.pb_finish.specs.declared.answer.Answer.{Answer}
use Rattle.pb_finish.specs.declared.answer.Answer.TheVariants as answers
use Rattle.pb_finish.specs.declared.answer.AnswerFault.{AnswerFault}
use Rattle.pb_finish.specs.declared.answer.AnswerFault.TheVariants as faults

abbrev pub answer_data : Answer → language.Answer
answer_data (answers.Object v) = object (view v)
answer_data answers.Unreachable = unreachable
answer_data (answers.Broken w) = broken

abbrev pub first_of : {A : Type 0} → List A → Option A
first_of [] = None
first_of (x ∷ xs) = Some x

abbrev pub other_answers : List language.Answer → List language.Answer
other_answers [] = []
other_answers (x ∷ xs) = xs

-- this is wrong with the answer, or with there being none
abbrev pub IsFaultOf : AnswerFault → Option Answer → Type 0
IsFaultOf faults.Missing None = Unit {0}
IsFaultOf (faults.Broken w) (Some (answers.Broken v)) = w ≡ v
IsFaultOf faults.WrongKind (Some (answers.Object v)) = Unit {0}
IsFaultOf q o = ⊥
