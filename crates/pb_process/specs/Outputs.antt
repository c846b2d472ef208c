-- What the output of a program is as an answer (this project's own).
use Rattle.std.specs.Prelude.{◌≡◌, ◌⊎◌, Bool, true, false, cond, is_some, Option, Some}
use Rattle.std.specs.Prelude.{None, codes}
use Rattle.pb_semantics.specs.Data.{Data, Fields, boolean, field_value, put_field, rec}
use Rattle.pb_language.specs.Give.{object}
use Rattle.pb_runner.specs.Scripts.{says_unreachable}
use Rattle.pb_finish.specs.Answers.{answer_data}
use Rattle.pb_finish.specs.declared.answer.Answer.{Answer}
use Rattle.pb_finish.specs.declared.answer.Answer.TheVariants.{Broken, Unreachable}
use Rattle.pb_finish.specs.declared.answer.Why.TheVariants.{NoAnswer, NotJson}

-- a program that didn't end well has failed, where it says nothing of it
abbrev pub ended_fields : Bool → Fields → Fields
ended_fields true fs = fs
ended_fields false fs = cond (is_some (field_value (codes "failed") fs)) fs
    (put_field (codes "failed") (boolean true) fs)

-- of a record that doesn't say that the host can't be reached
abbrev pub IsRecord : Bool → Fields → Answer → Type 0
IsRecord q fs a = (answer_data a ≡ object (rec (ended_fields q fs))) ⊎ (a ≡ Broken NoAnswer)

-- the value that was read, or that there was no memory to give it out
abbrev pub IsOutput : Bool → Data → Answer → Type 0
IsOutput q (rec fs) a =
    cond (says_unreachable (rec fs)) (a ≡ Unreachable) (IsRecord q fs a)
IsOutput q d a = a ≡ Broken NotJson

-- the text, or that there was no memory to read it
abbrev pub IsOutputOf : Bool → Option Data → Answer → Type 0
IsOutputOf q None a = (a ≡ Broken NotJson) ⊎ (a ≡ Broken NoAnswer)
IsOutputOf q (Some d) a = IsOutput q d a ⊎ (a ≡ Broken NoAnswer)
