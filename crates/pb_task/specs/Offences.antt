-- The codes of a task, and what it is read to.
use Rattle.std.specs.Prelude.{ℕ, cond, Option, Some, None, Result, Ok, Err}
use Rattle.pb_semantics.specs.Data.{Fields}
use Rattle.pb_language.specs.Book.{Registry, TaskData}
use Rattle.pb_language.specs.BookForm.{is_flush}
use Rattle.pb_language.specs.Keywords.{Standing}
use Rattle.pb_language.specs.TaskForm.{code_where, has_left_out, has_no_lone_work}
use Rattle.pb_language.specs.TaskForm.{has_wrong_value, is_unknown, lone, task_of, task_offence}
use Rattle.pb_language.specs.TaskForm.{works_in}
use Rattle.pb_task.specs.declared.fault.Code.{Code}
use Rattle.pb_task.specs.declared.fault.Code.TheVariants as code

abbrev pub number_of : Code → ℕ
number_of code.Shape = 2
number_of code.Keyword = 3
number_of code.Value = 4
number_of code.Work = 5
number_of code.Module = 6
number_of code.Expression = 7
number_of code.Limit = 8
number_of code.Name = 9

-- the codes that are seen before a text is read
abbrev pub form_offence : Registry → Standing → Fields → Option ℕ
form_offence ms s fs =
    code_where (has_left_out s fs) 3
    (code_where (has_wrong_value ms s fs) 4
    (code_where (has_no_lone_work s fs) 5
    (code_where (is_unknown ms (lone (works_in s fs))) 6 None)))

abbrev pub unless : {A : Type 0} → Option ℕ → A → Result A ℕ
unless None a = Ok a
unless (Some n) a = Err n

-- a task, or none for a flush; or the code that refuses it
abbrev pub task_read : Registry → Standing → ℕ → Fields → Result (Option TaskData) ℕ
task_read ms s l fs = unless (task_offence ms s fs)
    (cond (is_flush (lone (works_in s fs))) None (task_of ms s l fs))
