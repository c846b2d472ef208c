-- Handlers as they are read one by one, and the names of those before.
use Rattle.std.specs.Prelude.{ℕ, List, [], ◌∷◌, length, Bool, false, ◌||◌, nat_le, nat_lt, codes}
use Rattle.std.specs.Prelude.{Option, Some, None, Result, Ok, Err}
use Rattle.std.specs.Str.{bytes_eq}
use Rattle.pb_semantics.specs.Data.{Data, Fields, field_value, rec}
use Rattle.pb_language.specs.Book.{HandlerData, Registry, TaskData}
use Rattle.pb_language.specs.BookForm.{Offence, is_second, most_handlers, most_lines, named_too}
use Rattle.pb_language.specs.Expression.{Name}
use Rattle.pb_language.specs.Keywords.{as_handler}
use Rattle.pb_language.specs.TaskForm.{code_where, task_of, task_offence, text_in, topics_in}
use Rattle.pb_play.specs.Blocks.{refused_or}

-- the names of handlers in front of others, the last first
abbrev pub names_onto : List Name → List HandlerData → List Name
names_onto ns [] = ns
names_onto ns (h ∷ hs) = names_onto (named_too ns h.name) hs

abbrev pub names_met : List HandlerData → List Name
names_met hs = names_onto [] hs

abbrev pub is_named : Name → HandlerData → Bool
is_named n h = is_name n h.name where
  is_name : Name → Option Name → Bool
  is_name n None = false
  is_name n (Some m) = bytes_eq n m

abbrev pub at_line : {A : Type 0} → ℕ → ℕ → Result A Offence
at_line l n = Err (record { line = l; code = n })

-- the task that a handler does; none is a flush
abbrev pub work_told : ℕ → Option ℕ → Option TaskData → Result TaskData Offence
work_told l (Some n) t = at_line l n
work_told l None (Some t) = Ok t
work_told l None None = at_line l 4

abbrev pub work_read : Registry → ℕ → Fields → Result TaskData Offence
work_read ms l fs = work_told l (task_offence ms as_handler fs) (task_of ms as_handler l fs)

abbrev pub handler_with : Fields → TaskData → HandlerData
handler_with fs t = record {
  work = t;
  name = text_in (field_value (codes "name") fs);
  topics = topics_in (field_value (codes "listen") fs);
}

-- a line past the limit, too many handlers before, or one of the same name
abbrev pub place_offence : ℕ → List HandlerData → Option Name → Option ℕ
place_offence l hs n = code_where (nat_lt most_lines l || nat_le most_handlers (length hs)) 8
    (code_where (is_second (names_met hs) n) 9 None)

abbrev pub handler_doing : ℕ → Option ℕ → Fields → Result TaskData Offence
    → Result HandlerData Offence
handler_doing l place fs (Err o) = Err o
handler_doing l place fs (Ok t) = refused_or l place (handler_with fs t)

abbrev pub handler_of : Registry → ℕ → List HandlerData → Fields → Result HandlerData Offence
handler_of ms l hs fs = handler_doing l
    (place_offence l hs (text_in (field_value (codes "name") fs))) fs (work_read ms l fs)

-- the handler behind those
abbrev pub handler_read : Registry → ℕ → List HandlerData → Data → Result HandlerData Offence
handler_read ms l hs (rec fs) = handler_of ms l hs fs
handler_read ms l hs d = at_line l 2
