-- A task, printed, is refused nowhere and read as that task, wherever it stands.
use Rattle.std.proofs.Common.{◌≡◌, pos, List, [], ◌∷◌, Bool, true, false, ◌&&◌, ◌||◌, cond, Option, Some, None, option_map, bytes_eq, codes, refl, ap, ◌∙◌}
use Rattle.std.specs.List.{list_all, list_any}
use Rattle.pb_semantics.specs.Data.{Data, Items, Fields, boolean, int, text, rec, no_items, item, no_fields, field, field_value}
use Rattle.pb_language.specs.Book.{Registry, TaskData}
use Rattle.pb_language.specs.BookForm.{fits}
use Rattle.pb_language.specs.Expression.{Name, Expression, Expressions, Parts, no_expressions, expression, no_parts, part}
use Rattle.pb_language.specs.Inventories.{has_opening}
use Rattle.pb_language.specs.Keywords.{Standing, as_handler, at_top, in_block, is_left_out}
use Rattle.pb_language.specs.Nesting.{holds, some_field_holds, some_item_holds}
use Rattle.pb_language.specs.Task.{Attempts}
use Rattle.pb_language.specs.TaskForm.{fit_keywords, fits_keyword, has_left_out, holds_where, is_boolean, is_loop, is_name_of_variable, is_retries, is_topics, is_vars, works_in}
use Rattle.pb_language.specs.Texts.{has_conditions, is_opaque}
use Rattle.pb_laws.specs.PrintedBook.{Writing, arguments, conditions, given_conditions, printed_task, some_list, some_record, task_entries, texts, values, work_key}
use Rattle.pb_laws.specs.PrintableBook.{AreAttempts, AreConditions, AreVars, IsLoop, IsTask, IsVariable, Where}
use Rattle.pb_laws.proofs.Entries.{entry, first_of, fit_written, fits_entry, is_keyword, no_key_written, none_holds_written, value_written, works_written}
use Rattle.pb_laws.proofs.Expressions.{conditions_clear, conditions_fit, texts_clear, texts_plain, values_clear, vars_fit, work_clear}
use Rattle.pb_laws.proofs.Keys.{no_left_out, no_prefix, no_word, other_word, own_key}

-- what fields say of a task
pub record Says (w : Writing) (s : Standing) (fs : Fields) (t : TaskData) : Type 0 where
  pub left_out : has_left_out s fs ≡ false
  pub clear : some_field_holds is_opaque fs ≡ false
  pub fit : fit_keywords s fs ≡ true
  pub works : works_in s fs ≡ field (work_key t.work) (rec (arguments w t.work)) no_fields
  pub condition : field_value (codes "when") fs ≡ some_list (conditions w t.condition)
  pub loop : field_value (codes "loop") fs ≡ option_map w.value t.loop
  pub register : field_value (codes "register") fs ≡ option_map text t.register
  pub vars : field_value (codes "vars") fs ≡ some_record (values w t.vars)
  pub notify : field_value (codes "notify") fs ≡ some_list (texts t.notify)
  pub changed_when : field_value (codes "changed_when") fs ≡ given_conditions w t.changed_when
  pub failed_when : field_value (codes "failed_when") fs ≡ given_conditions w t.failed_when
  pub until : field_value (codes "until") fs ≡ given_conditions w (option_map (λ a. a.until) t.attempts)
  pub retries : field_value (codes "retries") fs ≡ option_map (λ a. int (pos a.retries)) t.attempts
  pub ignore_errors : field_value (codes "ignore_errors") fs ≡ option_map boolean t.ignore_errors

-- each keyword that is written has its form

pub conditions_form : (w : Writing) (es : Expressions) → AreConditions w es → fits has_conditions (some_list (conditions w es)) ≡ true
conditions_form w no_expressions h = refl
conditions_form w (expression e es) h = conditions_fit w (expression e es) h

given_form : (w : Writing) (o : Option Expressions) → Where (AreConditions w) o → fits has_conditions (given_conditions w o) ≡ true
given_form w None h = refl
given_form w (Some es) h = conditions_fit w es h

loop_form : (w : Writing) (o : Option Expression) → Where (IsLoop w) o → fits is_loop (option_map w.value o) ≡ true
loop_form w None h = refl
loop_form w (Some e) h = h.form

register_form : (o : Option Name) → Where IsVariable o → fits is_name_of_variable (option_map text o) ≡ true
register_form None h = refl
register_form (Some n) h = h

pub vars_form : (w : Writing) (ps : Parts) → AreVars w ps → fits is_vars (some_record (values w ps)) ≡ true
vars_form w no_parts h = refl
vars_form w (part n e ps) h = vars_fit w (part n e ps) h

pub topics_form : (ns : List Name) → list_any has_opening ns ≡ false → fits is_topics (some_list (texts ns)) ≡ true
topics_form [] h = refl
topics_form (n ∷ ns) h = texts_plain (n ∷ ns) h

pub boolean_form : (o : Option Bool) → fits is_boolean (option_map boolean o) ≡ true
boolean_form None = refl
boolean_form (Some b) = refl

-- the conditions of a task that is repeated
pub until_read : (w : Writing) (t : TaskData) (o : Option Attempts) → Where (AreAttempts w t) o → Where (AreConditions w) (option_map (λ a. a.until) o)
until_read w t None h = tt
until_read w t (Some a) h = h.until

retries_form : (w : Writing) (t : TaskData) (o : Option Attempts) → Where (AreAttempts w t) o → fits is_retries (option_map (λ a. int (pos a.retries)) o) ≡ true
retries_form w t None h = refl
retries_form w t (Some a) h = h.retries

-- and no number that can't be read

pub list_clear : (ds : Items) → some_item_holds is_opaque ds ≡ false → holds_where (holds is_opaque) (some_list ds) ≡ false
list_clear no_items h = refl
list_clear (item d ds) h = h

pub record_clear : (fs : Fields) → some_field_holds is_opaque fs ≡ false → holds_where (holds is_opaque) (some_record fs) ≡ false
record_clear no_fields h = refl
record_clear (field n d fs) h = h

given_clear : (w : Writing) (o : Option Expressions) → Where (AreConditions w) o → holds_where (holds is_opaque) (given_conditions w o) ≡ false
given_clear w None h = refl
given_clear w (Some es) h = conditions_clear w es h

loop_clear : (w : Writing) (o : Option Expression) → Where (IsLoop w) o → holds_where (holds is_opaque) (option_map w.value o) ≡ false
loop_clear w None h = refl
loop_clear w (Some e) h = h.value.numbers

pub text_clear : (o : Option Name) → holds_where (holds is_opaque) (option_map text o) ≡ false
text_clear None = refl
text_clear (Some n) = refl

pub boolean_clear : (o : Option Bool) → holds_where (holds is_opaque) (option_map boolean o) ≡ false
boolean_clear None = refl
boolean_clear (Some b) = refl

retries_clear : (o : Option Attempts) → holds_where (holds is_opaque) (option_map (λ a. int (pos a.retries)) o) ≡ false
retries_clear None = refl
retries_clear (Some a) = refl

-- the printed fields of a task say it

entries_fit : (ms : Registry) (w : Writing) (s : Standing) (t : TaskData) → IsTask ms w t → list_all (fits_entry s) (task_entries w t) ≡ true
entries_fit ms w s t h = λ i. conditions_form w t.condition h.condition i && (loop_form w t.loop h.loop i && (register_form t.register h.register i
    && (vars_form w t.vars h.vars i && (topics_form t.notify h.notify i && (given_form w t.changed_when h.changed_when i
    && (given_form w t.failed_when h.failed_when i && (given_form w (option_map (λ a. a.until) t.attempts) (until_read w t t.attempts h.attempts) i
    && (retries_form w t t.attempts h.attempts i && (boolean_form t.ignore_errors i && true)))))))))

entries_clear : (ms : Registry) (w : Writing) (t : TaskData) → IsTask ms w t → list_any (λ e. holds_where (holds is_opaque) e.1) (task_entries w t) ≡ false
entries_clear ms w t h = λ i. list_clear (conditions w t.condition) (conditions_clear w t.condition h.condition) i || (loop_clear w t.loop h.loop i || (text_clear t.register i
    || (record_clear (values w t.vars) (values_clear w t.vars h.vars.values) i || (list_clear (texts t.notify) (texts_clear t.notify) i || (given_clear w t.changed_when h.changed_when i
    || (given_clear w t.failed_when h.failed_when i || (given_clear w (option_map (λ a. a.until) t.attempts) (until_read w t t.attempts h.attempts) i
    || (retries_clear t.attempts i || (boolean_clear t.ignore_errors i || false)))))))))

entries_keywords : (w : Writing) (s : Standing) (t : TaskData) → list_all (is_keyword s) (task_entries w t) ≡ true
entries_keywords w at_top t = refl
entries_keywords w in_block t = refl
entries_keywords w as_handler t = refl

entries_listed : (w : Writing) (s : Standing) (t : TaskData) → list_any (λ e. is_left_out s e.0) (task_entries w t) ≡ false
entries_listed w at_top t = refl
entries_listed w in_block t = refl
entries_listed w as_handler t = refl

lone_key : (n : Name) (k : Name) (d : Data) → bytes_eq n k ≡ false → field_value n (field k d no_fields) ≡ None
lone_key n k d h = ap (λ q. cond q (Some d) None) h

pub task_value : (w : Writing) (t : TaskData) (n : Name) → bytes_eq n (work_key t.work) ≡ false → field_value n (printed_task w t) ≡ entry n (task_entries w t)
task_value w t n h =
    let last = field (work_key t.work) (rec (arguments w t.work)) no_fields in
    value_written n (task_entries w t) last ∙ ap (first_of (entry n (task_entries w t))) (lone_key n (work_key t.work) (rec (arguments w t.work)) h)

pub task_says : (ms : Registry) (w : Writing) (s : Standing) (t : TaskData) → IsTask ms w t → Says w s (printed_task w t) t
task_says ms w s t h =
    let k = work_key t.work in
    let d = rec (arguments w t.work) in
    let last = field k d no_fields in
    let es = task_entries w t in
    let own = own_key ms w t.work h.work in
    let word = no_word s k own in
    let left = no_left_out s k own in
    record {
      left_out = no_key_written (is_left_out s) es last (entries_listed w s t) (λ i. left i || false);
      clear = none_holds_written is_opaque es last (entries_clear ms w t h) (λ i. work_clear ms w t.work h.work i || false);
      fit = fit_written s es last (entries_fit ms w s t h) (λ i. cond (word i) (fits_keyword s k d) true && true);
      works = works_written s es last (entries_keywords w s t) ∙ (λ i. cond (word i || left i) no_fields (field (no_prefix k own i) d no_fields));
      condition = task_value w t (codes "when") (other_word (codes "when") k own refl);
      loop = task_value w t (codes "loop") (other_word (codes "loop") k own refl);
      register = task_value w t (codes "register") (other_word (codes "register") k own refl);
      vars = task_value w t (codes "vars") (other_word (codes "vars") k own refl);
      notify = task_value w t (codes "notify") (other_word (codes "notify") k own refl);
      changed_when = task_value w t (codes "changed_when") (other_word (codes "changed_when") k own refl);
      failed_when = task_value w t (codes "failed_when") (other_word (codes "failed_when") k own refl);
      until = task_value w t (codes "until") (other_word (codes "until") k own refl);
      retries = task_value w t (codes "retries") (other_word (codes "retries") k own refl);
      ignore_errors = task_value w t (codes "ignore_errors") (other_word (codes "ignore_errors") k own refl);
    }
