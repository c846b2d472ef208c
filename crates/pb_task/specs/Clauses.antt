-- The conditions and other texts of a task, and the task that they make.
use Rattle.std.specs.Prelude.{ℕ, Option, Some, None, option_map, unwrap_or, codes}
use Rattle.pb_semantics.specs.Data.{Data, Fields, field_value}
use Rattle.pb_language.specs.Book.{TaskData, Work}
use Rattle.pb_language.specs.Expression.{Expression, Expressions, no_expressions, Parts}
use Rattle.pb_language.specs.Task.{Attempts}
use Rattle.pb_language.specs.TaskForm.{boolean_in, retries_in, text_in}
use Rattle.pb_language.specs.TaskForm.{topics_in, vars_found}
use Rattle.pb_language.specs.Texts.{conditions_in, value_of}
use Rattle.pb_syntax.specs.ExprView.{expr_view, exprs_view}
use Rattle.pb_template.specs.Entries.{entries_view}
use Rattle.pb_task.specs.Doings.{Doing, work_doing}
use Rattle.pb_task.specs.declared.clause.Clauses as code
use Rattle.pb_task.specs.declared.text.Texts as code_texts

-- conditions that may be given
abbrev pub conditions_at : Option Data → Option (Option Expressions)
conditions_at None = Some None
conditions_at (Some d) = option_map (λ es. Some es) (conditions_in d)

abbrev pub loop_at : Option Data → Option (Option Expression)
loop_at None = Some None
loop_at (Some d) = option_map (λ e. Some e) (value_of d)

pub record Clauses : Type 0 where
  pub when : Option Expressions
  pub changed_when : Option Expressions
  pub failed_when : Option Expressions
  pub until : Option Expressions

abbrev pub clauses_of : Option (Option Expressions) → Option (Option Expressions)
    → Option (Option Expressions) → Option (Option Expressions) → Option Clauses
clauses_of (Some w) (Some c) (Some f) (Some u) =
    Some (record { when = w; changed_when = c; failed_when = f; until = u })
clauses_of w c f u = None

abbrev pub clauses_in : Fields → Option Clauses
clauses_in fs = clauses_of (conditions_at (field_value (codes "when") fs))
    (conditions_at (field_value (codes "changed_when") fs))
    (conditions_at (field_value (codes "failed_when") fs))
    (conditions_at (field_value (codes "until") fs))

abbrev pub clauses_view : code.Clauses → Clauses
clauses_view c = record {
  when = option_map (λ es. exprs_view es.items) c.when;
  changed_when = option_map (λ es. exprs_view es.items) c.changed_when;
  failed_when = option_map (λ es. exprs_view es.items) c.failed_when;
  until = option_map (λ es. exprs_view es.items) c.until;
}

pub record Texts : Type 0 where
  pub clauses : Clauses
  pub vars : Parts
  pub loop : Option Expression

abbrev pub texts_from : Option Clauses → Option Parts → Option (Option Expression) → Option Texts
texts_from (Some c) (Some v) (Some e) = Some (record { clauses = c; vars = v; loop = e })
texts_from c v e = None

abbrev pub texts_in : Fields → Option Texts
texts_in fs = texts_from (clauses_in fs) (vars_found (field_value (codes "vars") fs))
    (loop_at (field_value (codes "loop") fs))

abbrev pub texts_view : code_texts.Texts → Texts
texts_view t = record {
  clauses = clauses_view t.clauses;
  vars = entries_view t.vars.items;
  loop = option_map expr_view t.loop_over;
}

abbrev pub attempts_with : Option Expressions → Option Data → Option Attempts
attempts_with until d = option_map (λ es. record { until = es; retries = retries_in d }) until

abbrev pub task_with : ℕ → Fields → Texts → Work → TaskData
task_with l fs t w = record {
  line = l;
  work = w;
  condition = unwrap_or t.clauses.when no_expressions;
  loop = t.loop;
  register = text_in (field_value (codes "register") fs);
  vars = t.vars;
  notify = topics_in (field_value (codes "notify") fs);
  changed_when = t.clauses.changed_when;
  failed_when = t.clauses.failed_when;
  attempts = attempts_with t.clauses.until (field_value (codes "retries") fs);
  ignore_errors = boolean_in (field_value (codes "ignore_errors") fs);
}

abbrev pub task_of_texts : ℕ → Fields → Option Texts → Option (Option Work)
    → Option (Option TaskData)
task_of_texts l fs (Some t) (Some w) = Some (option_map (task_with l fs t) w)
task_of_texts l fs t w = None

-- the task at that line that does this with what is given; none of a flush
abbrev pub task_doing : Doing → ℕ → Fields → Data → Option (Option TaskData)
task_doing w l fs d = task_of_texts l fs (texts_in fs) (work_doing w d)
