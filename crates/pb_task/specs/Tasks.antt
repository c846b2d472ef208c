-- What a task stands for, and what is so of each.
use Rattle.std.specs.Prelude.{◌≡◌, List, map, Some, option_map, String, true, Vec}
use Rattle.std.specs.Prelude.{string_bytes}
use Rattle.std.specs.declared.alloc.Global.{Global}
use Rattle.std.specs.declared.sync.Arc.{Arc}
use Rattle.pb_semantics.specs.Signature.{ModuleData}
use Rattle.pb_language.specs.Book as language
use Rattle.pb_language.specs.Book.{TaskData, not_given, not_well_formed, conditions_are}
use Rattle.pb_language.specs.Book.{module_work, debug_work, set_fact_work, assert_work, fail_work}
use Rattle.pb_language.specs.Expression.{Name, Parts}
use Rattle.pb_language.specs.Task as running
use Rattle.pb_language.specs.TaskForm.{module_at}
use Rattle.pb_sig.specs.ModuleView.{known_view}
use Rattle.pb_syntax.specs.ExprView.{expr_view, exprs_view}
use Rattle.pb_template.specs.Entries.{are_ascending, entries_view, entry_names}
use Rattle.pb_template.specs.declared.entry.Entry.{Entry}
use Rattle.pb_task.specs.declared.task.Asserted.{Asserted}
use Rattle.pb_task.specs.declared.task.Asserted.TheVariants.{NotGiven, Malformed, Conditions}
use Rattle.pb_task.specs.declared.task.Attempts.{Attempts}
use Rattle.pb_task.specs.declared.task.Task.{Task}
use Rattle.pb_task.specs.declared.task.Work.{Work}
use Rattle.pb_task.specs.declared.task.Work.TheVariants.{Module, Debug, SetFact, Assert, Fail}

abbrev pub asserted_view : Asserted → language.Asserted
asserted_view NotGiven = not_given
asserted_view Malformed = not_well_formed
asserted_view (Conditions es) = conditions_are (exprs_view es.items)

abbrev pub work_view : Work → Parts → language.Work
work_view (Module m) ps = module_work (known_view m.value).name ps
work_view Debug ps = debug_work ps
work_view SetFact ps = set_fact_work ps
work_view (Assert a) ps = assert_work (asserted_view a) ps
work_view Fail ps = fail_work ps

-- the work with its arguments
abbrev pub worked : Work × Vec Entry Global → language.Work
worked w = work_view w.0 (entries_view w.1.items)

abbrev pub names_view : List (Arc (String Global) Global) → List Name
names_view ns = map (λ n. string_bytes n.value) ns

abbrev pub attempts_view : Attempts → running.Attempts
attempts_view a = record { until = exprs_view a.until.items; retries = a.retries }

abbrev pub task_view : Task → TaskData
task_view t = record {
  line = t.line;
  work = work_view t.work (entries_view t.arguments.items);
  condition = exprs_view t.when.items;
  loop = option_map expr_view t.loop_over;
  register = option_map (λ n. string_bytes n.value) t.register;
  vars = entries_view t.vars.items;
  notify = names_view t.notify.items;
  changed_when = option_map (λ es. exprs_view es.items) t.changed_when;
  failed_when = option_map (λ es. exprs_view es.items) t.failed_when;
  attempts = option_map attempts_view t.attempts;
  ignore_errors = t.ignore_errors;
}

-- a module that is called is the registry's of that name
abbrev pub Resolves : List ModuleData → Work → Type 0
Resolves ms (Module m) = module_at (known_view m.value).name ms ≡ Some (known_view m.value)
Resolves ms w = Unit {0}

abbrev pub IsResolved : List ModuleData → Task → Type 0
IsResolved ms t = Resolves ms t.work

-- its arguments and its variables stand in the order of their names' bytes, each name once
abbrev pub IsOrdered : Task → Type 0
IsOrdered t = (are_ascending (entry_names t.arguments.items) ≡ true)
    × (are_ascending (entry_names t.vars.items) ≡ true)
