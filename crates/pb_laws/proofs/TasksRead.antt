-- Fields that say a task are refused nowhere, and are read as that task.
use Rattle.std.proofs.Common.{◌≡◌, ℕ, suc, pos, Bool, true, false, not, ◌&&◌, ◌||◌, cond, Option, Some, None, option_map, unwrap_or, Ok, codes, refl, sym, ap, ◌∙◌}
use Rattle.std.specs.List.{list_any}
use Rattle.pb_semantics.specs.Data.{Data, Fields, boolean, int, text, rec}
use Rattle.pb_language.specs.Book.{Registry, TaskData, flush_step, task_step}
use Rattle.pb_language.specs.BookForm.{is_flush, or_code, standing, step_in, task_before, task_in, unless}
use Rattle.pb_language.specs.Expression.{Name, Expression, no_expressions, no_parts}
use Rattle.pb_language.specs.Keywords.{Standing, at_top}
use Rattle.pb_language.specs.Task.{Attempts}
use Rattle.pb_language.specs.TaskForm.{arguments_in, attempts_in, boolean_in, code_where, conditions_found, conditions_given, fit_works, fits_until, free_form, has_key, has_no_lone_work, has_unreadable, has_wrong_value, is_action, is_missing, is_past_limits, is_unknown, keys_of, lone, loop_in, loop_reads, module_at, reads_all, retries_in, task_of, task_offence, text_in, topics_in, vars_found, work_found, works_in}
use Rattle.pb_language.specs.Book.{module_work}
use Rattle.pb_laws.specs.PrintedBook.{Writing, given_conditions, printed_flush, printed_task, work_key}
use Rattle.pb_laws.specs.PrintableBook.{AreAttempts, IsLine, IsLoop, IsTask, IsTaskStep, Where}
use Rattle.pb_laws.proofs.Entries.{key_value}
use Rattle.pb_laws.proofs.Expressions.{conditions_read, found_read, given_found, given_read, texts_read, vars_read, work_read}
use Rattle.pb_laws.proofs.Keys.{known_key, other_word, own_key, work_fits}
use Rattle.pb_laws.proofs.Tasks.{Says, task_says, task_value, until_read}

-- of what may be left out

still_missing : {A : Type 0} (f : A → Data) (o : Option A) → is_missing (option_map f o) ≡ is_missing o
still_missing f None = refl
still_missing f (Some a) = refl

loop_read : (w : Writing) (o : Option Expression) → Where (IsLoop w) o → loop_in (option_map w.value o) ≡ o
loop_read w None h = refl
loop_read w (Some e) h = h.value.read

loop_readable : (w : Writing) (o : Option Expression) → Where (IsLoop w) o → loop_reads (option_map w.value o) ≡ true
loop_readable w None h = refl
loop_readable w (Some e) h = ap (λ x. not (is_missing x)) h.value.read

pub text_read : (o : Option Name) → text_in (option_map text o) ≡ o
text_read None = refl
text_read (Some n) = refl

pub boolean_read : (o : Option Bool) → boolean_in (option_map boolean o) ≡ o
boolean_read None = refl
boolean_read (Some b) = refl

-- what is repeated, and how often
attempts_read : (w : Writing) (t : TaskData) (o : Option Attempts) → Where (AreAttempts w t) o
    → option_map {U = Attempts} (λ es. record { until = es; retries = retries_in (option_map (λ a. int (pos a.retries)) o) }) (conditions_given (given_conditions w (option_map (λ a. a.until) o))) ≡ o
attempts_read w t None h = refl
attempts_read w t (Some a) h = λ i. option_map {U = Attempts} (λ es. record { until = es; retries = a.retries }) (conditions_read w a.until h.until i)

until_fits : (w : Writing) (t : TaskData) (o : Option Attempts) → Where (AreAttempts w t) o
    → cond (not (is_missing (given_conditions w (option_map (λ a. a.until) o)))) (not (not (is_missing (option_map w.value t.loop))) && not (is_action (work_key t.work) || false))
    (not (not (is_missing (option_map {U = Data} (λ a. int (pos a.retries)) o)))) ≡ true
until_fits w t None h = refl
until_fits w t (Some a) h = λ i. not (not ((still_missing w.value t.loop ∙ h.once) i)) && not (h.calls i || false)

-- the fields of a task are refused nowhere

wrong_nowhere : (ms : Registry) (w : Writing) (s : Standing) (fs : Fields) (t : TaskData) → IsTask ms w t → Says w s fs t → has_wrong_value ms s fs ≡ false
wrong_nowhere ms w s fs t h f =
    let works : fit_works ms s fs (works_in s fs) ≡ true = (λ i. fit_works ms s fs (f.works i)) ∙ (λ i. work_fits ms w s fs t.work h.work i && true) in
    let has_until : has_key (codes "until") fs ≡ not (is_missing (given_conditions w (option_map (λ a. a.until) t.attempts))) = key_value (codes "until") fs ∙ ap (λ x. not (is_missing x)) f.until in
    let has_loop : has_key (codes "loop") fs ≡ not (is_missing (option_map w.value t.loop)) = key_value (codes "loop") fs ∙ ap (λ x. not (is_missing x)) f.loop in
    let has_retries : has_key (codes "retries") fs ≡ not (is_missing (option_map {U = Data} (λ a. int (pos a.retries)) t.attempts)) = key_value (codes "retries") fs ∙ ap (λ x. not (is_missing x)) f.retries in
    let until : fits_until s fs ≡ true = (λ i. cond (has_until i) (not (has_loop i) && not (list_any is_action (keys_of (f.works i)))) (not (has_retries i))) ∙ until_fits w t t.attempts h.attempts in
    λ i. f.clear i || (not (f.fit i) || (not (works i) || not (until i)))

work_said : (ms : Registry) (w : Writing) (s : Standing) (fs : Fields) (t : TaskData) → IsTask ms w t → Says w s fs t → work_found ms (lone (works_in s fs)) ≡ Some t.work
work_said ms w s fs t h f = (λ i. work_found ms (lone (f.works i))) ∙ work_read ms w t.work h.work

all_readable : (ms : Registry) (w : Writing) (s : Standing) (fs : Fields) (t : TaskData) → IsTask ms w t → Says w s fs t → has_unreadable ms s fs ≡ false
all_readable ms w s fs t h f =
    let condition = ap conditions_found f.condition ∙ found_read w t.condition h.condition in
    let changed = ap (λ x. is_missing (conditions_found x)) f.changed_when ∙ given_found w t.changed_when h.changed_when in
    let failed = ap (λ x. is_missing (conditions_found x)) f.failed_when ∙ given_found w t.failed_when h.failed_when in
    let until = ap (λ x. is_missing (conditions_found x)) f.until ∙ given_found w (option_map (λ a. a.until) t.attempts) (until_read w t t.attempts h.attempts) in
    let vars = ap vars_found f.vars ∙ vars_read w t.vars h.vars in
    let loop = ap loop_reads f.loop ∙ loop_readable w t.loop h.loop in
    let all : reads_all fs ≡ true = λ i. not (is_missing (condition i)) && (not (changed i) && (not (failed i) && (not (until i) && not (is_missing (vars i))))) in
    let work = work_said ms w s fs t h f in
    λ i. not (all i) || (not (loop i) || is_missing (work i))

pub no_offence : (ms : Registry) (w : Writing) (s : Standing) (fs : Fields) (t : TaskData) → IsTask ms w t → Says w s fs t → is_past_limits s fs ≡ false → task_offence ms s fs ≡ None
no_offence ms w s fs t h f within =
    let wrong = wrong_nowhere ms w s fs t h f in
    let one : has_no_lone_work s fs ≡ false = λ i. is_missing (lone (f.works i)) in
    let known : is_unknown ms (lone (works_in s fs)) ≡ false = (λ i. is_unknown ms (lone (f.works i))) ∙ ap not (known_key ms w t.work h.work) in
    let unreadable = all_readable ms w s fs t h f in
    λ i. code_where (f.left_out i) 3 (code_where (wrong i) 4 (code_where (one i) 5 (code_where (known i) 6 (code_where (unreadable i) 7 (code_where (within i) 8 None)))))

-- and are read as the task

pub task_read : (ms : Registry) (w : Writing) (s : Standing) (fs : Fields) (l : ℕ) (t : TaskData) → IsTask ms w t → Says w s fs t → t.line ≡ l → task_of ms s l fs ≡ Some t
task_read ms w s fs l t h f at =
    let work = work_said ms w s fs t h f in
    let condition = ap conditions_found f.condition ∙ found_read w t.condition h.condition in
    let loop = ap loop_in f.loop ∙ loop_read w t.loop h.loop in
    let register = ap text_in f.register ∙ text_read t.register in
    let vars = ap vars_found f.vars ∙ vars_read w t.vars h.vars in
    let notify = ap topics_in f.notify ∙ texts_read t.notify in
    let changed = ap conditions_given f.changed_when ∙ given_read w t.changed_when h.changed_when in
    let failed = ap conditions_given f.failed_when ∙ given_read w t.failed_when h.failed_when in
    let attempts : attempts_in fs ≡ t.attempts =
    (λ i. option_map {U = Attempts} (λ es. record { until = es; retries = retries_in (f.retries i) }) (conditions_given (f.until i))) ∙ attempts_read w t t.attempts h.attempts in
    let ignores = ap boolean_in f.ignore_errors ∙ boolean_read t.ignore_errors in
    λ i. option_map {U = TaskData} (λ x. record {
      line = sym at i;
      work = x;
      condition = unwrap_or (condition i) no_expressions;
      loop = loop i;
      register = register i;
      vars = unwrap_or (vars i) no_parts;
      notify = notify i;
      changed_when = changed i;
      failed_when = failed i;
      attempts = attempts i;
      ignore_errors = ignores i;
    }) (work i)

-- a task is a step, as it is printed

no_block : (ms : Registry) (k l : ℕ) (fs : Fields) → has_key (codes "block") fs ≡ false → step_in ms k l (rec fs) ≡ task_in ms k l fs
no_block ms k l fs h = rw h refl

pub task_in_read : (ms : Registry) (w : Writing) (k l : ℕ) (t : TaskData) → IsTaskStep ms w k l t → step_in ms k l (rec (printed_task w t)) ≡ Ok (task_step t, suc l)
task_in_read ms w k l t h =
    let fs = printed_task w t in
    let own = own_key ms w t.work h.task.work in
    let f = task_says ms w (standing k) t h.task in
    let block : has_key (codes "block") fs ≡ false = key_value (codes "block") fs ∙ ap (λ x. not (is_missing x)) (task_value w t (codes "block") (other_word (codes "block") (work_key t.work) own refl)) in
    let offence = no_offence ms w (standing k) fs t h.task f h.within in
    let flush : is_flush (lone (works_in (standing k) fs)) ≡ false = (λ i. is_flush (lone (f.works i))) ∙ own.meta in
    let task = task_read ms w (standing k) fs l t h.task f h.line.number in
    no_block ms k l fs block
    ∙ (λ i. unless l (or_code (offence i) (code_where (h.line.few i) 8 None)) (Ok (cond (flush i) (flush_step l) (task_before (task i)), suc l)))

-- a flush is a step at the top of a section

flush_readable : (o : Option Name) → is_missing (option_map (module_work (codes "meta")) (arguments_in o (text (codes "flush_handlers")))) ≡ false
flush_readable None = refl
flush_readable (Some n) = refl

pub flush_read : (ms : Registry) (l m : ℕ) → IsLine l m → step_in ms 0 l (rec printed_flush) ≡ Ok (flush_step m, suc l)
flush_read ms l m h =
    let offence : task_offence ms at_top printed_flush ≡ None = ap (λ q. code_where q 7 None) (flush_readable (free_form (module_at (codes "meta") ms))) in
    λ i. unless l (or_code (offence i) (code_where (h.few i) 8 None)) (Ok (flush_step (sym h.number i), suc l))
