-- What is asked of a task in an environment (this project's own).
use Rattle.std.specs.Prelude.{ℕ, List, [], ◌∷◌, Bool, true, false, not, ◌&&◌, cond, Option, Some}
use Rattle.std.specs.Prelude.{None}
use Rattle.std.specs.Str.{bytes_eq}
use Rattle.pb_semantics.specs.Kind.{KindData, Slots, Cases, never, no_cases}
use Rattle.pb_semantics.specs.Kind.{one as a_case}
use Rattle.pb_semantics.specs.Below.{below}
use Rattle.pb_semantics.specs.Signature.{ParameterData, ModuleData}
use Rattle.pb_language.specs.Expression.{Name, Expression, Expressions, no_expressions, expression}
use Rattle.pb_language.specs.Expression.{Parts, no_parts, part}
use Rattle.pb_language.specs.Scope.{Scope}
use Rattle.pb_language.specs.Kinds.{kind_of}
use Rattle.pb_language.specs.Narrow.{narrow}
use Rattle.pb_language.specs.Fit.{Fault, wrong_kind, unknown_handler, malformed, first, asks}
use Rattle.pb_language.specs.Fit.{is_any, is_boolean, is_text, is_list, fault, fields_fault}
use Rattle.pb_language.specs.Notify.{all_notified, names_something}
use Rattle.pb_language.specs.Task.{Action, call_of, debug, set_fact, assertion, failure_of}
use Rattle.pb_language.specs.Task.{Attempts, Task}
use Rattle.pb_language.specs.Cases.{Sets, no_sets, sets, append_sets, action_sets, going_cases}
use Rattle.pb_language.specs.Cases.{failing_cases, registered_kind, with_register, with_sets}
use Rattle.pb_language.specs.Cases.{length_bound, is_lawful_shape}
use Rattle.pb_language.specs.Setting.{Setting, start_scope, loop_kind, item_scope, action_scope}
use Rattle.pb_language.specs.Setting.{give_scope, until_scope}

-- each condition where those before it hold
abbrev pub conditions_fault : Scope → Expressions → Option Fault
conditions_fault c no_expressions = None
conditions_fault c (expression e es) = first (fault c e)
    (first (asks wrong_kind (is_boolean (kind_of c e))) (conditions_fault (narrow c e true) es))

abbrev pub keyword_fault : Scope → Option Expressions → Option Fault
keyword_fault c None = None
keyword_fault c (Some es) = conditions_fault c es

abbrev pub loop_fault : Scope → Option Expression → Option Fault
loop_fault c None = None
loop_fault c (Some e) = first (fault c e) (asks wrong_kind (is_list (kind_of c e)))

abbrev pub parameter_kind : Name → List ParameterData → KindData
parameter_kind n [] = never
parameter_kind n (p ∷ ps) = cond (bytes_eq n p.name) p.kind (parameter_kind n ps)

-- each argument keeps its parameter's kind
abbrev pub arguments_fault : Scope → List ParameterData → Parts → Option Fault
arguments_fault c ps no_parts = None
arguments_fault c ps (part n e qs) = first
    (first (fault c e) (asks wrong_kind
    (not (is_any (kind_of c e)) && below (kind_of c e) (parameter_kind n ps))))
    (arguments_fault c ps qs)

abbrev pub text_fault : Scope → Option Expression → Option Fault
text_fault c None = None
text_fault c (Some e) = first (fault c e) (asks wrong_kind (is_text (kind_of c e)))

-- the laws that every module keeps
abbrev pub is_lawful : ModuleData → Bool
is_lawful m = is_lawful_shape m.ok && is_lawful_shape m.failure

-- the arguments by name
abbrev pub action_fault : Scope → Action → Option Fault
action_fault c (call_of m ps) = first (asks malformed (is_lawful m)) (arguments_fault c m.params ps)
action_fault c (debug e) = first (fault c e) (asks wrong_kind (not (is_any (kind_of c e))))
action_fault c (set_fact ps) = fields_fault c ps
action_fault c (assertion es o) = first (text_fault c o) (conditions_fault c es)
action_fault c (failure_of o) = text_fault c o

abbrev pub until_fault : Scope → Option Attempts → Option Fault
until_fault c None = None
until_fault c (Some a) = conditions_fault c a.until

-- the loop, the conditions, the arguments, `changed_when`, `failed_when`, `until`; then the texts
-- that are notified
abbrev pub task_fault : Setting → Task → Slots → Option Fault
task_fault st t env =
    first (loop_fault (start_scope st t env) t.loop)
    (first (conditions_fault (item_scope st t env) t.conditions)
    (first (action_fault (action_scope st t env) t.action)
    (first (keyword_fault (give_scope st t env) t.changed_when)
    (first (keyword_fault (give_scope st t env) t.failed_when)
    (first (until_fault (until_scope st t env) t.attempts)
    (asks unknown_handler (names_something (all_notified st.handlers t.notifies))))))))

-- the environment after an exit, if there is one
pub data Exit : Type 0 where
  dead : Exit
  live : Slots → Exit

abbrev pub has_case : Cases → Bool
has_case no_cases = false
has_case (a_case m sh fl k cs) = true

abbrev pub live_if : Bool → Slots → Exit
live_if true env = live env
live_if false env = dead

abbrev pub task_kind : Setting → Task → Slots → Cases → KindData
task_kind st t env cs = registered_kind t (loop_kind (start_scope st t env) t.loop) cs

abbrev pub task_sets : Setting → Task → Slots → Sets
task_sets st t env = action_sets (action_scope st t env) t t.action

-- the environments after a task: where it goes on, and where it fails
abbrev pub going_slots : Setting → Task → Slots → Slots
going_slots st t env = with_sets (task_sets st t env)
    (with_register t.register (task_kind st t env (going_cases t)) env)

abbrev pub failing_slots : Setting → Task → Slots → Slots
failing_slots st t env = with_register t.register (task_kind st t env (failing_cases t)) env

-- with a loop the way on is always there; another exit is there only where a case is left for it
abbrev pub has_going : Task → Option Expression → Bool
has_going t None = has_case (going_cases t)
has_going t (Some e) = true

abbrev pub going_exit : Setting → Task → Slots → Exit
going_exit st t env = live_if (has_going t t.loop) (going_slots st t env)

abbrev pub failing_exit : Setting → Task → Slots → Exit
failing_exit st t env = live_if (has_case (failing_cases t)) (failing_slots st t env)

abbrev pub register_writes : Option Name → Bool → KindData → Sets
register_writes None b k = no_sets
register_writes (Some n) b k = cond b (sets n true k no_sets) no_sets

-- everything that the task may write, with its kind
abbrev pub task_writes : Setting → Task → Slots → Sets
task_writes st t env =
    append_sets (register_writes t.register (has_going t t.loop)
    (task_kind st t env (going_cases t)))
    (append_sets (register_writes t.register (has_case (failing_cases t))
    (task_kind st t env (failing_cases t))) (task_sets st t env))

-- the greatest number of items
abbrev pub loop_length : Setting → Task → Slots → Option Expression → ℕ
loop_length st t env None = 1
loop_length st t env (Some e) = length_bound (kind_of (start_scope st t env) e)
