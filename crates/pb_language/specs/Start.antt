-- What a task does at its Start: for each item a skip, a call of its module with the arguments, or
-- what its action does (Ansible's pages on loops and conditionals).
use Rattle.std.specs.Prelude.{ℕ, ◌+◌, List, [], ◌∷◌, Bool, true, false, Option, Some, None, codes}
use Rattle.pb_semantics.specs.Data.{Data, Items, Fields, boolean, text, list, rec, no_items, item}
use Rattle.pb_semantics.specs.Data.{no_fields, field}
use Rattle.pb_semantics.specs.Kind.{Shape, ok_shape, failure_shape}
use Rattle.pb_semantics.specs.Keeps.{keeps}
use Rattle.pb_semantics.specs.Signature.{ParameterData}
use Rattle.pb_language.specs.Expression.{Name, Expression, Parts, no_parts, part}
use Rattle.pb_language.specs.World.{World}
use Rattle.pb_language.specs.Evaluation.{Stuck, wrong_sort, Outcome, value, stuck, then_go}
use Rattle.pb_language.specs.Evaluation.{put_part, given, eval, eval_all, eval_parts}
use Rattle.pb_language.specs.Task.{Action, call_of, debug, set_fact, assertion, failure_of, Task}
use Rattle.pb_language.specs.Setting.{with_local}
use Rattle.pb_language.specs.Judgement.{parameter_kind}

-- what is set, name by name; a name with no value stays as it was
pub data Changes : Type 0 where
  no_changes : Changes
  change : Name → Option Data → Changes → Changes

pub data Entry : Type 0 where
  skips : Entry
  calls : Data → Entry
  -- the shape and the fields of its result, and what it sets
  acts : Shape → Fields → Changes → Entry

-- one item of a task, or the task itself
pub record Pass : Type 0 where
  pub item : Option Data
  pub entry : Entry

pub data Plan : Type 0 where
  planned : List Pass → Plan
  halted : Stuck → Plan

-- the arguments by name, each of its parameter's kind
abbrev pub kept_argument : Bool → Name → Data → Outcome → Outcome
kept_argument true n d o = put_part n d o
kept_argument false n d o = stuck wrong_sort

abbrev pub eval_arguments : World → List ParameterData → Parts → Outcome
eval_arguments w ps no_parts = value (rec no_fields)
eval_arguments w ps (part n e qs) = then_go (eval w e)
    (λ d. kept_argument (keeps d (parameter_kind n ps)) n d (eval_arguments w ps qs))

abbrev pub only_text : Data → Outcome
only_text (text s) = value (text s)
only_text d = stuck wrong_sort

abbrev pub eval_text_or : World → List ℕ → Option Expression → Outcome
eval_text_or w s None = value (text s)
eval_text_or w s (Some e) = then_go (eval w e) only_text

abbrev pub unchanged : Fields
unchanged = field (codes "changed") (boolean false) no_fields

abbrev pub unchanged_with : Data → Fields
unchanged_with d = field (codes "changed") (boolean false) (field (codes "msg") d no_fields)

-- what comes of an item
pub data Made : Type 0 where
  made : Entry → Made
  unmade : Stuck → Made

abbrev pub made_with : Outcome → (Data → Made) → Made
made_with (value d) go = go d
made_with (stuck s) go = unmade s

abbrev pub asserted : Data → Data → Made
asserted m (boolean true) =
    made (acts ok_shape (unchanged_with (text (codes "All assertions passed"))) no_changes)
asserted m (boolean false) = made (acts failure_shape (unchanged_with m) no_changes)
asserted m d = unmade wrong_sort

abbrev pub all_changes : Fields → Changes
all_changes no_fields = no_changes
all_changes (field n d fs) = change n (Some d) (all_changes fs)

abbrev pub set_by : Data → Made
set_by (rec fs) = made (acts ok_shape unchanged (all_changes fs))
set_by d = unmade wrong_sort

abbrev pub eval_action : World → Action → Made
eval_action w (call_of m ps) = made_with (eval_arguments w m.params ps) (λ d. made (calls d))
eval_action w (debug e) =
    made_with (then_go (eval w e) given) (λ d. made (acts ok_shape unchanged no_changes))
eval_action w (set_fact ps) = made_with (eval_parts w ps) set_by
eval_action w (assertion es o) = made_with (eval_text_or w (codes "Assertion failed") o)
    (λ m. made_with (eval_all w es) (asserted m))
eval_action w (failure_of o) = made_with (eval_text_or w (codes "Failed as requested from task") o)
    (λ m. made (acts failure_shape (unchanged_with m) no_changes))

abbrev pub on_condition : Made → Data → Made
on_condition m (boolean true) = m
on_condition m (boolean false) = made skips
on_condition m d = unmade wrong_sort

-- the conditions, and where they hold the arguments
abbrev pub eval_item : World → Task → Made
eval_item w t = made_with (eval_all w t.conditions) (on_condition (eval_action w t.action))

abbrev pub with_local_item : World → Option Data → World
with_local_item w o = record w { mine = with_local (codes "item") o w.mine }

abbrev pub with_pass : Option Data → Made → Plan → Plan
with_pass o (unmade s) p = halted s
with_pass o (made x) (halted s) = halted s
with_pass o (made x) (planned ps) = planned (record { item = o; entry = x } ∷ ps)

abbrev pub plan_items : World → Task → Items → Plan
plan_items w t no_items = planned []
plan_items w t (item d ds) =
    with_pass (Some d) (eval_item (with_local_item w (Some d)) t) (plan_items w t ds)

abbrev pub plan_loop : World → Task → Outcome → Plan
plan_loop w t (value (list ds)) = plan_items w t ds
plan_loop w t (value d) = halted wrong_sort
plan_loop w t (stuck s) = halted s

-- the loop is evaluated before any condition
abbrev pub plan_of : World → Task → Option Expression → Plan
plan_of w t None = with_pass None (eval_item w t) (planned [])
plan_of w t (Some e) = plan_loop w t (eval w e)

abbrev pub is_call : Entry → ℕ
is_call skips = 0
is_call (calls d) = 1
is_call (acts sh fs gs) = 0

abbrev pub call_count : List Pass → ℕ
call_count [] = 0
call_count (p ∷ ps) = is_call p.entry + call_count ps
