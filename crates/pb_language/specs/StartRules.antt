-- What a task does at its Start by rules: what each item comes to, or why the Start is stuck; and
-- the laws that `plan_of` is what they say, and that a step of the machine does just that.
use Rattle.std.specs.Prelude.{◌≡◌, ℕ, ◌+◌, List, [], ◌∷◌, true, false, Option, Some, None}
use Rattle.std.specs.Prelude.{codes}
use Rattle.pb_semantics.specs.Data.{Data, Items, Fields, boolean, text, list, rec, opaque, no_items}
use Rattle.pb_semantics.specs.Data.{item, no_fields, field}
use Rattle.pb_semantics.specs.Kind.{ok_shape, failure_shape}
use Rattle.pb_semantics.specs.Keeps.{keeps}
use Rattle.pb_semantics.specs.Signature.{ModuleData, ParameterData}
use Rattle.pb_language.specs.Expression.{Name, Expression, Expressions, Parts, no_parts, part}
use Rattle.pb_language.specs.World.{World}
use Rattle.pb_language.specs.Evaluation.{Stuck, wrong_sort, Outcome, value, stuck}
use Rattle.pb_language.specs.Evaluates.{is_text, is_list, is_unreadable, Evaluates, All, Chooses}
use Rattle.pb_language.specs.Evaluates.{Records}
use Rattle.pb_language.specs.Judgement.{parameter_kind}
use Rattle.pb_language.specs.Machine.{start, begins, waits, runs, Host, State, enabled, host_at}
use Rattle.pb_language.specs.Machine.{put_host, step, world_of}
use Rattle.pb_language.specs.Program.{Batch}
use Rattle.pb_language.specs.Rest.{Rest}
use Rattle.pb_language.specs.Start.{Entry, skips, calls, acts, Pass, Plan, planned, halted}
use Rattle.pb_language.specs.Start.{Made, made, unmade, no_changes, all_changes, unchanged}
use Rattle.pb_language.specs.Start.{unchanged_with, with_local_item, plan_of, call_count}
use Rattle.pb_language.specs.Task.{Action, call_of, debug, set_fact, assertion, failure_of, Task}

-- the arguments in their order, each of its parameter's kind
pub data Gives (w : World) (ps : List ParameterData) : Parts → Outcome → Type 0 where
  no_argument : Gives w ps no_parts (value (rec no_fields))
  argument_then : {n : Name} {e : Expression} {qs : Parts} {d : Data} {fs : Fields}
      → Evaluates w e (value d) → is_unreadable d ≡ false → keeps d (parameter_kind n ps) ≡ true
      → Gives w ps qs (value (rec fs)) → Gives w ps (part n e qs) (value (rec (field n d fs)))
  later_argument_stuck : {n : Name} {e : Expression} {qs : Parts} {d : Data} {y : Stuck}
      → Evaluates w e (value d) → is_unreadable d ≡ false → keeps d (parameter_kind n ps) ≡ true
      → Gives w ps qs (stuck y) → Gives w ps (part n e qs) (stuck y)
  argument_of_wrong_kind : {n : Name} {e : Expression} {qs : Parts} {d : Data}
      → Evaluates w e (value d) → keeps d (parameter_kind n ps) ≡ false
      → Gives w ps (part n e qs) (stuck wrong_sort)
  argument_not_readable : {n : Name} {e : Expression} {qs : Parts} → Evaluates w e (value opaque)
      → Gives w ps (part n e qs) (stuck wrong_sort)
  argument_stuck : {n : Name} {e : Expression} {qs : Parts} {y : Stuck} → Evaluates w e (stuck y)
      → Gives w ps (part n e qs) (stuck y)

-- a text that may be given, else that one
pub data Says (w : World) (s : List ℕ) : Option Expression → Outcome → Type 0 where
  as_it_is : Says w s None (value (text s))
  given_text : {e : Expression} {t : List ℕ} → Evaluates w e (value (text t))
      → Says w s (Some e) (value (text t))
  given_no_text : {e : Expression} {d : Data} → Evaluates w e (value d) → is_text d ≡ false
      → Says w s (Some e) (stuck wrong_sort)
  given_stuck : {e : Expression} {y : Stuck} → Evaluates w e (stuck y)
      → Says w s (Some e) (stuck y)

-- a module is called, or an action done
pub data Does (w : World) : Action → Made → Type 0 where
  calls_it : {m : ModuleData} {ps : Parts} {d : Data} → Gives w m.params ps (value d)
      → Does w (call_of m ps) (made (calls d))
  call_stuck : {m : ModuleData} {ps : Parts} {y : Stuck} → Gives w m.params ps (stuck y)
      → Does w (call_of m ps) (unmade y)
  shows : {e : Expression} {d : Data} → Chooses w e (value d)
      → Does w (debug e) (made (acts ok_shape unchanged no_changes))
  shows_stuck : {e : Expression} {y : Stuck} → Chooses w e (stuck y) → Does w (debug e) (unmade y)
  sets_them : {ps : Parts} {fs : Fields} → Records w ps (value (rec fs))
      → Does w (set_fact ps) (made (acts ok_shape unchanged (all_changes fs)))
  sets_stuck : {ps : Parts} {y : Stuck} → Records w ps (stuck y) → Does w (set_fact ps) (unmade y)
  holds : {es : Expressions} {o : Option Expression} {m : Data}
      → Says w (codes "Assertion failed") o (value m) → All w es (value (boolean true))
      → Does w (assertion es o)
      (made (acts ok_shape (unchanged_with (text (codes "All assertions passed"))) no_changes))
  fails_to_hold : {es : Expressions} {o : Option Expression} {m : Data}
      → Says w (codes "Assertion failed") o (value m) → All w es (value (boolean false))
      → Does w (assertion es o) (made (acts failure_shape (unchanged_with m) no_changes))
  assertion_stuck : {es : Expressions} {o : Option Expression} {m : Data} {y : Stuck}
      → Says w (codes "Assertion failed") o (value m) → All w es (stuck y)
      → Does w (assertion es o) (unmade y)
  assertion_text_stuck : {es : Expressions} {o : Option Expression} {y : Stuck}
      → Says w (codes "Assertion failed") o (stuck y) → Does w (assertion es o) (unmade y)
  fails : {o : Option Expression} {m : Data}
      → Says w (codes "Failed as requested from task") o (value m)
      → Does w (failure_of o) (made (acts failure_shape (unchanged_with m) no_changes))
  failure_text_stuck : {o : Option Expression} {y : Stuck}
      → Says w (codes "Failed as requested from task") o (stuck y)
      → Does w (failure_of o) (unmade y)

-- an item: its conditions, and where they hold its action
pub data Passes (w : World) (t : Task) : Made → Type 0 where
  skipped : All w t.conditions (value (boolean false)) → Passes w t (made skips)
  done : {m : Made} → All w t.conditions (value (boolean true)) → Does w t.action m → Passes w t m
  condition_stuck : {y : Stuck} → All w t.conditions (stuck y) → Passes w t (unmade y)

-- the items in their order; the first that is stuck ends it
pub data PassesEach (w : World) (t : Task) : Items → Plan → Type 0 where
  no_item : PassesEach w t no_items (planned [])
  item_then : {d : Data} {ds : Items} {x : Entry} {ps : List Pass}
      → Passes (with_local_item w (Some d)) t (made x) → PassesEach w t ds (planned ps)
      → PassesEach w t (item d ds) (planned (record { item = Some d; entry = x } ∷ ps))
  later_item_stuck : {d : Data} {ds : Items} {x : Entry} {y : Stuck}
      → Passes (with_local_item w (Some d)) t (made x) → PassesEach w t ds (halted y)
      → PassesEach w t (item d ds) (halted y)
  item_stuck : {d : Data} {ds : Items} {y : Stuck}
      → Passes (with_local_item w (Some d)) t (unmade y) → PassesEach w t (item d ds) (halted y)

-- a task, with the `loop` that it has; this is evaluated before any condition
pub data Starts (w : World) (t : Task) : Option Expression → Plan → Type 0 where
  once : {x : Entry} → Passes w t (made x)
      → Starts w t None (planned (record { item = None; entry = x } ∷ []))
  once_stuck : {y : Stuck} → Passes w t (unmade y) → Starts w t None (halted y)
  for_each : {e : Expression} {ds : Items} {p : Plan} → Evaluates w e (value (list ds))
      → PassesEach w t ds p → Starts w t (Some e) p
  over_no_list : {e : Expression} {d : Data} → Evaluates w e (value d) → is_list d ≡ false
      → Starts w t (Some e) (halted wrong_sort)
  loop_stuck : {e : Expression} {y : Stuck} → Evaluates w e (stuck y)
      → Starts w t (Some e) (halted y)

-- a Start comes to what the rules say, and in no other way
abbrev pub PlansAreDerived : Type 0
PlansAreDerived = (w : World) (t : Task) (o : Option Expression) → Starts w t o (plan_of w t o)

abbrev pub DerivedArePlans : Type 0
DerivedArePlans = (w : World) (t : Task) (o : Option Expression) (p : Plan) → Starts w t o p
    → plan_of w t o ≡ p

-- the host's next task can start
pub record CanStart (s : State) (b : Batch) (bs : List Batch) (k : ℕ) (h : Host) (t : Task)
    (going failing : Rest) : Type 0 where
  pub batch : s.batches ≡ b ∷ bs
  pub host : host_at k s.hosts ≡ Some h
  pub next : h.stage ≡ waits (begins t going failing)
  pub enabled : enabled s (start k) ≡ true

-- a Start that is stuck marks the state and changes nothing else
abbrev pub StuckStartMarks : Type 0
StuckStartMarks = (s : State) (b : Batch) (bs : List Batch) (k : ℕ) (h : Host) (t : Task)
    (going failing : Rest) (y : Stuck) → CanStart s b bs k h t going failing
    → Starts (world_of s b h t) t t.loop (halted y)
    → step s (start k) ≡ record s { is_stuck = true }

-- any other hands out the calls
abbrev pub StartHandsOut : Type 0
StartHandsOut = (s : State) (b : Batch) (bs : List Batch) (k : ℕ) (h : Host) (t : Task)
    (going failing : Rest) (ps : List Pass) → CanStart s b bs k h t going failing
    → Starts (world_of s b h t) t t.loop (planned ps)
    → step s (start k) ≡ record s {
      hosts = put_host k (record h { stage = runs t 0 ps going failing }) s.hosts;
      handed = s.handed + call_count ps;
    }
