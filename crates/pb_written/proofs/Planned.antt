-- What a task sets by the passes of its Start: names that its text sets.
use Rattle.std.proofs.Common.{◌≡◌, List, [], ◌∷◌, true, false, Option, Some, None, codes}
use Rattle.pb_semantics.specs.Data.{Data, Items, Fields, boolean, list, rec, opaque, no_items, item, no_fields, field}
use Rattle.pb_semantics.specs.Keeps.{is_among}
use Rattle.pb_semantics.specs.Kind.{ok_shape, failure_shape}
use Rattle.pb_language.specs.Expression.{Name, Expression, Parts, no_parts, part}
use Rattle.pb_language.specs.World.{World}
use Rattle.pb_language.specs.Evaluation.{Outcome, value, stuck, then_go, put_part, given, eval, eval_all, eval_parts}
use Rattle.pb_language.specs.Rules.{part_names}
use Rattle.pb_language.specs.Task.{Action, call_of, debug, set_fact, assertion, failure_of, Task}
use Rattle.pb_language.specs.TaskForm.{keys_of}
use Rattle.pb_language.specs.Start.{Changes, no_changes, change, Entry, skips, calls, acts, Pass, Plan, planned, halted, Made, made, unmade, made_with, asserted, all_changes, set_by, eval_action, eval_arguments, eval_text_or, on_condition, eval_item, unchanged, unchanged_with, with_local_item, with_pass, plan_items, plan_loop, plan_of}
use Rattle.pb_reads.specs.Uses.{action_names}
use Rattle.pb_written.proofs.Names.{AllAmong}

abbrev pub names_changed : Changes → List Name
names_changed no_changes = []
names_changed (change n o c) = n ∷ names_changed c

abbrev pub EntryAmong : List Name → Entry → Type 0
EntryAmong ns skips = Unit {0}
EntryAmong ns (calls d) = Unit {0}
EntryAmong ns (acts sh fs c) = AllAmong ns (names_changed c)

-- each pass sets names among those alone
abbrev pub PassesAmong : List Name → List Pass → Type 0
PassesAmong ns [] = Unit {0}
PassesAmong ns (p ∷ ps) = EntryAmong ns p.entry × PassesAmong ns ps

abbrev MadeAmong : List Name → Made → Type 0
MadeAmong ns (made e) = EntryAmong ns e
MadeAmong ns (unmade s) = Unit {0}

abbrev pub PlanAmong : List Name → Plan → Type 0
PlanAmong ns (planned ps) = PassesAmong ns ps
PlanAmong ns (halted s) = Unit {0}

abbrev DataAmong : List Name → Data → Type 0
DataAmong ns (rec fs) = AllAmong ns (keys_of fs)
DataAmong ns d = Unit {0}

abbrev OutcomeAmong : List Name → Outcome → Type 0
OutcomeAmong ns (value d) = DataAmong ns d
OutcomeAmong ns (stuck s) = Unit {0}

module _ (ns : List Name) where
  part_among : (n : Name) (d : Data) (o : Outcome) → is_among n ns ≡ true → OutcomeAmong ns o → OutcomeAmong ns (put_part n d o)
  part_among n opaque o h all = tt
  part_among n d (value (rec fs)) h all = (h, all)
  part_among n d (value e) h all = tt
  part_among n d (stuck s) h all = tt

  parts_among : (w : World) (ps : Parts) → AllAmong ns (part_names ps) → OutcomeAmong ns (eval_parts w ps)
  parts_among w no_parts all = tt
  parts_among w (part n e ps) all = by (eval w e) (parts_among w ps all.1) where
    by : (o : Outcome) → OutcomeAmong ns (eval_parts w ps) → OutcomeAmong ns (then_go o (λ d. put_part n d (eval_parts w ps)))
    by (value d) rest = part_among n d (eval_parts w ps) all.0 rest
    by (stuck s) rest = tt

  changes_among : (fs : Fields) → AllAmong ns (keys_of fs) → AllAmong ns (names_changed (all_changes fs))
  changes_among no_fields all = tt
  changes_among (field n d fs) all = (all.0, changes_among fs all.1)

  data_among : (d : Data) → DataAmong ns d → MadeAmong ns (set_by d)
  data_among (rec fs) all = changes_among fs all
  data_among d all = tt

  set_among : (o : Outcome) → OutcomeAmong ns o → MadeAmong ns (made_with o set_by)
  set_among (value d) all = data_among d all
  set_among (stuck s) all = tt

  made_among : (o : Outcome) (go : Data → Made) → ((d : Data) → MadeAmong ns (go d)) → MadeAmong ns (made_with o go)
  made_among (value d) go all = all d
  made_among (stuck s) go all = tt

  asserts_among : (m d : Data) → MadeAmong ns (asserted m d)
  asserts_among m (boolean true) = tt
  asserts_among m (boolean false) = tt
  asserts_among m d = tt

  action_among : (w : World) (a : Action) → AllAmong ns (action_names a) → MadeAmong ns (eval_action w a)
  action_among w (call_of m ps) all = made_among (eval_arguments w m.params ps) (λ d. made (calls d)) (λ d. tt)
  action_among w (debug e) all = made_among (then_go (eval w e) given) (λ d. made (acts ok_shape unchanged no_changes)) (λ d. tt)
  action_among w (set_fact ps) all = set_among (eval_parts w ps) (parts_among w ps all)
  action_among w (assertion es o) all =
      made_among (eval_text_or w (codes "Assertion failed") o) (λ m. made_with (eval_all w es) (asserted m)) (λ m. made_among (eval_all w es) (asserted m) (asserts_among m))
  action_among w (failure_of o) all =
      made_among (eval_text_or w (codes "Failed as requested from task") o) (λ m. made (acts failure_shape (unchanged_with m) no_changes)) (λ m. tt)

  condition_among : (m : Made) (d : Data) → MadeAmong ns m → MadeAmong ns (on_condition m d)
  condition_among m (boolean true) all = all
  condition_among m (boolean false) all = tt
  condition_among m d all = tt

  item_among : (w : World) (t : Task) → AllAmong ns (action_names t.action) → MadeAmong ns (eval_item w t)
  item_among w t all = made_among (eval_all w t.conditions) (on_condition (eval_action w t.action)) (λ d. condition_among (eval_action w t.action) d (action_among w t.action all))

  pass_among : (o : Option Data) (m : Made) (p : Plan) → MadeAmong ns m → PlanAmong ns p → PlanAmong ns (with_pass o m p)
  pass_among o (unmade s) p all rest = tt
  pass_among o (made x) (halted s) all rest = tt
  pass_among o (made x) (planned ps) all rest = (all, rest)

  module _ (w : World) (t : Task) (all : AllAmong ns (action_names t.action)) where
    items_among : (ds : Items) → PlanAmong ns (plan_items w t ds)
    items_among no_items = tt
    items_among (item d ds) =
        let here = with_local_item w (Some d) in
        pass_among (Some d) (eval_item here t) (plan_items w t ds) (item_among here t all) (items_among ds)

    loop_among : (o : Outcome) → PlanAmong ns (plan_loop w t o)
    loop_among (value (list ds)) = items_among ds
    loop_among (value d) = tt
    loop_among (stuck s) = tt

    pub plan_among : (o : Option Expression) → PlanAmong ns (plan_of w t o)
    plan_among None = pass_among None (eval_item w t) (planned []) (item_among w t all) tt
    plan_among (Some e) = loop_among (eval w e)
