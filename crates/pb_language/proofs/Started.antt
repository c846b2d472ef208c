-- A Start of a fit task isn't stuck.
use Rattle.std.proofs.Common.{◌≡◌, ◌≤◌, ◌+◌, ℕ, suc, List, [], ◌∷◌, Bool, true, false, not, ◌&&◌, nat_le, Option, Some, None, length, refl, sym, ap, subst, ◌∙◌, arith, true≢false, codes}
use Rattle.std.proofs.lemmas.Bool.Decides.{nat_tests}
use Rattle.pb_semantics.specs.Data.{Data, Items, Fields, null, boolean, int, text, list, rec, opaque, no_items, item, no_fields, field, count_of}
use Rattle.pb_semantics.specs.Kind.{KindData, Slots, never, lists, texts, hosts, anything, recs}
use Rattle.pb_semantics.specs.Keeps.{keeps, all_items, cases_kept, Models}
use Rattle.pb_semantics.specs.Below.{below}
use Rattle.pb_semantics.specs.Signature.{ParameterData}
use Rattle.pb_semantics.specs.Well.{Well}
use Rattle.pb_semantics.proofs.Bools.{untrue, and-left, and-right}
use Rattle.pb_semantics.proofs.Kept.{nothing_keeps_never}
use Rattle.pb_semantics.proofs.KeepsUp.{keeps_up}
use Rattle.pb_language.specs.Expression.{Name, Expression, Expressions, no_expressions, expression, Parts, no_parts, part}
use Rattle.pb_language.specs.World.{World}
use Rattle.pb_language.specs.Evaluation.{Outcome, value, stuck, then_go, and_then, put_part, given, eval, eval_all, eval_parts}
use Rattle.pb_language.specs.Scope.{Scope}
use Rattle.pb_language.specs.Kinds.{kind_of}
use Rattle.pb_language.specs.Narrow.{narrow, narrow_each}
use Rattle.pb_language.specs.Fit.{wrong_kind, unknown_handler, malformed, first, asks, is_any, is_text, is_list, fault, fields_fault}
use Rattle.pb_language.specs.Knows.{Knows}
use Rattle.pb_language.specs.Notify.{all_notified, names_something}
use Rattle.pb_language.specs.Task.{Action, call_of, debug, set_fact, assertion, failure_of, Task}
use Rattle.pb_language.specs.Cases.{answered_cases, is_conditional, is_certain_to_run, parts_set, action_sets, item_kind, length_bound}
use Rattle.pb_language.specs.Setting.{until_scope, Setting, named_slots, start_scope, item_scope, action_scope, give_scope, with_item, loop_kind}
use Rattle.pb_language.specs.Judgement.{until_fault, keyword_fault, is_lawful, conditions_fault, loop_fault, text_fault, parameter_kind, arguments_fault, action_fault, task_fault, loop_length}
use Rattle.pb_language.specs.Start.{no_changes, Entry, skips, calls, acts, Pass, Plan, planned, halted, kept_argument, eval_arguments, only_text, eval_text_or, unchanged, unchanged_with, Made, made, unmade, made_with, asserted, all_changes, set_by, eval_action, on_condition, eval_item, with_local_item, with_pass, plan_items, plan_loop, plan_of, is_call, call_count}
use Rattle.pb_language.specs.Give.{acted}
use Rattle.pb_language.proofs.Claims.{Around, Follows, action_calls, IsCall, ItemFine, EntryFine, AllPasses, Single, PlanFine, StartClaim, more_calls}
use Rattle.pb_language.proofs.Tests.{test_teaches}
use Rattle.pb_language.proofs.Fits.{fit_has_value, no_first, no_second, not_asked}
use Rattle.pb_language.proofs.After.{well_named, well_own_item}
use Rattle.pb_language.proofs.GivenResults.{conditions_decided, knows_at, local_models}

abbrev is_opaque : Data → Bool
is_opaque opaque = true
is_opaque d = false

may_be_read : (d : Data) (k : KindData) → keeps d k ≡ true → not (is_any k) ≡ true → is_opaque d ≡ false
may_be_read opaque anything h i = untrue i
may_be_read opaque k h i = untrue h
may_be_read d k h i = refl

given_read : (d : Data) → is_opaque d ≡ false → given d ≡ value d
given_read opaque i = absurd (true≢false i)
given_read d i = refl

put_read : (n : Name) (d : Data) (fs : Fields) → is_opaque d ≡ false → put_part n d (value (rec fs)) ≡ value (rec (field n d fs))
put_read n opaque fs i = absurd (true≢false i)
put_read n d fs i = refl

-- conditions that hold have each held
both_true : (o p : Outcome) → then_go o (λ d. and_then d p) ≡ value (boolean true) → (o ≡ value (boolean true)) × (p ≡ value (boolean true))
both_true (value (boolean true)) (value (boolean true)) h = (refl, refl)
both_true (value (boolean true)) (value (boolean false)) h = h_false h
  where
    h_false : value (boolean false) ≡ value (boolean true) → (value (boolean true) ≡ value (boolean true)) × (value (boolean false) ≡ value (boolean true))
    h_false h = (refl, h)
both_true (value (boolean true)) (value null) h = absurd (true≢false (cc))
both_true (value (boolean true)) (value (int z)) h = absurd (true≢false (cc))
both_true (value (boolean true)) (value (text s)) h = absurd (true≢false (cc))
both_true (value (boolean true)) (value (list ds)) h = absurd (true≢false (cc))
both_true (value (boolean true)) (value (rec fs)) h = absurd (true≢false (cc))
both_true (value (boolean true)) (value opaque) h = absurd (true≢false (cc))
both_true (value (boolean true)) (stuck s) h = absurd (true≢false (cc))
both_true (value (boolean false)) p h = absurd (true≢false (cc))
both_true (value null) p h = absurd (true≢false (cc))
both_true (value (int z)) p h = absurd (true≢false (cc))
both_true (value (text s)) p h = absurd (true≢false (cc))
both_true (value (list ds)) p h = absurd (true≢false (cc))
both_true (value (rec fs)) p h = absurd (true≢false (cc))
both_true (value opaque) p h = absurd (true≢false (cc))
both_true (stuck s) p h = absurd (true≢false (cc))

each_true : (es : Expressions) (w : World) (c : Scope) → Knows w c → eval_all w es ≡ value (boolean true) → Knows w (narrow_each c es true)
each_true no_expressions w c k h = k
each_true (expression e es) w c k h = let b = both_true (eval w e) (eval_all w es) h in each_true es w (narrow c e true) (test_teaches w c e true k b.0) b.1

some_condition : (es : Expressions) (w : World) → eval_all w es ≡ value (boolean false) → is_conditional es ≡ true
some_condition no_expressions w h = absurd (true≢false (cc))
some_condition (expression e es) w h = refl

-- what comes of an item is an entry that is fine
abbrev EntryOf : Scope → Task → Action → Entry → Type 0
EntryOf c t a skips = is_conditional t.conditions ≡ true
EntryOf c t a (calls d) = IsCall a
EntryOf c t a (acts sh fs x) = (cases_kept (acted None sh fs x).fields (answered_cases a) ≡ true) × Follows x (action_sets c t a)

abbrev MadeFine : Scope → Task → Action → Made → Type 0
MadeFine c t a (made x) = EntryOf c t a x
MadeFine c t a (unmade s) = false ≡ true

made_value : (c : Scope) (t : Task) (a : Action) (o : Outcome) (d : Data) (go : Data → Made) → o ≡ value d → MadeFine c t a (go d) → MadeFine c t a (made_with o go)
made_value c t a o d go e f = subst (λ p. MadeFine c t a (made_with p go)) (sym e) f

module _ (w : World) (c : Scope) (k : Knows w c) where
  argument_kept : (q : Bool) (n : Name) (d : Data) (o : Outcome) (fs : Fields) → q ≡ true → is_opaque d ≡ false → o ≡ value (rec fs) → kept_argument q n d o ≡ value (rec (field n d fs))
  argument_kept true n d o fs e i j = ap (λ p. put_part n d p) j ∙ put_read n d fs i
  argument_kept false n d o fs e i j = untrue e

  arguments_value : (qs : Parts) (ps : List ParameterData) → arguments_fault c ps qs ≡ None → (fs : Fields) × (eval_arguments w ps qs ≡ value (rec fs))
  arguments_value no_parts ps h = (no_fields, refl)
  arguments_value (part n e qs) ps h =
      let kind = kind_of c e in
      let asked = asks wrong_kind (not (is_any kind) && below kind (parameter_kind n ps)) in
      let here = no_first (first (fault c e) asked) (arguments_fault c ps qs) h in
      let v = fit_has_value w c e k (no_first (fault c e) asked here) in
      let ok = not_asked wrong_kind (not (is_any kind) && below kind (parameter_kind n ps)) (no_second (fault c e) asked here) in
      let rest = arguments_value qs ps (no_second (first (fault c e) asked) (arguments_fault c ps qs) h) in
      let kept = keeps_up v.0 kind (parameter_kind n ps) (and-right (not (is_any kind)) (below kind (parameter_kind n ps)) ok) v.2 in
      let read = may_be_read v.0 kind v.2 (and-left (not (is_any kind)) (below kind (parameter_kind n ps)) ok) in
      (field n v.0 rest.0, ap (λ o. then_go o (λ d. kept_argument (keeps d (parameter_kind n ps)) n d (eval_arguments w ps qs))) v.1 ∙ argument_kept (keeps v.0 (parameter_kind n ps)) n v.0 (eval_arguments w ps qs) rest.0 kept read rest.1)

  sets_value : (q : Bool) (qs : Parts) → fields_fault c qs ≡ None → (fs : Fields) × (eval_parts w qs ≡ value (rec fs)) × Follows (all_changes fs) (parts_set c q qs)
  sets_value q no_parts h = (no_fields, refl, tt)
  sets_value q (part n e qs) h =
      let kind = kind_of c e in
      let asked = asks wrong_kind (not (is_any kind)) in
      let here = no_first (first (fault c e) asked) (fields_fault c qs) h in
      let v = fit_has_value w c e k (no_first (fault c e) asked here) in
      let ok = not_asked wrong_kind (not (is_any kind)) (no_second (fault c e) asked here) in
      let rest = sets_value q qs (no_second (first (fault c e) asked) (fields_fault c qs) h) in
      let read = may_be_read v.0 kind v.2 ok in (
        field n v.0 rest.0,
        ap (λ o. then_go o (λ d. put_part n d (eval_parts w qs))) v.1 ∙ ap (λ p. put_part n v.0 p) rest.1 ∙ put_read n v.0 rest.0 read,
        (refl, v.2, rest.2),
      )

  text_there : (d : Data) (m : KindData) → keeps d m ≡ true → is_text m ≡ true → (s : List ℕ) × (d ≡ text s)
  text_there d never h i = untrue (nothing_keeps_never d h)
  text_there (text s) texts h i = (s, refl)
  text_there (text s) (hosts ns) h i = (s, refl)
  text_there d texts h i = untrue h
  text_there d (hosts ns) h i = untrue h
  text_there d m h i = untrue i

  text_value : (o : Option Expression) (s : List ℕ) → text_fault c o ≡ None → (z : List ℕ) × (eval_text_or w s o ≡ value (text z))
  text_value None s h = (s, refl)
  text_value (Some e) s h =
      let v = fit_has_value w c e k (no_first (fault c e) (asks wrong_kind (is_text (kind_of c e))) h) in
      let z = text_there v.0 (kind_of c e) v.2 (not_asked wrong_kind (is_text (kind_of c e)) (no_second (fault c e) (asks wrong_kind (is_text (kind_of c e))) h)) in
      (z.0, ap (λ o. then_go o only_text) (v.1 ∙ ap (λ d. value d) z.1))

  asserted_fine : (t : Task) (es : Expressions) (o : Option Expression) (s : List ℕ) (b : Bool) → MadeFine c t (assertion es o) (asserted (text s) (boolean b))
  asserted_fine t es o s true = (refl, tt)
  asserted_fine t es o s false = (refl, tt)

  action_fine : (t : Task) (a : Action) → action_fault c a ≡ None → MadeFine c t a (eval_action w a)
  action_fine t (call_of m ps) h =
      let v = arguments_value ps m.params (no_second (asks malformed (is_lawful m)) (arguments_fault c m.params ps) h) in
      made_value c t (call_of m ps) (eval_arguments w m.params ps) (rec v.0) (λ d. made (calls d)) v.1 tt
  action_fine t (debug e) h =
      let asked = asks wrong_kind (not (is_any (kind_of c e))) in
      let v = fit_has_value w c e k (no_first (fault c e) asked h) in
      let read = may_be_read v.0 (kind_of c e) v.2 (not_asked wrong_kind (not (is_any (kind_of c e))) (no_second (fault c e) asked h)) in
      made_value c t (debug e) (then_go (eval w e) given) v.0 (λ d. made (acts _ unchanged no_changes)) (ap (λ o. then_go o given) v.1 ∙ given_read v.0 read) (refl, tt)
  action_fine t (set_fact ps) h =
      let v = sets_value (is_certain_to_run t) ps h in
      made_value c t (set_fact ps) (eval_parts w ps) (rec v.0) set_by v.1 (refl, v.2)
  action_fine t (assertion es o) h =
      let s = text_value o (codes "Assertion failed") (no_first (text_fault c o) (conditions_fault c es) h) in
      let b = conditions_decided es w c k (no_second (text_fault c o) (conditions_fault c es) h) in
      made_value c t (assertion es o) (eval_text_or w (codes "Assertion failed") o) (text s.0) (λ m. made_with (eval_all w es) (asserted m)) s.1
      (made_value c t (assertion es o) (eval_all w es) (boolean b.0) (asserted (text s.0)) b.1 (asserted_fine t es o s.0 b.0))
  action_fine t (failure_of o) h =
      let s = text_value o (codes "Failed as requested from task") h in
      made_value c t (failure_of o) (eval_text_or w (codes "Failed as requested from task") o) (text s.0) (λ m. made (acts _ (unchanged_with m) no_changes)) s.1 (refl, tt)

module _ (st : Setting) (t : Task) (env : Slots) (w : World) (r : Around w st st.laters t.place) (v : Well (recs env)) (m : Models w.mine (named_slots st t.depth env)) (fit : task_fault st t env ≡ None) where
  loop_fit : loop_fault (start_scope st t env) t.loop ≡ None
  loop_fit = no_first (loop_fault (start_scope st t env) t.loop) _ fit

  after_loop : first (conditions_fault (item_scope st t env) t.conditions)
      (first (action_fault (action_scope st t env) t.action) (first (keyword_fault (give_scope st t env) t.changed_when)
      (first (keyword_fault (give_scope st t env) t.failed_when) (first (until_fault (until_scope st t env) t.attempts) (asks unknown_handler (names_something (all_notified st.handlers t.notifies)))))))
      ≡ None
  after_loop = no_second (loop_fault (start_scope st t env) t.loop) _ fit

  conditions_fit : conditions_fault (item_scope st t env) t.conditions ≡ None
  conditions_fit = no_first (conditions_fault (item_scope st t env) t.conditions) _ after_loop

  action_fit : action_fault (action_scope st t env) t.action ≡ None
  action_fit = no_first (action_fault (action_scope st t env) t.action) _ (no_second (conditions_fault (item_scope st t env) t.conditions) _ after_loop)

  start_knows : Knows w (start_scope st t env)
  start_knows = knows_at w st st.laters t.place (named_slots st t.depth env) r (well_named st t.depth env v) m

  item_around : (x : Option Data) → Around (with_local_item w x) st st.laters t.place
  item_around x = record { this = r.this; groups = r.groups; wells = r.wells; views = r.views; later = r.later }

  item_knows : (x : Option Data) → ItemFine st t env t.loop x → Knows (with_local_item w x) (item_scope st t env)
  item_knows x i =
      knows_at (with_local_item w x) st st.laters t.place (with_item (loop_kind (start_scope st t env) t.loop) (named_slots st t.depth env)) (item_around x) (well_own_item st r.wells t env v)
      (local_models st t env t.loop x w.mine (named_slots st t.depth env) i m)

  condition_fine : (x : Option Data) (b : Bool) → Knows (with_local_item w x) (item_scope st t env) → eval_all (with_local_item w x) t.conditions ≡ value (boolean b)
      → MadeFine (action_scope st t env) t t.action (on_condition (eval_action (with_local_item w x) t.action) (boolean b))
  condition_fine x true k h = action_fine (with_local_item w x) (action_scope st t env) (each_true t.conditions (with_local_item w x) (item_scope st t env) k h) t t.action action_fit
  condition_fine x false k h = some_condition t.conditions (with_local_item w x) h

  item_fine : (x : Option Data) → ItemFine st t env t.loop x → MadeFine (action_scope st t env) t t.action (eval_item (with_local_item w x) t)
  item_fine x i =
      let k = item_knows x i in
      let b = conditions_decided t.conditions (with_local_item w x) (item_scope st t env) k conditions_fit in
      made_value (action_scope st t env) t t.action (eval_all (with_local_item w x) t.conditions) (boolean b.0) (on_condition (eval_action (with_local_item w x) t.action)) b.1 (condition_fine x b.0 k b.1)

  entry_of : (x : Entry) → EntryOf (action_scope st t env) t t.action x → EntryFine st t env x
  entry_of skips f = f
  entry_of (calls d) f = f
  entry_of (acts sh fs c) f = f

  -- so many passes, each of them fine
  abbrev PlannedFine : ℕ → Plan → Type 0
  PlannedFine n (planned ps) = AllPasses st t env ps × (length ps ≡ n)
  PlannedFine n (halted s) = false ≡ true

  pass_fine : (x : Option Data) (y : Made) (p : Plan) (n : ℕ) → ItemFine st t env t.loop x → MadeFine (action_scope st t env) t t.action y → PlannedFine n p → PlannedFine (suc n) (with_pass x y p)
  pass_fine x (unmade s) p n i f q = untrue f
  pass_fine x (made e) (halted s) n i f q = untrue q
  pass_fine x (made e) (planned ps) n i f q = ((record { item = i; entry = entry_of e f }, q.0), let j = q.1 in omega (arith, j))

  abbrev ItemsFine : Items → Type 0
  ItemsFine no_items = Unit {0}
  ItemsFine (item d ds) = ItemFine st t env t.loop (Some d) × ItemsFine ds

  items_fine : (ds : Items) → ItemsFine ds → PlannedFine (count_of ds) (plan_items w t ds)
  items_fine no_items f = (tt, refl)
  items_fine (item d ds) f = pass_fine (Some d) (eval_item (with_local_item w (Some d)) t) (plan_items w t ds) (count_of ds) f.0 (item_fine (Some d) f.0) (items_fine ds f.1)

  call_one : (x : Entry) (a : Action) (n m : ℕ) → (EntryOf (action_scope st t env) t a x) → m ≤ action_calls a n → is_call x + m ≤ action_calls a (suc n)
  call_one skips (call_of p ps) n m f h = omega (arith, h)
  call_one skips (debug e) n m f h = omega (arith, h)
  call_one skips (set_fact ps) n m f h = omega (arith, h)
  call_one skips (assertion es o) n m f h = omega (arith, h)
  call_one skips (failure_of o) n m f h = omega (arith, h)
  call_one (calls d) (call_of p ps) n m f h = omega (arith, h)
  call_one (calls d) (debug e) n m f h = untrue f
  call_one (calls d) (set_fact ps) n m f h = untrue f
  call_one (calls d) (assertion es o) n m f h = untrue f
  call_one (calls d) (failure_of o) n m f h = untrue f
  call_one (acts sh fs c) (call_of p ps) n m f h = omega (arith, h)
  call_one (acts sh fs c) (debug e) n m f h = omega (arith, h)
  call_one (acts sh fs c) (set_fact ps) n m f h = omega (arith, h)
  call_one (acts sh fs c) (assertion es o) n m f h = omega (arith, h)
  call_one (acts sh fs c) (failure_of o) n m f h = omega (arith, h)

  of_entry : (x : Entry) → EntryFine st t env x → EntryOf (action_scope st t env) t t.action x
  of_entry skips f = f
  of_entry (calls d) f = f
  of_entry (acts sh fs c) f = f

  calls_few : (ps : List Pass) → AllPasses st t env ps → call_count ps ≤ action_calls t.action (length ps)
  calls_few [] f = omega arith
  calls_few (p ∷ ps) f = call_one p.entry t.action (length ps) (call_count ps) (of_entry p.entry f.0.entry) (calls_few ps f.1)

  passes_fine : (n : ℕ) (p : Plan) → ((ps : List Pass) → length ps ≡ n → Single st t env t.loop ps) → n ≤ loop_length st t env t.loop → PlannedFine n p → PlanFine st t env p
  passes_fine n (halted s) one l f = f
  passes_fine n (planned ps) one l f =
      let few = f.1 in
      let low : length ps ≤ loop_length st t env t.loop = omega (arith, few, l) in
      let calls = calls_few ps f.0 in
      let more = more_calls t.action (length ps) (loop_length st t env t.loop) low in
      record { each = f.0; single = one ps f.1; few = low; calls = omega (arith, calls, more) }

  single_one : (o : Option Expression) → t.loop ≡ o → o ≡ None → (ps : List Pass) → length ps ≡ 1 → Single st t env t.loop ps
  single_one o e i [] l = absurd (omega (arith, l))
  single_one o e i (p ∷ []) l = single_none t.loop (e ∙ i)
    where
      single_none : (o : Option Expression) → o ≡ None → Single st t env o (p ∷ [])
      single_none None e = tt
      single_none (Some x) e = tt
  single_one o e i (p ∷ q ∷ ps) l = absurd (omega (arith, l))

  -- the items of a loop that is a list
  record Looped (d : Data) (k : KindData) : Type 0 where
    items : Items
    is_list_of : d ≡ list items
    kept : all_items (λ x. keeps x (item_kind k)) items ≡ true
    few : count_of items ≤ length_bound k

  le_given : (n m : ℕ) → nat_le n m ≡ true → n ≤ m
  le_given n m h = grind (arith, nat_tests)

  list_there : (d : Data) (k : KindData) → keeps d k ≡ true → is_list k ≡ true → Looped d k
  list_there d never h i = untrue (nothing_keeps_never d h)
  list_there (list ds) (lists k n) h i =
      record { items = ds; is_list_of = refl; kept = and-right (nat_le (count_of ds) n) (all_items (λ x. keeps x k) ds) h; few = le_given (count_of ds) n (and-left (nat_le (count_of ds) n) (all_items (λ x. keeps x k) ds) h) }
  list_there d (lists k n) h i = untrue h
  list_there d k h i = untrue i

  each_item : (e : Expression) (ds : Items) → t.loop ≡ Some e → all_items (λ x. keeps x (item_kind (kind_of (start_scope st t env) e))) ds ≡ true → ItemsFine ds
  each_item e no_items i h = tt
  each_item e (item d ds) i h =
      let here = keeps d (item_kind (kind_of (start_scope st t env) e)) in
      let rest = all_items (λ x. keeps x (item_kind (kind_of (start_scope st t env) e))) ds in
      (subst (λ o. ItemFine st t env o (Some d)) (sym i) (and-left here rest h), each_item e ds i (and-right here rest h))

  looped_single : (o : Option Expression) (e : Expression) (ps : List Pass) → o ≡ Some e → Single st t env o ps
  looped_single None e ps i = absurd (true≢false (cc))
  looped_single (Some x) e ps i = tt

  plan_at : (o : Option Expression) → t.loop ≡ o → PlanFine st t env (plan_of w t o)
  plan_at None e =
      let mine : ItemFine st t env t.loop None = subst (λ o. ItemFine st t env o None) (sym e) tt in
      let one : 1 ≤ loop_length st t env t.loop = subst (λ o. 1 ≤ loop_length st t env o) (sym e) (omega arith) in
      passes_fine 1 (with_pass None (eval_item w t) (planned [])) (λ ps l. single_one None e refl ps l) one (pass_fine None (eval_item w t) (planned []) 0 mine (item_fine None mine) (tt, refl))
  plan_at (Some x) e =
      let c = start_scope st t env in
      let f : first (fault c x) (asks wrong_kind (is_list (kind_of c x))) ≡ None = subst (λ o. loop_fault c o ≡ None) e loop_fit in
      let v = fit_has_value w c x start_knows (no_first (fault c x) (asks wrong_kind (is_list (kind_of c x))) f) in
      let l = list_there v.0 (kind_of c x) v.2 (not_asked wrong_kind (is_list (kind_of c x)) (no_second (fault c x) (asks wrong_kind (is_list (kind_of c x))) f)) in
      let found : eval w x ≡ value (list l.items) = v.1 ∙ ap (λ d. value d) l.is_list_of in
      let few : count_of l.items ≤ loop_length st t env t.loop = subst (λ o. count_of l.items ≤ loop_length st t env o) (sym e) l.few in
      subst (λ o. PlanFine st t env (plan_loop w t o)) (sym found)
      (passes_fine (count_of l.items) (plan_items w t l.items) (λ ps i. looped_single t.loop x ps e) few (items_fine l.items (each_item x l.items e l.kept)))

pub start_claim : StartClaim
start_claim w st t env r v m fit = plan_at st t env w r v m fit t.loop refl
