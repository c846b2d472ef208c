-- The environments after a task are well formed, and so is what it writes.
use Rattle.std.proofs.Common.{◌≡◌, ℕ, zero, suc, List, [], ◌∷◌, Bool, true, false, not, ◌&&◌, cond, Option, Some, None, codes, length, refl}
use Rattle.pb_semantics.specs.Kind.{KindData, Slots, Cases, Spot, texts, booleans, hosts, lists, recs, results, anything, no_slots, slot, no_cases, one, nowhere, spot, slot_at, is_listed, skipped_shape}
use Rattle.pb_semantics.specs.Join.{append_cases}
use Rattle.pb_semantics.specs.Well.{are_once, Well, WellSlots, WellCases}
use Rattle.pb_semantics.proofs.Bools.{untrue, and-left, and-right, and-both}
use Rattle.pb_language.specs.Expression.{Name, Expression, conjunction, Expressions, Parts, no_parts, part}
use Rattle.pb_language.specs.World.{Group}
use Rattle.pb_language.specs.Scope.{Scope, Later, view_of, with_spot}
use Rattle.pb_language.specs.Kinds.{kind_of}
use Rattle.pb_language.specs.Knows.{WellScope}
use Rattle.pb_language.specs.Task.{Attempts, Action, call_of, debug, set_fact, assertion, failure_of, Task}
use Rattle.pb_language.specs.Narrow.{results_of}
use Rattle.pb_language.specs.Cases.{judged_cases, perhaps_failed, slots_of, ended_kind, changed_slots, message_slots, ok_case, failure_case, answered_cases, either_status, ended_cases, skipped_slots, skipped_cases, action_name, is_conditional, all_results, going_cases, failing_cases, item_kind, registered_kind, listed_kind, Sets, no_sets, sets, parts_set, fact_prefix, after_prefix, with_stripped, stripped_slots, facts_set, gathered, is_setup, may_go_on_failed, is_certain_to_run, action_sets, set_spot, with_sets, with_register, append_sets, is_plain, are_plain, is_lawful_shape, shape_slots}
use Rattle.pb_language.specs.Setting.{Setting, host_list, group_slots, with_failure_slot, named_slots, scope_at, start_scope, loop_kind, with_item, item_scope, action_scope, with_own_result}
use Rattle.pb_language.specs.Judgement.{task_kind, task_sets, going_slots, failing_slots, task_writes, register_writes, has_going, has_case}
use Rattle.pb_language.specs.Wells.{WellSpot, WellSets}
use Rattle.pb_language.proofs.WithSlot.{well_with}
use Rattle.pb_language.proofs.WellKinds.{well_slot, well_meet, well_results, kinds_are_well}
use Rattle.pb_language.proofs.Taught.{well_with_spot, well_cases_with}
use Rattle.pb_language.proofs.Known.{well_narrow}
use Rattle.pb_language.proofs.Claims.{AfterClaim}

-- the names that are always there
pub well_groups : (gs : List Group) → Well (recs (group_slots gs))
well_groups [] = (refl, tt)
well_groups (g ∷ gs) = well_with g.name true (host_list g.hosts) (group_slots gs) tt (well_groups gs)

well_failure : (d : ℕ) (env : Slots) → Well (recs env) → Well (recs (with_failure_slot d env))
well_failure zero env w = w
well_failure (suc d) env w = well_with (codes "ansible_failed_result") true (recs (slot (codes "msg") true texts no_slots)) env (refl, (tt, tt)) w

pub well_named : (st : Setting) (d : ℕ) (env : Slots) → Well (recs env) → Well (recs (named_slots st d env))
well_named st d env w =
    well_with (codes "inventory_hostname") true (hosts (st.this ∷ [])) _ tt
    (well_with (codes "groups") true (recs (group_slots st.groups)) _ (well_groups st.groups)
    (well_with (codes "group_names") true (lists texts (length st.memberships)) _ tt
    (well_with (codes "ansible_play_batch") true (host_list st.play_hosts) _ tt (well_failure d env w))))

-- scopes
pub well_scope : (st : Setting) (laters : List Later) (place : ℕ) (own : Slots) → ((g : Name) → Well (recs (view_of g st.views))) → Well (recs own) → WellScope (scope_at st laters place own)
well_scope st laters place own v w = record { own = w; table = v; own_slots = (refl, tt); views = λ g. (refl, tt); learned = λ n e k h. absurd (cc); item_slots = (refl, tt) }

pub well_item_kind : (k : KindData) → Well k → Well (item_kind k)
well_item_kind (lists k n) w = w
well_item_kind anything w = tt
well_item_kind k w = tt

pub well_item : (c : Scope) (o : Option Expression) (env : Slots) → WellScope c → Well (recs env) → Well (recs (with_item (loop_kind c o) env))
well_item c None env v w = w
well_item c (Some e) env v w = well_with (codes "item") true (item_kind (kind_of c e)) env (well_item_kind (kind_of c e) (kinds_are_well c e v)) w

-- the shapes of modules
mutual
  plain_well : (k : KindData) → is_plain k ≡ true → Well k
  plain_well (lists k n) h = plain_well k h
  plain_well (recs ss) h = plains_well ss h
  plain_well (results cs r) h = untrue h
  plain_well k h = tt

  plains_well : (ss : Slots) → are_plain ss ≡ true → Well (recs ss)
  plains_well no_slots h = (refl, tt)
  plains_well (slot n a k ss) h =
      let new = not (is_listed n ss) in
      let rest = is_plain k && are_plain ss in
      let w = plains_well ss (and-right (is_plain k) (are_plain ss) (and-right new rest h)) in
      (and-both new (are_once ss) (and-left new rest h) w.0, (plain_well k (and-left (is_plain k) (are_plain ss) (and-right new rest h)), w.1))

shape_well_at : (q : Bool) (k : KindData) → is_lawful_shape k ≡ q → Well (recs (cond q (slots_of k) no_slots))
shape_well_at true (recs ss) h = plains_well ss (and-left (are_plain ss) _ h)
shape_well_at true k h = untrue h
shape_well_at false k h = (refl, tt)

pub shape_well : (k : KindData) → Well (recs (shape_slots k))
shape_well k = shape_well_at (is_lawful_shape k) k refl

-- cases
well_ended : (ss : Slots) → Well (recs ss) → Well (ended_kind ss)
well_ended ss w = well_with (codes "failed") true booleans ss tt w

well_append : (cs ds : Cases) → WellCases cs → WellCases ds → WellCases (append_cases cs ds)
well_append no_cases ds w v = v
well_append (one m sh fl k cs) ds w v = (w.0, w.1, well_append cs ds w.2 v)

well_ok : (n : Name) (ss : Slots) → Well (recs ss) → WellCases (ok_case n ss)
well_ok n ss w = (refl, well_ended ss w, tt)

well_failed : (n : Name) (ss : Slots) → Well (recs ss) → WellCases (failure_case n ss)
well_failed n ss w = (refl, well_ended ss w, tt)

pub well_answered_cases : (a : Action) → WellCases (answered_cases a)
well_answered_cases (call_of m ps) =
    well_append (ok_case m.name (shape_slots m.ok)) (failure_case m.name (shape_slots m.failure)) (well_ok m.name (shape_slots m.ok) (shape_well m.ok)) (well_failed m.name (shape_slots m.failure) (shape_well m.failure))
well_answered_cases (debug e) = well_ok (codes "debug") changed_slots (refl, (tt, tt))
well_answered_cases (set_fact ps) = well_ok (codes "set_fact") changed_slots (refl, (tt, tt))
well_answered_cases (assertion es o) =
    well_append (ok_case (codes "assert") message_slots) (failure_case (codes "assert") message_slots) (well_ok (codes "assert") message_slots (refl, (tt, (tt, tt))))
    (well_failed (codes "assert") message_slots (refl, (tt, (tt, tt))))
well_answered_cases (failure_of o) = well_failed (codes "fail") message_slots (refl, (tt, (tt, tt)))

well_either : (cs : Cases) → WellCases cs → WellCases (either_status cs)
well_either no_cases w = tt
well_either (one m sh fl k cs) w = (w.0, w.1, (w.0, w.1, well_either cs w.2))

pub well_judged_cases : (a : Action) (o : Option Expressions) → WellCases (judged_cases a o)
well_judged_cases a None = well_answered_cases a
well_judged_cases a (Some es) = well_either (answered_cases a) (well_answered_cases a)

well_perhaps : (cs : Cases) → WellCases cs → WellCases (perhaps_failed cs)
well_perhaps no_cases w = tt
well_perhaps (one m sh true k cs) w = (w.0, w.1, well_perhaps cs w.2)
well_perhaps (one m sh false k cs) w = (w.0, w.1, (w.0, w.1, well_perhaps cs w.2))

well_ended_cases : (o : Option Attempts) (cs : Cases) → WellCases cs → WellCases (ended_cases o cs)
well_ended_cases None cs w = w
well_ended_cases (Some a) cs w = well_perhaps cs w

well_skipped : (q : Bool) (n : Name) → WellCases (cond q (one n skipped_shape false (recs skipped_slots) no_cases) no_cases)
well_skipped true n = (refl, (refl, (tt, (tt, (tt, (tt, tt))))), tt)
well_skipped false n = tt

well_cases_cond : (q : Bool) (cs ds : Cases) → WellCases cs → WellCases ds → WellCases (cond q cs ds)
well_cases_cond true cs ds w v = w
well_cases_cond false cs ds w v = v

pub well_all_results : (t : Task) → WellCases (all_results t)
well_all_results t =
    let judged = judged_cases t.action t.failed_when in
    well_append (skipped_cases t) (ended_cases t.attempts judged) (well_skipped (is_conditional t.conditions) (action_name t.action)) (well_ended_cases t.attempts judged (well_judged_cases t.action t.failed_when))

pub well_going : (t : Task) → WellCases (going_cases t)
well_going t = let w = well_all_results t in well_cases_cond t.ignores (all_results t) _ w (well_cases_with (λ sh fl k. not fl) (all_results t) w)

pub well_failing : (t : Task) → WellCases (failing_cases t)
well_failing t = well_cases_cond t.ignores no_cases _ tt (well_cases_with (λ sh fl k. fl) (all_results t) (well_all_results t))

pub well_registered_kind : (t : Task) (o : Option KindData) (cs : Cases) → WellCases cs → Well (registered_kind t o cs)
well_registered_kind t None cs w = well_results cs w
well_registered_kind t (Some l) cs w = (refl, (tt, (tt, (well_listed l, (tt, tt))))) where
  well_listed : (l : KindData) → Well (listed_kind (results_of (all_results t)) l)
  well_listed anything = tt
  well_listed k = well_results (all_results t) (well_all_results t)

pub well_register : (o : Option Name) (k : KindData) (env : Slots) → Well k → Well (recs env) → Well (recs (with_register o k env))
well_register None k env w v = v
well_register (Some n) k env w v = well_with n true k env w v

pub well_own_result : (r : Option Name) (cs : Cases) (env : Slots) → WellCases cs → Well (recs env) → Well (recs (with_own_result r cs env))
well_own_result None cs env w v = v
well_own_result (Some n) cs env w v = well_with n true (results_of cs) env (well_results cs w) v

-- sets
pub well_set_spot : (a : Bool) (s : Spot) (k : KindData) → WellSpot s → Well k → WellSpot (set_spot a s k)
well_set_spot true s k w v = v
well_set_spot false s k w v = well_meet s (spot true k) w v

pub well_set : (n : Name) (a : Bool) (k : KindData) (env : Slots) → Well k → Well (recs env) → Well (recs (with_spot n (set_spot a (slot_at n env) k) env))
well_set n a k env w v = well_with_spot n (set_spot a (slot_at n env) k) env (well_set_spot a (slot_at n env) k (well_slot n env v.1) w) v

pub well_with_sets : (s : Sets) (env : Slots) → WellSets s → Well (recs env) → Well (recs (with_sets s env))
well_with_sets no_sets env w v = v
well_with_sets (sets n a k r) env w v = well_with_sets r (with_spot n (set_spot a (slot_at n env) k) env) w.1 (well_set n a k env w.0 v)

well_with_stripped : (o : Option Name) (a : Bool) (k : KindData) (ss : Slots) → Well k → Well (recs ss) → Well (recs (with_stripped o a k ss))
well_with_stripped None a k ss w v = v
well_with_stripped (Some n) a k ss w v = well_with n a k ss w v

pub well_stripped : (ss : Slots) → WellSlots ss → Well (recs (stripped_slots ss))
well_stripped no_slots w = (refl, tt)
well_stripped (slot n a k ss) w = well_with_stripped (after_prefix fact_prefix n) a k (stripped_slots ss) w.0 (well_stripped ss w.1)

pub well_facts : (a : Bool) (ss : Slots) → WellSlots ss → WellSets (facts_set a ss)
well_facts a no_slots w = tt
well_facts a (slot n b k ss) w = (w.0, well_facts a ss w.1)

pub well_gathered : (a : Bool) (s : Spot) → WellSpot s → WellSets (gathered a s)
well_gathered a nowhere w = tt
well_gathered a (spot b (recs ss)) w = (well_stripped ss w.1, well_facts (a && b) ss w.1)
well_gathered a (spot b k) w = tt

well_sets_cond : (q : Bool) (s : Sets) → WellSets s → WellSets (cond q s no_sets)
well_sets_cond true s w = w
well_sets_cond false s w = tt

pub well_parts_set : (c : Scope) (a : Bool) (ps : Parts) → WellScope c → WellSets (parts_set c a ps)
well_parts_set c a no_parts w = tt
well_parts_set c a (part n e ps) w = (kinds_are_well c e w, well_parts_set c a ps w)

pub well_action_sets : (a : Action) (c : Scope) (t : Task) → WellScope c → WellSets (action_sets c t a)
well_action_sets (call_of m ps) c t w =
    let facts = slot_at (codes "ansible_facts") (shape_slots m.ok) in
    well_sets_cond (is_setup m) (gathered (is_certain_to_run t && not (may_go_on_failed t)) facts)
    (well_gathered (is_certain_to_run t && not (may_go_on_failed t)) facts (well_slot (codes "ansible_facts") (shape_slots m.ok) (shape_well m.ok).1))
well_action_sets (debug e) c t w = tt
well_action_sets (set_fact ps) c t w = well_parts_set c (is_certain_to_run t) ps w
well_action_sets (assertion es o) c t w = tt
well_action_sets (failure_of o) c t w = tt

pub well_append_sets : (r s : Sets) → WellSets r → WellSets s → WellSets (append_sets r s)
well_append_sets no_sets s w v = v
well_append_sets (sets n a k r) s w v = (w.0, well_append_sets r s w.1 v)

well_register_writes : (o : Option Name) (q : Bool) (k : KindData) → Well k → WellSets (register_writes o q k)
well_register_writes None q k w = tt
well_register_writes (Some n) q k w = well_sets_cond q (sets n true k no_sets) (w, tt)

module _ (st : Setting) (v : (g : Name) → Well (recs (view_of g st.views))) (t : Task) (env : Slots) (w : Well (recs env)) where
  pub well_start : WellScope (start_scope st t env)
  well_start = well_scope st st.laters t.place (named_slots st t.depth env) v (well_named st t.depth env w)

  pub well_own_item : Well (recs (with_item (loop_kind (start_scope st t env) t.loop) (named_slots st t.depth env)))
  well_own_item = well_item (start_scope st t env) t.loop (named_slots st t.depth env) well_start (well_named st t.depth env w)

  pub well_item_scope : WellScope (item_scope st t env)
  well_item_scope = record { own = well_own_item; table = v; own_slots = well_start.own_slots; views = well_start.views; learned = well_start.learned; item_slots = well_start.item_slots }

  pub well_action : WellScope (action_scope st t env)
  well_action = well_narrow (conjunction t.conditions) (item_scope st t env) true well_item_scope

  pub well_task_sets : WellSets (task_sets st t env)
  well_task_sets = well_action_sets t.action (action_scope st t env) t well_action

  pub well_task_kind : (cs : Cases) → WellCases cs → Well (task_kind st t env cs)
  well_task_kind cs x = well_registered_kind t (loop_kind (start_scope st t env) t.loop) cs x

  pub well_going_register : Well (recs (with_register t.register (task_kind st t env (going_cases t)) env))
  well_going_register = well_register t.register (task_kind st t env (going_cases t)) env (well_task_kind (going_cases t) (well_going t)) w

  pub well_going_slots : Well (recs (going_slots st t env))
  well_going_slots = well_with_sets (task_sets st t env) (with_register t.register (task_kind st t env (going_cases t)) env) well_task_sets well_going_register

  pub well_failing_slots : Well (recs (failing_slots st t env))
  well_failing_slots = well_register t.register (task_kind st t env (failing_cases t)) env (well_task_kind (failing_cases t) (well_failing t)) w

  pub well_task_writes : WellSets (task_writes st t env)
  well_task_writes =
      let going = register_writes t.register (has_going t t.loop) (task_kind st t env (going_cases t)) in
      let failing = register_writes t.register (has_case (failing_cases t)) (task_kind st t env (failing_cases t)) in
      well_append_sets going (append_sets failing (task_sets st t env)) (well_register_writes t.register (has_going t t.loop) (task_kind st t env (going_cases t)) (well_task_kind (going_cases t) (well_going t)))
      (well_append_sets failing (task_sets st t env) (well_register_writes t.register (has_case (failing_cases t)) (task_kind st t env (failing_cases t)) (well_task_kind (failing_cases t) (well_failing t))) well_task_sets)

pub after_claim : AfterClaim
after_claim st v t env w = (well_going_slots st v t env w, well_failing_slots st v t env w, well_task_writes st v t env w)
