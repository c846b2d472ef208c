-- The exits of a task, and what it writes, go up with the environment and with the views.
use Rattle.std.proofs.Common.{◌≡◌, ℕ, zero, suc, [], ◌∷◌, Bool, true, false, nat_le, Option, Some, None, codes, length, refl, sym, subst, arith}
use Rattle.std.proofs.lemmas.Bool.Decides.{nat_tests}
use Rattle.pb_semantics.specs.Kind.{KindData, Slots, Cases, Spot, never, nulls, booleans, ints, texts, hosts, lists, recs, results, anything, no_slots, slot, nowhere, spot, slot_at}
use Rattle.pb_semantics.specs.Below.{below}
use Rattle.pb_semantics.specs.Well.{Well, WellCases}
use Rattle.pb_semantics.proofs.Bools.{untrue, and-left, and-right, and-both}
use Rattle.pb_semantics.proofs.Order.{own_below}
use Rattle.pb_semantics.proofs.Through.{never_below}
use Rattle.pb_language.specs.Expression.{Name, Expression, Parts, no_parts, part}
use Rattle.pb_language.specs.Scope.{Scope, with_slot, with_spot}
use Rattle.pb_language.specs.Narrow.{results_of}
use Rattle.pb_language.specs.Knows.{WellScope}
use Rattle.pb_language.specs.Task.{Action, call_of, debug, set_fact, assertion, failure_of, Task}
use Rattle.pb_language.specs.Cases.{judged_cases, Sets, no_sets, sets, append_sets, parts_set, action_sets, all_results, going_cases, failing_cases, answered_cases, looped_kind, listed_kind, registered_kind, item_kind, is_certain_to_run, with_register, set_spot, with_sets}
use Rattle.pb_language.specs.Setting.{Setting, host_list, group_slots, with_failure_slot, named_slots, start_scope, loop_kind, with_item, item_scope, action_scope, with_own_result, own_scope, give_scope, until_scope}
use Rattle.pb_language.specs.Judgement.{live_if, has_case, has_going, task_kind, task_sets, going_slots, failing_slots, going_exit, failing_exit, register_writes, task_writes}
use Rattle.pb_language.specs.Wells.{WellSpot, WellSets, WellViews}
use Rattle.pb_language.specs.Ordered.{SpotLe, SlotsLe, KnownLe, ScopeLe, seen, SettingLe, ExitLe, SetsLe}
use Rattle.pb_language.proofs.WellKinds.{well_slot, well_results}
use Rattle.pb_language.proofs.After.{well_scope, well_answered_cases, well_judged_cases, well_groups, well_all_results, well_going, well_failing, well_own_result, well_set, well_action_sets, well_start, well_own_item, well_item_scope, well_action, well_task_sets, well_going_register}
use Rattle.pb_language.proofs.Spots.{spots_join}
use Rattle.pb_language.proofs.ChangesUp.{spots_put}
use Rattle.pb_language.proofs.KindsUp.{with_up, kinds_up}
use Rattle.pb_language.proofs.NarrowUp.{each_up}

same_with : (n : Name) (k : KindData) (ss ts : Slots) → Well k → SlotsLe ss ts → SlotsLe (with_slot n true k ss) (with_slot n true k ts)
same_with n k ss ts w l = with_up n k k ss ts (own_below k w) l

failure_up : (d : ℕ) (ss ts : Slots) → SlotsLe ss ts → SlotsLe (with_failure_slot d ss) (with_failure_slot d ts)
failure_up zero ss ts l = l
failure_up (suc d) ss ts l = same_with (codes "ansible_failed_result") (recs (slot (codes "msg") true texts no_slots)) ss ts (refl, (tt, tt)) l

named_up : (st : Setting) (d : ℕ) (ss ts : Slots) → SlotsLe ss ts → SlotsLe (named_slots st d ss) (named_slots st d ts)
named_up st d ss ts l =
    same_with (codes "inventory_hostname") (hosts (st.this ∷ [])) _ _ tt
    (same_with (codes "groups") (recs (group_slots st.groups)) _ _ (well_groups st.groups)
    (same_with (codes "group_names") (lists texts (length st.memberships)) _ _ tt
    (same_with (codes "ansible_play_batch") (host_list st.play_hosts) _ _ tt (failure_up d ss ts l))))

item_kind_up : (k m : KindData) → below k m ≡ true → below (item_kind k) (item_kind m) ≡ true
item_kind_up k anything h = refl
item_kind_up (lists k n) (lists m o) h = and-right (nat_le n o) (below k m) h
item_kind_up (lists k n) m h = untrue h
item_kind_up anything m h = untrue h
item_kind_up never m h = never_below (item_kind m)
item_kind_up nulls m h = never_below (item_kind m)
item_kind_up booleans m h = never_below (item_kind m)
item_kind_up ints m h = never_below (item_kind m)
item_kind_up texts m h = never_below (item_kind m)
item_kind_up (hosts ns) m h = never_below (item_kind m)
item_kind_up (recs ss) m h = never_below (item_kind m)
item_kind_up (results cs r) m h = never_below (item_kind m)

with_item_up : (o p : Option KindData) (ss ts : Slots) → KnownLe o p → SlotsLe ss ts → SlotsLe (with_item o ss) (with_item p ts)
with_item_up None None ss ts x l = l
with_item_up None (Some m) ss ts x l = untrue x
with_item_up (Some k) None ss ts x l = untrue x
with_item_up (Some k) (Some m) ss ts x l = with_up (codes "item") (item_kind k) (item_kind m) ss ts (item_kind_up k m x) l

loops_up : (c d : Scope) (o : Option Expression) → WellScope c → WellScope d → ScopeLe c d → KnownLe (loop_kind c o) (loop_kind d o)
loops_up c d None w v l = tt
loops_up c d (Some e) w v l = kinds_up c d e w v l

-- what is registered
looped_up : (k m : KindData) → below k m ≡ true → below (looped_kind k) (looped_kind m) ≡ true
looped_up k m h = rw h refl

least_number : (n : ℕ) → nat_le 0 n ≡ true
least_number n = grind (arith, nat_tests)

no_items_up : (r : KindData) (n : ℕ) → Well r → below (lists r 0) (lists r n) ≡ true
no_items_up r n w = and-both (nat_le 0 n) (below r r) (least_number n) (own_below r w)

listed_up : (r l m : KindData) → Well r → below l m ≡ true → below (listed_kind r l) (listed_kind r m) ≡ true
listed_up r l anything w h = refl
listed_up r (lists k n) (lists m o) w h = and-both (nat_le n o) (below r r) (and-left (nat_le n o) (below k m) h) (own_below r w)
listed_up r (lists k n) m w h = untrue h
listed_up r anything m w h = untrue h
listed_up r never never w h = no_items_up r 0 w
listed_up r never nulls w h = no_items_up r 0 w
listed_up r never booleans w h = no_items_up r 0 w
listed_up r never ints w h = no_items_up r 0 w
listed_up r never texts w h = no_items_up r 0 w
listed_up r never (hosts ns) w h = no_items_up r 0 w
listed_up r never (lists m o) w h = no_items_up r o w
listed_up r never (recs ss) w h = no_items_up r 0 w
listed_up r never (results cs q) w h = no_items_up r 0 w
listed_up r nulls nulls w h = no_items_up r 0 w
listed_up r nulls m w h = untrue h
listed_up r booleans booleans w h = no_items_up r 0 w
listed_up r booleans m w h = untrue h
listed_up r ints ints w h = no_items_up r 0 w
listed_up r ints m w h = untrue h
listed_up r texts texts w h = no_items_up r 0 w
listed_up r texts m w h = untrue h
listed_up r (hosts ns) texts w h = no_items_up r 0 w
listed_up r (hosts ns) (hosts ms) w h = no_items_up r 0 w
listed_up r (hosts ns) m w h = untrue h
listed_up r (recs ss) (recs ts) w h = no_items_up r 0 w
listed_up r (recs ss) m w h = untrue h
listed_up r (results cs q) (recs ts) w h = no_items_up r 0 w
listed_up r (results cs q) (results ds p) w h = no_items_up r 0 w
listed_up r (results cs q) m w h = untrue h

registered_up : (t : Task) (o p : Option KindData) (cs : Cases) → Well (registered_kind t None cs) → KnownLe o p → below (registered_kind t o cs) (registered_kind t p cs) ≡ true
registered_up t None None cs w x = own_below (results_of cs) w
registered_up t None (Some m) cs w x = untrue x
registered_up t (Some k) None cs w x = untrue x
registered_up t (Some k) (Some m) cs w x =
    let r = results_of (all_results t) in
    looped_up (listed_kind r k) (listed_kind r m) (listed_up r k m (well_results (all_results t) (well_all_results t)) x)

register_up : (o : Option Name) (k m : KindData) (ss ts : Slots) → below k m ≡ true → SlotsLe ss ts → SlotsLe (with_register o k ss) (with_register o m ts)
register_up None k m ss ts h l = l
register_up (Some n) k m ss ts h l = with_up n k m ss ts h l

-- what is set
sets_own : (s : Sets) → WellSets s → SetsLe s s
sets_own no_sets w = tt
sets_own (sets n a k r) w = (refl, refl, own_below k w.0, sets_own r w.1)

parts_set_up : (c d : Scope) (a : Bool) (ps : Parts) → WellScope c → WellScope d → ScopeLe c d → SetsLe (parts_set c a ps) (parts_set d a ps)
parts_set_up c d a no_parts w v l = tt
parts_set_up c d a (part n e ps) w v l = (refl, refl, kinds_up c d e w v l, parts_set_up c d a ps w v l)

action_up : (a : Action) (c d : Scope) (t : Task) → WellScope c → WellScope d → ScopeLe c d → SetsLe (action_sets c t a) (action_sets d t a)
action_up (call_of m ps) c d t w v l = sets_own (action_sets c t (call_of m ps)) (well_action_sets (call_of m ps) c t w)
action_up (debug e) c d t w v l = tt
action_up (set_fact ps) c d t w v l = parts_set_up c d (is_certain_to_run t) ps w v l
action_up (assertion es o) c d t w v l = tt
action_up (failure_of o) c d t w v l = tt

set_up : (a : Bool) (s t : Spot) (k m : KindData) → WellSpot s → WellSpot t → Well k → Well m → SpotLe s t → below k m ≡ true → SpotLe (set_spot a s k) (set_spot a t m)
set_up true s t k m w v x y l h = (refl, h)
set_up false s t k m w v x y l h = spots_join s t (spot true k) (spot true m) w v x y l (refl, h)

always_set : (a : Bool) (s : Spot) (k : KindData) (t : Spot) → set_spot a s k ≡ nowhere → t ≡ nowhere
always_set true s k t e = let x : spot true k ≡ nowhere = e in absurd (cc)
always_set false nowhere k t e = let x : spot false k ≡ nowhere = e in absurd (cc)
always_set false (spot b j) k t e = absurd (cc)

with_sets_up : (s r : Sets) (ss ts : Slots) → WellSets s → WellSets r → Well (recs ss) → Well (recs ts) → SetsLe s r → SlotsLe ss ts → SlotsLe (with_sets s ss) (with_sets r ts)
with_sets_up no_sets no_sets ss ts a b w v x l = l
with_sets_up no_sets (sets m e j r) ss ts a b w v x l = untrue x
with_sets_up (sets n d k s) no_sets ss ts a b w v x l = untrue x
with_sets_up (sets n d k s) (sets m e j r) ss ts a b w v x l =
    let put : SlotsLe (with_spot n (set_spot d (slot_at n ss) k) ss) (with_spot n (set_spot d (slot_at n ts) j) ts) =
    spots_put n (set_spot d (slot_at n ss) k) (set_spot d (slot_at n ts) j) ss ts (λ z. always_set d (slot_at n ss) k (slot_at n ss) z) (λ z. always_set d (slot_at n ts) j (slot_at n ts) z)
    (set_up d (slot_at n ss) (slot_at n ts) k j (well_slot n ss w.1) (well_slot n ts v.1) a.0 b.0 (l.at n) x.2) l in
    rw (← x.0, ← x.1) (with_sets_up s r (with_spot n (set_spot d (slot_at n ss) k) ss) (with_spot n (set_spot d (slot_at n ts) j) ts) a.1 b.1 (well_set n d k ss a.0 w) (well_set n d j ts b.0 v) x.3 put)

append_up : (p q r s : Sets) → SetsLe p q → SetsLe r s → SetsLe (append_sets p r) (append_sets q s)
append_up no_sets no_sets r s x y = y
append_up no_sets (sets m b j q) r s x y = untrue x
append_up (sets n a k p) no_sets r s x y = untrue x
append_up (sets n a k p) (sets m b j q) r s x y = (x.0, x.1, x.2, append_up p q r s x.3 y)

writes_up : (o : Option Name) (b : Bool) (k m : KindData) → below k m ≡ true → SetsLe (register_writes o b k) (register_writes o b m)
writes_up None b k m h = tt
writes_up (Some n) true k m h = (refl, refl, h, tt)
writes_up (Some n) false k m h = tt

live_up : (q : Bool) (ss ts : Slots) → SlotsLe ss ts → ExitLe (live_if q ss) (live_if q ts)
live_up true ss ts l = l
live_up false ss ts l = tt

module _ (st su : Setting) (t : Task) (low high : Slots) (a : WellViews st.views) (b : WellViews su.views) (w : Well (recs low)) (v : Well (recs high)) (s : SettingLe st su) (l : SlotsLe low high) where
  abbrev sv : Setting
  sv = seen st su

  start_up : ScopeLe (start_scope st t low) (start_scope sv t high)
  start_up = record { same = refl; own = named_up st t.depth low high l; table = s.views; hosts = s.hosts; own_slots = λ x. tt; views = λ g x. tt; learned = λ n e. tt; item_slots = λ x. tt; laters = s.laters t.place }

  loop_up : KnownLe (loop_kind (start_scope st t low) t.loop) (loop_kind (start_scope sv t high) t.loop)
  loop_up = loops_up (start_scope st t low) (start_scope sv t high) t.loop (well_start st a t low w) (well_start sv b t high v) start_up

  item_scopes_up : ScopeLe (item_scope st t low) (item_scope sv t high)
  item_scopes_up = record {
    same = refl;
    own = with_item_up (loop_kind (start_scope st t low) t.loop) (loop_kind (start_scope sv t high) t.loop) (named_slots st t.depth low) (named_slots st t.depth high) loop_up (named_up st t.depth low high l);
    table = s.views;
    hosts = s.hosts;
    own_slots = λ x. tt;
    views = λ g x. tt;
    learned = λ n e. tt;
    item_slots = λ x. tt;
    laters = s.laters t.place;
  }

  action_scopes_up : ScopeLe (action_scope st t low) (action_scope sv t high)
  action_scopes_up = each_up t.conditions (item_scope st t low) (item_scope sv t high) true (well_item_scope st a t low w) (well_item_scope sv b t high v) item_scopes_up

  sets_here : SetsLe (task_sets st t low) (task_sets sv t high)
  sets_here = action_up t.action (action_scope st t low) (action_scope sv t high) t (well_action st a t low w) (well_action sv b t high v) action_scopes_up

  kind_here : (cs : Cases) → Well (results_of cs) → below (task_kind st t low cs) (task_kind sv t high cs) ≡ true
  kind_here cs x = registered_up t (loop_kind (start_scope st t low) t.loop) (loop_kind (start_scope sv t high) t.loop) cs x loop_up

  register_here : (cs : Cases) → Well (results_of cs) → SlotsLe (with_register t.register (task_kind st t low cs) low) (with_register t.register (task_kind sv t high cs) high)
  register_here cs x = register_up t.register (task_kind st t low cs) (task_kind sv t high cs) low high (kind_here cs x) l

  going_here : SlotsLe (going_slots st t low) (going_slots sv t high)
  going_here =
      with_sets_up (task_sets st t low) (task_sets sv t high) (with_register t.register (task_kind st t low (going_cases t)) low) (with_register t.register (task_kind sv t high (going_cases t)) high)
      (well_task_sets st a t low w) (well_task_sets sv b t high v) (well_going_register st a t low w) (well_going_register sv b t high v) sets_here (register_here (going_cases t) (well_results (going_cases t) (well_going t)))

  writes_here : SetsLe (task_writes st t low) (task_writes sv t high)
  writes_here =
      append_up _ _ _ _ (writes_up t.register (has_going t t.loop) (task_kind st t low (going_cases t)) (task_kind sv t high (going_cases t)) (kind_here (going_cases t) (well_results (going_cases t) (well_going t))))
      (append_up _ _ _ _ (writes_up t.register (has_case (failing_cases t)) (task_kind st t low (failing_cases t)) (task_kind sv t high (failing_cases t)) (kind_here (failing_cases t) (well_results (failing_cases t) (well_failing t)))) sets_here)

  exits_here : ExitLe (going_exit st t low) (going_exit sv t high) × ExitLe (failing_exit st t low) (failing_exit sv t high) × SetsLe (task_writes st t low) (task_writes sv t high)
  exits_here = (
    live_up (has_going t t.loop) (going_slots st t low) (going_slots sv t high) going_here,
    live_up (has_case (failing_cases t)) (failing_slots st t low) (failing_slots sv t high) (register_here (failing_cases t) (well_results (failing_cases t) (well_failing t))),
    writes_here,
  )

pub exits_up : (st su : Setting) (t : Task) (low high : Slots) → WellViews st.views → WellViews su.views → Well (recs low) → Well (recs high) → SettingLe st su → SlotsLe low high
    → ExitLe (going_exit st t low) (going_exit su t high) × ExitLe (failing_exit st t low) (failing_exit su t high) × SetsLe (task_writes st t low) (task_writes su t high)
exits_up st su t low high a b w v s l =
    subst (λ z. ExitLe (going_exit st t low) (going_exit z t high) × ExitLe (failing_exit st t low) (failing_exit z t high) × SetsLe (task_writes st t low) (task_writes z t high)) (sym s.same)
    (exits_here st su t low high a b w v s l)

-- scopes of a task
module _ (st su : Setting) (t : Task) (low high : Slots) (a : WellViews st.views) (b : WellViews su.views) (w : Well (recs low)) (v : Well (recs high)) (s : SettingLe st su) (l : SlotsLe low high) where
  pub starts_up : ScopeLe (start_scope st t low) (start_scope su t high)
  starts_up = subst (λ z. ScopeLe (start_scope st t low) (start_scope z t high)) (sym s.same) (start_up st su t low high a b w v s l)

  pub items_up : ScopeLe (item_scope st t low) (item_scope su t high)
  items_up = subst (λ z. ScopeLe (item_scope st t low) (item_scope z t high)) (sym s.same) (item_scopes_up st su t low high a b w v s l)

  pub actions_up : ScopeLe (action_scope st t low) (action_scope su t high)
  actions_up = subst (λ z. ScopeLe (action_scope st t low) (action_scope z t high)) (sym s.same) (action_scopes_up st su t low high a b w v s l)

  own_result_up : (o : Option Name) (cs : Cases) (ss ts : Slots) → WellCases cs → SlotsLe ss ts → SlotsLe (with_own_result o cs ss) (with_own_result o cs ts)
  own_result_up None cs ss ts x y = y
  own_result_up (Some n) cs ss ts x y = same_with n (results_of cs) ss ts (well_results cs x) y

  own_here : (cs : Cases) → WellCases cs → ScopeLe (own_scope st t cs low) (own_scope (seen st su) t cs high)
  own_here cs x = record {
    same = refl;
    own = own_result_up t.register cs _ _ x
        (with_item_up (loop_kind (start_scope st t low) t.loop) (loop_kind (start_scope (seen st su) t high) t.loop) (named_slots st t.depth low) (named_slots st t.depth high) (loop_up st su t low high a b w v s l) (named_up st t.depth low high l));
    table = s.views;
    hosts = s.hosts;
    own_slots = λ x. tt;
    views = λ g x. tt;
    learned = λ n e. tt;
    item_slots = λ x. tt;
    laters = λ g x. refl;
  }

  owns_up : (cs : Cases) → WellCases cs → ScopeLe (own_scope st t cs low) (own_scope su t cs high)
  owns_up cs x = subst (λ z. ScopeLe (own_scope st t cs low) (own_scope z t cs high)) (sym s.same) (own_here cs x)

  pub gives_up : ScopeLe (give_scope st t low) (give_scope su t high)
  gives_up = owns_up (answered_cases t.action) (well_answered_cases t.action)

  pub untils_up : ScopeLe (until_scope st t low) (until_scope su t high)
  untils_up = owns_up (judged_cases t.action t.failed_when) (well_judged_cases t.action t.failed_when)

well_own : (st : Setting) (a : WellViews st.views) (t : Task) (env : Slots) (cs : Cases) → Well (recs env) → WellCases cs → WellScope (own_scope st t cs env)
well_own st a t env cs w x = well_scope st [] t.place _ a (well_own_result t.register cs _ x (well_own_item st a t env w))

pub well_give : (st : Setting) (a : WellViews st.views) (t : Task) (env : Slots) → Well (recs env) → WellScope (give_scope st t env)
well_give st a t env w = well_own st a t env (answered_cases t.action) w (well_answered_cases t.action)

pub well_until : (st : Setting) (a : WellViews st.views) (t : Task) (env : Slots) → Well (recs env) → WellScope (until_scope st t env)
well_until st a t env w = well_own st a t env (judged_cases t.action t.failed_when) w (well_judged_cases t.action t.failed_when)
