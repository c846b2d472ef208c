-- Which names are certain depends on no kind and on no table: what a first walk says of later places is so in each other walk.
use Rattle.std.proofs.Common.{◌≡◌, ◌≤◌, ℕ, suc, max, List, [], ◌∷◌, ◌++◌, Bool, true, false, not, ◌&&◌, ◌||◌, cond, nat_le, Option, Some, None, refl, sym, ap, subst, ◌∙◌, bytes_eq, arith}
use Rattle.std.proofs.lemmas.Bool.Decides.{nat_tests}
use Rattle.pb_semantics.specs.Kind.{KindData, Slots, Spot, no_slots, slot, nowhere, spot, slot_at, is_listed}
use Rattle.pb_semantics.specs.Keeps.{is_among}
use Rattle.pb_semantics.specs.Join.{join_slots, join_spot}
use Rattle.pb_semantics.specs.Well.{are_once}
use Rattle.pb_semantics.proofs.Bools.{untrue, and-left, and-right, and-both, or-left, not-true, true-false}
use Rattle.pb_semantics.proofs.Names.{same_name, own_name}
use Rattle.pb_semantics.proofs.Slots.{more_listed}
use Rattle.pb_semantics.proofs.JoinSlots.{at_join, once_join}
use Rattle.pb_language.specs.Expression.{Name, Parts, no_parts, part}
use Rattle.pb_language.specs.World.{HostVariables}
use Rattle.pb_language.specs.Scope.{Scope, spot_kind, is_certain, with_slot, with_spot, Since, no_since, since, every_name, View, Later, later_of}
use Rattle.pb_language.specs.Kinds.{known_slots}
use Rattle.pb_language.specs.Task.{Action, call_of, debug, set_fact, assertion, failure_of, Task, Handlers, no_handlers, handler, Row, end, task, flush, section, block}
use Rattle.pb_language.specs.Cases.{Sets, no_sets, sets, parts_set, action_sets, set_spot, with_sets, with_register, going_cases, failing_cases}
use Rattle.pb_language.specs.Setting.{Setting, action_scope}
use Rattle.pb_language.specs.Judgement.{Exit, dead, live, live_if, has_case, has_going, task_kind, task_sets, going_slots, failing_slots}
use Rattle.pb_language.specs.Walk.{Visit, Walked, meet, visits_at, going_from, failing_from, flush_walk, walk}
use Rattle.pb_language.specs.Program.{Inventory, Play, Program, setting_of}
use Rattle.pb_language.specs.Tables.{PlayWalk, HostWalk, first_laters, other_laters, then_plays, plays_walked, hosts_walked, all_walked, known_views, views_after, certain_from, past_places, latest_env, names_since, since_of, since_first, after_first, play_laters, walks_after, laters_of, has_since, has_all}
use Rattle.pb_language.specs.Verdict.{exit_has, visits_have, play_has, plays_have, all_have, found_laters}
use Rattle.pb_language.specs.Theorem.{host_names, are_distinct, LatersHold}
use Rattle.pb_language.proofs.WithSlot.{at_with, once_with}
use Rattle.pb_language.proofs.WellKinds.{well_known_slots}
use Rattle.pb_language.proofs.Seen.{apart_names}

-- two environments in which the same names are certain, each with each name once
pub record Twin (ss ts : Slots) : Type 0 where
  pub same : (n : Name) → is_certain (slot_at n ss) ≡ is_certain (slot_at n ts)
  pub once_here : are_once ss ≡ true
  pub once_there : are_once ts ≡ true

picked : (q a : Bool) (k : KindData) (s : Spot) → is_certain (cond q (spot a k) s) ≡ cond q a (is_certain s)
picked true a k s = refl
picked false a k s = refl

certain_with : (p n : Name) (a : Bool) (k : KindData) (ss : Slots) → is_certain (slot_at p (with_slot n a k ss)) ≡ cond (bytes_eq p n) a (is_certain (slot_at p ss))
certain_with p n a k ss = ap is_certain (at_with p n a k ss) ∙ picked (bytes_eq p n) a k (slot_at p ss)

twin_with : (n : Name) (a : Bool) (k m : KindData) (ss ts : Slots) → Twin ss ts → Twin (with_slot n a k ss) (with_slot n a m ts)
twin_with n a k m ss ts t = record {
  same = λ p. certain_with p n a k ss ∙ ap (λ b. cond (bytes_eq p n) a b) (t.same p) ∙ sym (certain_with p n a m ts);
  once_here = once_with n a k ss t.once_here;
  once_there = once_with n a m ts t.once_there;
}

twin_register : (o : Option Name) (k m : KindData) (ss ts : Slots) → Twin ss ts → Twin (with_register o k ss) (with_register o m ts)
twin_register None k m ss ts t = t
twin_register (Some n) k m ss ts t = twin_with n true k m ss ts t

-- a name that is set is certain where it is so for certain, or was
set_there : (a : Bool) (s : Spot) (k : KindData) → set_spot a s k ≡ spot (a || is_certain s) (spot_kind (set_spot a s k))
set_there true s k = refl
set_there false nowhere k = refl
set_there false (spot true j) k = refl
set_there false (spot false j) k = refl

twin_spot : (n : Name) (a b : Bool) (s u : Spot) (k m : KindData) (ss ts : Slots) → s ≡ spot a k → u ≡ spot b m → a ≡ b → Twin ss ts → Twin (with_spot n s ss) (with_spot n u ts)
twin_spot n a b s u k m ss ts e f i t = rw (e, f, i) (twin_with n b k m ss ts t)

twin_set : (n : Name) (a : Bool) (k m : KindData) (ss ts : Slots) → Twin ss ts → Twin (with_spot n (set_spot a (slot_at n ss) k) ss) (with_spot n (set_spot a (slot_at n ts) m) ts)
twin_set n a k m ss ts t =
    let s = set_spot a (slot_at n ss) k in
    let u = set_spot a (slot_at n ts) m in
    twin_spot n (a || is_certain (slot_at n ss)) (a || is_certain (slot_at n ts)) s u (spot_kind s) (spot_kind u) ss ts (set_there a (slot_at n ss) k) (set_there a (slot_at n ts) m) (ap (λ b. a || b) (t.same n)) t

-- the same names with the same flags
abbrev SameSets : Sets → Sets → Type 0
SameSets no_sets no_sets = Unit {0}
SameSets no_sets (sets m b j s) = false ≡ true
SameSets (sets n a k r) no_sets = false ≡ true
SameSets (sets n a k r) (sets m b j s) = (n ≡ m) × (a ≡ b) × SameSets r s

own_sets : (r : Sets) → SameSets r r
own_sets no_sets = tt
own_sets (sets n a k r) = (refl, refl, own_sets r)

same_parts : (c d : Scope) (a : Bool) (ps : Parts) → SameSets (parts_set c a ps) (parts_set d a ps)
same_parts c d a no_parts = tt
same_parts c d a (part n e ps) = (refl, refl, same_parts c d a ps)

same_action : (c d : Scope) (t : Task) (x : Action) → SameSets (action_sets c t x) (action_sets d t x)
same_action c d t (call_of m ps) = own_sets (action_sets c t (call_of m ps))
same_action c d t (debug e) = tt
same_action c d t (set_fact ps) = same_parts c d _ ps
same_action c d t (assertion es o) = tt
same_action c d t (failure_of o) = tt

twin_sets : (r s : Sets) (ss ts : Slots) → SameSets r s → Twin ss ts → Twin (with_sets r ss) (with_sets s ts)
twin_sets no_sets no_sets ss ts h t = t
twin_sets no_sets (sets m b j s) ss ts h t = untrue h
twin_sets (sets n a k r) no_sets ss ts h t = untrue h
twin_sets (sets n a k r) (sets m b j s) ss ts h t =
    rw (h.0, h.1) (twin_sets r s (with_spot m (set_spot b (slot_at m ss) k) ss) (with_spot m (set_spot b (slot_at m ts) j) ts) h.2 (twin_set m b k j ss ts t))

twin_failing : (st su : Setting) (t : Task) (ss ts : Slots) → Twin ss ts → Twin (failing_slots st t ss) (failing_slots su t ts)
twin_failing st su t ss ts w = twin_register t.register (task_kind st t ss (failing_cases t)) (task_kind su t ts (failing_cases t)) ss ts w

twin_going : (st su : Setting) (t : Task) (ss ts : Slots) → Twin ss ts → Twin (going_slots st t ss) (going_slots su t ts)
twin_going st su t ss ts w =
    let k = task_kind st t ss (going_cases t) in
    let m = task_kind su t ts (going_cases t) in
    twin_sets (task_sets st t ss) (task_sets su t ts) (with_register t.register k ss) (with_register t.register m ts) (same_action (action_scope st t ss) (action_scope su t ts) t t.action) (twin_register t.register k m ss ts w)

-- where two environments meet
met_certain : (s u : Spot) → is_certain (join_spot s u) ≡ is_certain s && is_certain u
met_certain nowhere nowhere = refl
met_certain nowhere (spot b m) = refl
met_certain (spot true k) nowhere = refl
met_certain (spot false k) nowhere = refl
met_certain (spot a k) (spot b m) = refl

certain_join : (n : Name) (ss ts : Slots) → are_once ts ≡ true → is_certain (slot_at n (join_slots ss ts)) ≡ is_certain (slot_at n ss) && is_certain (slot_at n ts)
certain_join n ss ts o = ap is_certain (at_join n ss ts o) ∙ met_certain (slot_at n ss) (slot_at n ts)

both_same : (a b c d : Bool) → a ≡ b → c ≡ d → a && c ≡ b && d
both_same a b c d e f = rw (e, f) refl

twin_join : (ss ts us vs : Slots) → Twin ss ts → Twin us vs → Twin (join_slots ss us) (join_slots ts vs)
twin_join ss ts us vs t u = record {
  same = λ n.
      certain_join n ss us u.once_here ∙ both_same (is_certain (slot_at n ss)) (is_certain (slot_at n ts)) (is_certain (slot_at n us)) (is_certain (slot_at n vs)) (t.same n) (u.same n)
      ∙ sym (certain_join n ts vs u.once_there);
  once_here = once_join ss us t.once_here u.once_here;
  once_there = once_join ts vs t.once_there u.once_there;
}

abbrev TwinExit : Exit → Exit → Type 0
TwinExit dead dead = Unit {0}
TwinExit dead (live ts) = false ≡ true
TwinExit (live ss) dead = false ≡ true
TwinExit (live ss) (live ts) = Twin ss ts

twin_meet : (e f x y : Exit) → TwinExit e f → TwinExit x y → TwinExit (meet e x) (meet f y)
twin_meet dead dead x y t u = u
twin_meet dead (live ts) x y t u = untrue t
twin_meet (live ss) dead x y t u = untrue t
twin_meet (live ss) (live ts) dead dead t u = t
twin_meet (live ss) (live ts) dead (live vs) t u = untrue u
twin_meet (live ss) (live ts) (live us) dead t u = untrue u
twin_meet (live ss) (live ts) (live us) (live vs) t u = twin_join ss ts us vs t u

twin_if : (q : Bool) (ss ts : Slots) → Twin ss ts → TwinExit (live_if q ss) (live_if q ts)
twin_if true ss ts t = t
twin_if false ss ts t = tt

-- the same places in the same order
abbrev TwinVisits : List Visit → List Visit → Type 0
TwinVisits [] [] = Unit {0}
TwinVisits [] (w ∷ ws) = false ≡ true
TwinVisits (v ∷ vs) [] = false ≡ true
TwinVisits (v ∷ vs) (w ∷ ws) = (v.visited.place ≡ w.visited.place) × Twin v.env w.env × TwinVisits vs ws

twin_both : (vs ws xs ys : List Visit) → TwinVisits vs ws → TwinVisits xs ys → TwinVisits (vs ++ xs) (ws ++ ys)
twin_both [] [] xs ys t u = u
twin_both [] (w ∷ ws) xs ys t u = untrue t
twin_both (v ∷ vs) [] xs ys t u = untrue t
twin_both (v ∷ vs) (w ∷ ws) xs ys t u = (t.0, t.1, twin_both vs ws xs ys t.2 u)

abbrev TwinWalk : Walked → Walked → Type 0
TwinWalk w x = TwinVisits w.visits x.visits × TwinExit w.well x.well × TwinExit w.hurt x.hurt

-- two walks through one row from where the same names are certain
module _ (st su : Setting) where
  here_twin : (t : Task) (e f : Exit) → TwinExit e f → TwinVisits (visits_at st t e) (visits_at su t f)
  here_twin t dead dead w = tt
  here_twin t dead (live ts) w = untrue w
  here_twin t (live ss) dead w = untrue w
  here_twin t (live ss) (live ts) w = (refl, w, tt)

  going_twin : (t : Task) (e f : Exit) → TwinExit e f → TwinExit (going_from st t e) (going_from su t f)
  going_twin t dead dead w = tt
  going_twin t dead (live ts) w = untrue w
  going_twin t (live ss) dead w = untrue w
  going_twin t (live ss) (live ts) w = twin_if (has_going t t.loop) (going_slots st t ss) (going_slots su t ts) (twin_going st su t ss ts w)

  failing_twin : (t : Task) (e f : Exit) → TwinExit e f → TwinExit (failing_from st t e) (failing_from su t f)
  failing_twin t dead dead w = tt
  failing_twin t dead (live ts) w = untrue w
  failing_twin t (live ss) dead w = untrue w
  failing_twin t (live ss) (live ts) w = twin_if (has_case (failing_cases t)) (failing_slots st t ss) (failing_slots su t ts) (twin_failing st su t ss ts w)

  flush_twin : (hs : Handlers) (e f : Exit) → TwinExit e f → TwinWalk (flush_walk st hs e) (flush_walk su hs f)
  flush_twin no_handlers e f w = (tt, w, tt)
  flush_twin (handler n t hs) e f w =
      let k = flush_walk st hs (meet e (going_from st t e)) in
      let l = flush_walk su hs (meet f (going_from su t f)) in
      let r = flush_twin hs (meet e (going_from st t e)) (meet f (going_from su t f)) (twin_meet e f (going_from st t e) (going_from su t f) w (going_twin t e f w)) in
      (twin_both (visits_at st t e) (visits_at su t f) k.visits l.visits (here_twin t e f w) r.0, r.1, r.2)

  always_twin : (x y g h i j k l : Exit) → TwinExit x y → TwinExit g h → TwinExit i j → TwinExit k l → TwinExit (meet x (meet g (meet i k))) (meet y (meet h (meet j l)))
  always_twin x y g h i j k l a b c d = twin_meet x y (meet g (meet i k)) (meet h (meet j l)) a (twin_meet g h (meet i k) (meet j l) b (twin_meet i j k l c d))

  walk_twin : (row : Row) (e f : Exit) → TwinExit e f → TwinWalk (walk st row e) (walk su row f)
  walk_twin end e f w = (tt, w, tt)
  walk_twin (task t row) e f w =
      let k = walk st row (going_from st t e) in
      let l = walk su row (going_from su t f) in
      let r = walk_twin row (going_from st t e) (going_from su t f) (going_twin t e f w) in
      (twin_both (visits_at st t e) (visits_at su t f) k.visits l.visits (here_twin t e f w) r.0, r.1, twin_meet (failing_from st t e) (failing_from su t f) k.hurt l.hurt (failing_twin t e f w) r.2)
  walk_twin (flush hs row) e f w =
      let x = flush_walk st hs e in
      let y = flush_walk su hs f in
      let k = walk st row x.well in
      let l = walk su row y.well in
      let a = flush_twin hs e f w in
      let r = walk_twin row x.well y.well a.1 in
      (twin_both x.visits y.visits k.visits l.visits a.0 r.0, r.1, r.2)
  walk_twin (section body hs row) e f w =
      let x = walk st body e in
      let x' = walk su body f in
      let g = flush_walk st hs x.well in
      let g' = flush_walk su hs x'.well in
      let h = flush_walk st hs x.hurt in
      let h' = flush_walk su hs x'.hurt in
      let k = walk st row g.well in
      let k' = walk su row g'.well in
      let wx = walk_twin body e f w in
      let wg = flush_twin hs x.well x'.well wx.1 in
      let wh = flush_twin hs x.hurt x'.hurt wx.2 in
      let wk = walk_twin row g.well g'.well wg.1 in
      let vk = twin_both h.visits h'.visits k.visits k'.visits wh.0 wk.0 in
      let vg = twin_both g.visits g'.visits (h.visits ++ k.visits) (h'.visits ++ k'.visits) wg.0 vk in
      (twin_both x.visits x'.visits (g.visits ++ (h.visits ++ k.visits)) (g'.visits ++ (h'.visits ++ k'.visits)) wx.0 vg, wk.1, wk.2)
  walk_twin (block d body true rescued always row) e f w =
      let x = walk st body e in
      let x' = walk su body f in
      let s = walk st rescued x.hurt in
      let s' = walk su rescued x'.hurt in
      let g = walk st always (meet x.well s.well) in
      let g' = walk su always (meet x'.well s'.well) in
      let h = walk st always s.hurt in
      let h' = walk su always s'.hurt in
      let k = walk st row g.well in
      let k' = walk su row g'.well in
      let wx = walk_twin body e f w in
      let ws = walk_twin rescued x.hurt x'.hurt wx.2 in
      let wg = walk_twin always (meet x.well s.well) (meet x'.well s'.well) (twin_meet x.well x'.well s.well s'.well wx.1 ws.1) in
      let wh = walk_twin always s.hurt s'.hurt ws.2 in
      let wk = walk_twin row g.well g'.well wg.1 in
      let vk = twin_both h.visits h'.visits k.visits k'.visits wh.0 wk.0 in
      let vg = twin_both g.visits g'.visits (h.visits ++ k.visits) (h'.visits ++ k'.visits) wg.0 vk in
      let vs = twin_both s.visits s'.visits (g.visits ++ (h.visits ++ k.visits)) (g'.visits ++ (h'.visits ++ k'.visits)) ws.0 vg in (
        twin_both x.visits x'.visits (s.visits ++ (g.visits ++ (h.visits ++ k.visits))) (s'.visits ++ (g'.visits ++ (h'.visits ++ k'.visits))) wx.0 vs,
        wk.1,
        always_twin k.hurt k'.hurt g.hurt g'.hurt h.well h'.well h.hurt h'.hurt wk.2 wg.2 wh.1 wh.2,
      )
  walk_twin (block d body false rescued always row) e f w =
      let x = walk st body e in
      let x' = walk su body f in
      let g = walk st always (meet x.well dead) in
      let g' = walk su always (meet x'.well dead) in
      let h = walk st always x.hurt in
      let h' = walk su always x'.hurt in
      let k = walk st row g.well in
      let k' = walk su row g'.well in
      let wx = walk_twin body e f w in
      let wg = walk_twin always (meet x.well dead) (meet x'.well dead) (twin_meet x.well x'.well dead dead wx.1 tt) in
      let wh = walk_twin always x.hurt x'.hurt wx.2 in
      let wk = walk_twin row g.well g'.well wg.1 in
      let vk = twin_both h.visits h'.visits k.visits k'.visits wh.0 wk.0 in
      let vg = twin_both g.visits g'.visits (h.visits ++ k.visits) (h'.visits ++ k'.visits) wg.0 vk in (
        twin_both x.visits x'.visits (g.visits ++ (h.visits ++ k.visits)) (g'.visits ++ (h'.visits ++ k'.visits)) wx.0 vg,
        wk.1,
        always_twin k.hurt k'.hurt g.hurt g'.hurt h.well h'.well h.hurt h'.hurt wk.2 wg.2 wh.1 wh.2,
      )

-- a name is certain from the place on that the first walk finds
max_low : (p m q : ℕ) → max (suc p) m ≤ q → m ≤ q
max_low p m q h = grind arith

max_past : (p m q : ℕ) → max (suc p) m ≤ q → nat_le q p ≡ false
max_past p m q h = grind (arith, nat_tests)

or_true : (b : Bool) → b || true ≡ true
or_true true = refl
or_true false = refl

since_here : (c : Bool) (p q m : ℕ) → cond c m (max (suc p) m) ≤ q → (m ≤ q) × (not (nat_le q p) || c ≡ true)
since_here true p q m h = (h, or_true (not (nat_le q p)))
since_here false p q m h = (max_low p m q h, rw (max_past p m q h) refl)

moved : (a b : ℕ) (c d : Bool) (q : ℕ) → a ≡ b → c ≡ d → not (nat_le q a) || c ≡ true → not (nat_le q b) || d ≡ true
moved a b c d q e f h = rw (← e, ← f) h

past_here : (a b q : ℕ) → a ≡ b → nat_le q a ≡ false → not (nat_le q b) ≡ true
past_here a b q e h = rw (← e, h) refl

name_have : (n : Name) (q : ℕ) (l : Since) (vs ws : List Visit) → certain_from n vs ≤ q → TwinVisits vs ws → visits_have l ws ≡ true → visits_have (since n q l) ws ≡ true
name_have n q l [] [] b t h = refl
name_have n q l [] (w ∷ ws) b t h = untrue t
name_have n q l (v ∷ vs) [] b t h = refl
name_have n q l (v ∷ vs) (w ∷ ws) b t h =
    let s = since_here (is_certain (slot_at n v.env)) v.visited.place q (certain_from n vs) b in
    let here = not (nat_le q w.visited.place) || is_certain (slot_at n w.env) in
    let rest = has_since w.visited.place l w.env in
    let there = moved v.visited.place w.visited.place (is_certain (slot_at n v.env)) (is_certain (slot_at n w.env)) q t.0 (t.1.same n) s.1 in
    and-both (here && rest) (visits_have (since n q l) ws) (and-both here rest there (and-left rest (visits_have l ws) h)) (name_have n q l vs ws s.0 t.2 (and-right rest (visits_have l ws) h))

past_have : (q : ℕ) (l : Since) (vs ws : List Visit) → past_places vs ≤ q → TwinVisits vs ws → visits_have l ws ≡ true → visits_have (every_name q l) ws ≡ true
past_have q l [] [] b t h = refl
past_have q l [] (w ∷ ws) b t h = untrue t
past_have q l (v ∷ vs) [] b t h = refl
past_have q l (v ∷ vs) (w ∷ ws) b t h =
    let here = not (nat_le q w.visited.place) in
    let rest = has_since w.visited.place l w.env in
    let there = past_here v.visited.place w.visited.place q t.0 (max_past v.visited.place (past_places vs) q b) in
    and-both (here && rest) (visits_have (every_name q l) ws) (and-both here rest there (and-left rest (visits_have l ws) h))
    (past_have q l vs ws (max_low v.visited.place (past_places vs) q b) t.2 (and-right rest (visits_have l ws) h))

nothing_asked : (ws : List Visit) → visits_have no_since ws ≡ true
nothing_asked [] = refl
nothing_asked (w ∷ ws) = nothing_asked ws

names_have : (vs ws : List Visit) (ss : Slots) (l : Since) → TwinVisits vs ws → visits_have l ws ≡ true → visits_have (names_since vs ss l) ws ≡ true
names_have vs ws no_slots l t h = h
names_have vs ws (slot n true k ss) l t h = name_have n (certain_from n vs) (names_since vs ss l) vs ws (omega arith) t (names_have vs ws ss l t h)
names_have vs ws (slot n false k ss) l t h = names_have vs ws ss l t h

-- what the one walk finds is so at each place of the other
since_have : (vs ws : List Visit) (e : Exit) → TwinVisits vs ws → visits_have (since_of vs e) ws ≡ true
since_have vs ws (live env) t = names_have vs ws env no_since t (nothing_asked ws)
since_have vs ws dead t = names_have vs ws (latest_env 0 no_slots vs) (every_name (past_places vs) no_since) t (past_have (past_places vs) no_since vs ws (omega arith) t (nothing_asked ws))

own_certain : (q a : Bool) (k : KindData) (s : Spot) → q ≡ true → is_certain (cond q (spot a k) s) ≡ a
own_certain true a k s e = refl
own_certain false a k s e = untrue e

other_certain : (q : Bool) (p n : Name) (a : Bool) (k : KindData) (ss : Slots) → bytes_eq p n ≡ q → is_listed n ss ≡ false → is_listed p ss ≡ true → is_certain (cond q (spot a k) (slot_at p ss)) ≡ is_certain (slot_at p ss)
other_certain true p n a k ss e h i = true-false (is_listed p ss) i (rw (same_name p n e) h)
other_certain false p n a k ss e h i = refl

own_listed : (q b : Bool) → q ≡ true → cond q true b ≡ true
own_listed true b e = refl
own_listed false b e = untrue e

all_named : (vs : List Visit) (ss env : Slots) → are_once ss ≡ true → ((p : Name) → is_listed p ss ≡ true → is_certain (slot_at p env) ≡ is_certain (slot_at p ss)) → has_all (names_since vs ss no_since) env ≡ true
all_named vs no_slots env o f = refl
all_named vs (slot n true k ss) env o f =
    let new = not-true (is_listed n ss) (and-left (not (is_listed n ss)) (are_once ss) o) in
    and-both (is_certain (slot_at n env)) (has_all (names_since vs ss no_since) env)
    (f n (own_listed (bytes_eq n n) (is_listed n ss) (own_name n)) ∙ own_certain (bytes_eq n n) true k (slot_at n ss) (own_name n))
    (all_named vs ss env (and-right (not (is_listed n ss)) (are_once ss) o) (λ p i. f p (more_listed (bytes_eq p n) (is_listed p ss) i) ∙ other_certain (bytes_eq p n) p n true k ss refl new i))
all_named vs (slot n false k ss) env o f =
    let new = not-true (is_listed n ss) (and-left (not (is_listed n ss)) (are_once ss) o) in
    all_named vs ss env (and-right (not (is_listed n ss)) (are_once ss) o) (λ p i. f p (more_listed (bytes_eq p n) (is_listed p ss) i) ∙ other_certain (bytes_eq p n) p n false k ss refl new i)

-- and at its end
end_has : (vs : List Visit) (e f : Exit) → TwinExit e f → exit_has (since_of vs e) f ≡ true
end_has vs dead dead t = refl
end_has vs dead (live ts) t = untrue t
end_has vs (live ss) dead t = refl
end_has vs (live ss) (live ts) t = all_named vs ss ts t.once_here (λ p i. sym (t.same p))

-- a host's ways through the plays, by its name
abbrev plays_of : Name → List HostWalk → List PlayWalk
plays_of h [] = []
plays_of h (w ∷ ws) = cond (bytes_eq h w.host) w.plays (plays_of h ws)

chosen : {X : Type 0} (q : Bool) (P : X → Type 0) (a b : X) → q ≡ true → P a → P (cond q a b)
chosen true P a b e x = x
chosen false P a b e x = untrue e

not_chosen : {X : Type 0} (q : Bool) (P : X → Type 0) (a b : X) → q ≡ false → P b → P (cond q a b)
not_chosen true P a b e x = untrue (sym e)
not_chosen false P a b e x = x

entry_step : (q : Bool) (h : Name) (p : Play) (P : Since → Type 0) (w : HostWalk) (ws : List HostWalk) → bytes_eq h w.host ≡ q → is_among h p.hosts ≡ true → P (since_first (cond q w.plays (plays_of h ws)))
    → (P (since_first (plays_of h ws)) → P (later_of h (play_laters p ws))) → P (cond q (cond (is_among w.host p.hosts) (since_first w.plays) (every_name 0 no_since)) (later_of h (play_laters p ws)))
entry_step true h p P w ws e a x f = chosen (is_among w.host p.hosts) P (since_first w.plays) (every_name 0 no_since) (subst (λ n. is_among n p.hosts ≡ true) (same_name h w.host e) a) x
entry_step false h p P w ws e a x f = f x

-- what is said of a host is what its own way gave
entry : (h : Name) (p : Play) (P : Since → Type 0) (ws : List HostWalk) → is_among h p.hosts ≡ true → P no_since → P (since_first (plays_of h ws)) → P (later_of h (play_laters p ws))
entry h p P [] a z x = z
entry h p P (w ∷ ws) a z x = entry_step (bytes_eq h w.host) h p P w ws refl a x (λ y. entry h p P ws a z y)

linear_entry : (r : Bool) (h : Name) (p : Play) (P : Since → Type 0) (ws : List HostWalk) → is_among h p.hosts ≡ true → P no_since → P (since_first (plays_of h ws)) → P (later_of h (cond r (play_laters p ws) []))
linear_entry true h p P ws a z x = entry h p P ws a z x
linear_entry false h p P ws a z x = z

nothing_after : (q : Bool) → [] ≡ after_first q []
nothing_after true = refl
nothing_after false = refl

after_step : (q : Bool) (h : Name) (p : Play) (w : HostWalk) (ws : List HostWalk) → bytes_eq h w.host ≡ q → plays_of h (walks_after p ws) ≡ after_first (is_among h p.hosts) (plays_of h ws)
    → cond q (after_first (is_among w.host p.hosts) w.plays) (plays_of h (walks_after p ws)) ≡ after_first (is_among h p.hosts) (cond q w.plays (plays_of h ws))
after_step true h p w ws e f = sym (ap (λ n. after_first (is_among n p.hosts) w.plays) (same_name h w.host e))
after_step false h p w ws e f = f

plays_after : (h : Name) (p : Play) (ws : List HostWalk) → plays_of h (walks_after p ws) ≡ after_first (is_among h p.hosts) (plays_of h ws)
plays_after h p [] = nothing_after (is_among h p.hosts)
plays_after h p (w ∷ ws) = after_step (bytes_eq h w.host) h p w ws refl (plays_after h p ws)

passed : (h : Name) (p : Play) (ps : Program) (ls : List (List Later)) (ws : List PlayWalk) → is_among h p.hosts ≡ false → plays_have h ps (other_laters ls) ws ≡ true → plays_have h (p ∷ ps) ls ws ≡ true
passed h p ps ls [] a x = refl
passed h p ps ls (w ∷ ws) a x = not_chosen (is_among h p.hosts) (λ b. b ≡ true) (play_has h (first_laters ls) w && plays_have h ps (other_laters ls) ws) (plays_have h ps (other_laters ls) (w ∷ ws)) a x

module _ (inventory : Inventory) (views other : List View) where
  play_step : (q : Bool) (h : Name) (p : Play) (ps : Program) (e f : Exit) (ls : List (List Later)) (ws : List HostWalk) → is_among h p.hosts ≡ q → TwinExit e f
      → plays_of h ws ≡ cond q (then_plays p (walk (setting_of inventory p views [] h) p.row e) (λ x. plays_walked inventory views h x ps [])) (plays_walked inventory views h e ps [])
      → ((x y : Exit) (us : List HostWalk) → TwinExit x y → plays_of h us ≡ plays_walked inventory views h x ps [] → plays_have h ps (laters_of ps us) (plays_walked inventory other h y ps (other_laters ls)) ≡ true)
      → plays_have h (p ∷ ps) (cond p.is_linear (play_laters p ws) [] ∷ laters_of ps (walks_after p ws))
      (cond q (then_plays p (walk (setting_of inventory p other (first_laters ls) h) p.row f) (λ x. plays_walked inventory other h x ps (other_laters ls))) (plays_walked inventory other h f ps (other_laters ls))) ≡ true
  play_step true h p ps e f ls ws a t i later =
      let w = walk (setting_of inventory p views [] h) p.row e in
      let x = walk (setting_of inventory p other (first_laters ls) h) p.row f in
      let l = cond p.is_linear (play_laters p ws) [] in
      let more = plays_walked inventory other h x.well ps (other_laters ls) in
      let y = walk_twin (setting_of inventory p views [] h) (setting_of inventory p other (first_laters ls) h) p.row e f t in
      let Has : Since → Type 0 = λ l. visits_have l x.visits && exit_has l x.well ≡ true in
      let found : Has (since_of w.visits w.well) = and-both (visits_have (since_of w.visits w.well) x.visits) (exit_has (since_of w.visits w.well) x.well) (since_have w.visits x.visits w.well y.0) (end_has w.visits w.well x.well y.1) in
      let none : Has no_since = and-both (visits_have no_since x.visits) (exit_has no_since x.well) (nothing_asked x.visits) (no_end x.well) in
      let here = linear_entry p.is_linear h p Has ws a none (subst Has (sym (ap since_first i)) found) in
      let rest = later w.well x.well (walks_after p ws) y.1 (plays_after h p ws ∙ ap (λ b. after_first b (plays_of h ws)) a ∙ ap (λ k. after_first true k) i) in
      let one : PlayWalk = record { play = p; walked = x } in
      chosen (is_among h p.hosts) (λ b. b ≡ true) (play_has h l one && plays_have h ps (laters_of ps (walks_after p ws)) more) (plays_have h ps (laters_of ps (walks_after p ws)) (one ∷ more)) a
      (and-both (play_has h l one) (plays_have h ps (laters_of ps (walks_after p ws)) more) here rest)
    where
      no_end : (e : Exit) → exit_has no_since e ≡ true
      no_end dead = refl
      no_end (live env) = refl
  play_step false h p ps e f ls ws a t i later =
      passed h p ps (cond p.is_linear (play_laters p ws) [] ∷ laters_of ps (walks_after p ws)) (plays_walked inventory other h f ps (other_laters ls)) a
      (later e f (walks_after p ws) t (plays_after h p ws ∙ ap (λ b. after_first b (plays_of h ws)) a ∙ i))

  -- a host's way has what the first walk says, whatever its tables
  plays_twin : (ps : Program) (h : Name) (e f : Exit) (ls : List (List Later)) (ws : List HostWalk) → TwinExit e f → plays_of h ws ≡ plays_walked inventory views h e ps [] → plays_have h ps (laters_of ps ws) (plays_walked inventory other h f ps ls) ≡ true
  plays_twin [] h e f ls ws t i = refl
  plays_twin (p ∷ ps) h e f ls ws t i = play_step (is_among h p.hosts) h p ps e f ls ws refl t i (λ x y us u j. plays_twin ps h x y (other_laters ls) us u j)

  module _ (ps : Program) where
    -- each host of the inventory is found by its name
    abbrev AllFound : List HostWalk → List HostVariables → Type 0
    AllFound ws [] = Unit {0}
    AllFound ws (x ∷ xs) = (plays_of x.name ws ≡ plays_walked inventory views x.name (live (known_slots x.variables)) ps []) × AllFound ws xs

    not_or : (a b : Bool) → not (a || b) ≡ true → not b ≡ true
    not_or true b h = untrue h
    not_or false b h = h

    found_more : (w : HostWalk) (ws : List HostWalk) (xs : List HostVariables) → not (is_among w.host (host_names xs)) ≡ true → AllFound ws xs → AllFound (w ∷ ws) xs
    found_more w ws [] d a = tt
    found_more w ws (x ∷ xs) d a =
        let names = host_names xs in
        let apart = apart_names (bytes_eq x.name w.host) x.name w.host (x.name ∷ names) refl (or-left (bytes_eq x.name x.name) (is_among x.name names) (own_name x.name)) d in (
          not_chosen (bytes_eq x.name w.host) (λ k. k ≡ plays_walked inventory views x.name (live (known_slots x.variables)) ps []) w.plays (plays_of x.name ws) apart a.0,
          found_more w ws xs (not_or (bytes_eq w.host x.name) (is_among w.host names) d) a.1,
        )

    all_found : (xs : List HostVariables) → are_distinct (host_names xs) ≡ true → AllFound (hosts_walked inventory views ps [] xs) xs
    all_found [] d = tt
    all_found (x ∷ xs) d =
        let names = host_names xs in
        let ways = plays_walked inventory views x.name (live (known_slots x.variables)) ps [] in
        let rest = hosts_walked inventory views ps [] xs in (
          chosen (bytes_eq x.name x.name) (λ k. k ≡ ways) ways (plays_of x.name rest) (own_name x.name) refl,
          found_more (record { host = x.name; plays = ways }) rest xs (and-left (not (is_among x.name names)) (are_distinct names) d) (all_found xs (and-right (not (is_among x.name names)) (are_distinct names) d)),
        )

    hosts_twin : (xs : List HostVariables) (ls : List (List Later)) (ws : List HostWalk) → AllFound ws xs → all_have ps (laters_of ps ws) (hosts_walked inventory other ps ls xs) ≡ true
    hosts_twin [] ls ws a = refl
    hosts_twin (x ∷ xs) ls ws a =
        let env = known_slots x.variables in
        let once = (well_known_slots x.variables).0 in
        let here = plays_twin ps x.name (live env) (live env) ls ws (record { same = λ n. refl; once_here = once; once_there = once }) a.0 in
        and-both (plays_have x.name ps (laters_of ps ws) (plays_walked inventory other x.name (live env) ps ls)) (all_have ps (laters_of ps ws) (hosts_walked inventory other ps ls xs)) here (hosts_twin xs ls ws a.1)

-- what the first walk says of later places is so in the walk with each table
pub laters_hold : LatersHold
laters_hold ps inventory r d =
    let first = known_views inventory.hosts in
    let ls = found_laters ps inventory in
    let other = views_after r inventory ps ls in
    hosts_twin inventory first other ps inventory.hosts ls (all_walked inventory ps first []) (all_found inventory first other ps inventory.hosts d)
