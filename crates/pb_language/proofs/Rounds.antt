-- The tables of views are well formed, and the inventory's variables keep them.
use Rattle.std.proofs.Common.{◌≡◌, ℕ, zero, suc, List, [], ◌∷◌, ◌++◌, Bool, true, false, not, ◌||◌, cond, Option, Some, None, refl, subst, bytes_eq, true≢false}
use Rattle.pb_semantics.specs.Data.{Data, Fields, rec, field_value}
use Rattle.pb_semantics.specs.Kind.{KindData, Slots, Spot, no_slots, nowhere, spot, slot_at, recs}
use Rattle.pb_semantics.specs.Keeps.{is_among, spot_ok, Models}
use Rattle.pb_semantics.specs.Join.{join}
use Rattle.pb_semantics.specs.Well.{Well}
use Rattle.pb_semantics.proofs.Bools.{untrue, and-left, and-right, or-left, or-right, true-false}
use Rattle.pb_semantics.proofs.Names.{same_name, own_name}
use Rattle.pb_semantics.proofs.JoinWell.{joins_well}
use Rattle.pb_semantics.proofs.JoinAbove.{joins_above}
use Rattle.pb_semantics.proofs.KeepsUp.{keeps_up}
use Rattle.pb_language.specs.Expression.{Name}
use Rattle.pb_language.specs.World.{HostVariables, variables_of}
use Rattle.pb_language.specs.Scope.{with_spot, View, view_of, Later}
use Rattle.pb_language.specs.Kinds.{known_slots}
use Rattle.pb_language.specs.Task.{Task, Handlers, no_handlers, handler, Row, end, task, flush, section, block}
use Rattle.pb_language.specs.Cases.{Sets, no_sets, sets}
use Rattle.pb_language.specs.Setting.{Setting}
use Rattle.pb_language.specs.Judgement.{Exit, dead, live, live_if, has_case, has_going, going_slots, failing_slots, task_writes}
use Rattle.pb_language.specs.Cases.{failing_cases}
use Rattle.pb_language.specs.Walk.{Visit, Walked, meet, visits_at, going_from, failing_from, flush_walk, walk}
use Rattle.pb_language.specs.Program.{Inventory, Play, Program, setting_of}
use Rattle.pb_language.specs.Tables.{PlayWalk, first_laters, other_laters, plays_walked, hosts_walked, written_spot, with_writes, with_visits, with_plays, next_views, known_views, views_after}
use Rattle.pb_language.specs.Theorem.{host_names, are_distinct}
use Rattle.pb_language.specs.Wells.{WellSets, WellSpot, WellExit}
use Rattle.pb_language.proofs.Claims.{AfterClaim}
use Rattle.pb_language.proofs.WithSlot.{models_with, record_models}
use Rattle.pb_language.proofs.WellKinds.{well_slot, well_known_slots}
use Rattle.pb_language.proofs.Taught.{well_with_spot}
use Rattle.pb_language.proofs.Values.{kept_known_value}
use Rattle.pb_language.proofs.Ways.{WellEnv, meet_well, AllVisits}
use Rattle.pb_language.proofs.Seen.{apart_names}

-- each environment of a walk is well formed
abbrev pub WellVisit : Visit → Type 0
WellVisit v = WellEnv v.env × WellSets (task_writes v.setting v.visited v.env)

pub both_visits : (P : Visit → Type 0) (xs ys : List Visit) → AllVisits P xs → AllVisits P ys → AllVisits P (xs ++ ys)
both_visits P [] ys a b = b
both_visits P (x ∷ xs) ys a b = (a.0, both_visits P xs ys a.1 b)

abbrev pub WellPlays : List PlayWalk → Type 0
WellPlays [] = Unit {0}
WellPlays (w ∷ ws) = AllVisits WellVisit w.walked.visits × WellPlays ws

module _ (after_claim : AfterClaim) where
  module _ (st : Setting) (wells : (g : Name) → Well (recs (view_of g st.views))) where
    here_well : (t : Task) (e : Exit) → WellExit e → AllVisits WellVisit (visits_at st t e)
    here_well t dead w = tt
    here_well t (live env) w = ((w, (after_claim st wells t env w).2), tt)

    live_well : (q : Bool) (env : Slots) → WellEnv env → WellExit (live_if q env)
    live_well true env w = w
    live_well false env w = tt

    pub going_well : (t : Task) (e : Exit) → WellExit e → WellExit (going_from st t e)
    going_well t dead w = tt
    going_well t (live env) w = live_well (has_going t t.loop) (going_slots st t env) (after_claim st wells t env w).0

    pub failing_well : (t : Task) (e : Exit) → WellExit e → WellExit (failing_from st t e)
    failing_well t dead w = tt
    failing_well t (live env) w = live_well (has_case (failing_cases t)) (failing_slots st t env) (after_claim st wells t env w).1

    abbrev pub WellWalk : Walked → Type 0
    WellWalk w = AllVisits WellVisit w.visits × WellExit w.well × WellExit w.hurt

    pub flush_well : (hs : Handlers) (e : Exit) → WellExit e → WellWalk (flush_walk st hs e)
    flush_well no_handlers e w = (tt, w, tt)
    flush_well (handler n t hs) e w =
        let k = flush_walk st hs (meet e (going_from st t e)) in
        let r = flush_well hs (meet e (going_from st t e)) (meet_well e (going_from st t e) w (going_well t e w)) in
        (both_visits WellVisit (visits_at st t e) k.visits (here_well t e w) r.0, r.1, r.2)

    pub all_well : (row : Row) (e : Exit) → WellExit e → WellWalk (walk st row e)
    all_well end e w = (tt, w, tt)
    all_well (task t row) e w =
        let k = walk st row (going_from st t e) in
        let r = all_well row (going_from st t e) (going_well t e w) in
        (both_visits WellVisit (visits_at st t e) k.visits (here_well t e w) r.0, r.1, meet_well (failing_from st t e) k.hurt (failing_well t e w) r.2)
    all_well (flush hs row) e w =
        let x = flush_walk st hs e in
        let k = walk st row x.well in
        let a = flush_well hs e w in
        let r = all_well row x.well a.1 in
        (both_visits WellVisit x.visits k.visits a.0 r.0, r.1, r.2)
    all_well (section body hs row) e w =
        let x = walk st body e in
        let g = flush_walk st hs x.well in
        let h = flush_walk st hs x.hurt in
        let k = walk st row g.well in
        let wx = all_well body e w in
        let wg = flush_well hs x.well wx.1 in
        let wh = flush_well hs x.hurt wx.2 in
        let wk = all_well row g.well wg.1 in
        (both_visits WellVisit x.visits (g.visits ++ (h.visits ++ k.visits)) wx.0 (both_visits WellVisit g.visits (h.visits ++ k.visits) wg.0 (both_visits WellVisit h.visits k.visits wh.0 wk.0)), wk.1, wk.2)
    all_well (block d body true rescued always row) e w =
        let x = walk st body e in
        let s = walk st rescued x.hurt in
        let g = walk st always (meet x.well s.well) in
        let h = walk st always s.hurt in
        let k = walk st row g.well in
        let wx = all_well body e w in
        let ws = all_well rescued x.hurt wx.2 in
        let wg = all_well always (meet x.well s.well) (meet_well x.well s.well wx.1 ws.1) in
        let wh = all_well always s.hurt ws.2 in
        let wk = all_well row g.well wg.1 in (
          both_visits WellVisit x.visits (s.visits ++ (g.visits ++ (h.visits ++ k.visits))) wx.0
              (both_visits WellVisit s.visits (g.visits ++ (h.visits ++ k.visits)) ws.0 (both_visits WellVisit g.visits (h.visits ++ k.visits) wg.0 (both_visits WellVisit h.visits k.visits wh.0 wk.0))),
          wk.1,
          meet_well k.hurt (meet g.hurt (meet h.well h.hurt)) wk.2 (meet_well g.hurt (meet h.well h.hurt) wg.2 (meet_well h.well h.hurt wh.1 wh.2)),
        )
    all_well (block d body false rescued always row) e w =
        let x = walk st body e in
        let g = walk st always (meet x.well dead) in
        let h = walk st always x.hurt in
        let k = walk st row g.well in
        let wx = all_well body e w in
        let wg = all_well always (meet x.well dead) (meet_well x.well dead wx.1 tt) in
        let wh = all_well always x.hurt wx.2 in
        let wk = all_well row g.well wg.1 in (
          both_visits WellVisit x.visits (g.visits ++ (h.visits ++ k.visits)) wx.0 (both_visits WellVisit g.visits (h.visits ++ k.visits) wg.0 (both_visits WellVisit h.visits k.visits wh.0 wk.0)),
          wk.1,
          meet_well k.hurt (meet g.hurt (meet h.well h.hurt)) wk.2 (meet_well g.hurt (meet h.well h.hurt) wg.2 (meet_well h.well h.hurt wh.1 wh.2)),
        )

  module _ (inventory : Inventory) (views : List View) (wells : (g : Name) → Well (recs (view_of g views))) where
    plays_step : (q : Bool) (n : Name) (p : Play) (l : List Later) (e : Exit) (more : Exit → List PlayWalk) (rest : List PlayWalk) → WellExit e → ((x : Exit) → WellExit x → WellPlays (more x)) → WellPlays rest
        → WellPlays (cond q (record { play = p; walked = walk (setting_of inventory p views l n) p.row e } ∷ more (walk (setting_of inventory p views l n) p.row e).well) rest)
    plays_step true n p l e more rest w f r =
        let a = all_well (setting_of inventory p views l n) wells p.row e w in
        (a.0, f (walk (setting_of inventory p views l n) p.row e).well a.1)
    plays_step false n p l e more rest w f r = r

    pub plays_well : (ps : Program) (n : Name) (e : Exit) (ls : List (List Later)) → WellExit e → WellPlays (plays_walked inventory views n e ps ls)
    plays_well [] n e ls w = tt
    plays_well (p ∷ ps) n e ls w =
        plays_step (is_among n p.hosts) n p (first_laters ls) e (λ x. plays_walked inventory views n x ps (other_laters ls)) (plays_walked inventory views n e ps (other_laters ls)) w (λ x v. plays_well ps n x (other_laters ls) v) (plays_well ps n e (other_laters ls) w)

pub written_well : (s : Spot) (k : KindData) → WellSpot s → Well k → WellSpot (written_spot s k)
written_well nowhere k w v = v
written_well (spot a j) k w v = joins_well j k w v

written_ok : (o : Option Data) (s : Spot) (k : KindData) → WellSpot s → Well k → spot_ok o s ≡ true → spot_ok o (written_spot s k) ≡ true
written_ok None nowhere k w v h = refl
written_ok None (spot a j) k w v h = h
written_ok (Some d) nowhere k w v h = untrue h
written_ok (Some d) (spot a j) k w v h = keeps_up d j (join j k) (joins_above j k w v).0 h

-- a view with writes joined to it is well formed
pub writes_well : (w : Sets) (ss : Slots) → WellSets w → Well (recs ss) → Well (recs (with_writes w ss))
writes_well no_sets ss u v = v
writes_well (sets n a k r) ss u v = writes_well r (with_spot n (written_spot (slot_at n ss) k) ss) u.1 (well_with_spot n (written_spot (slot_at n ss) k) ss (written_well (slot_at n ss) k (well_slot n ss v.1) u.0) v)

visits_well : (vs : List Visit) (ss : Slots) → AllVisits WellVisit vs → Well (recs ss) → Well (recs (with_visits vs ss))
visits_well [] ss a w = w
visits_well (v ∷ vs) ss a w = visits_well vs (with_writes (task_writes v.setting v.visited v.env) ss) a.1 (writes_well (task_writes v.setting v.visited v.env) ss a.0.1 w)

pub rounds_well : (ws : List PlayWalk) (ss : Slots) → WellPlays ws → Well (recs ss) → Well (recs (with_plays ws ss))
rounds_well [] ss a w = w
rounds_well (x ∷ ws) ss a w = rounds_well ws (with_visits x.walked.visits ss) a.1 (visits_well x.walked.visits ss a.0 w)

-- and has what it had
writes_models : (w : Sets) (vars : Fields) (ss : Slots) → WellSets w → Well (recs ss) → Models vars ss → Models vars (with_writes w ss)
writes_models no_sets vars ss u v m = m
writes_models (sets n a k r) vars ss u v m =
    let z = written_spot (slot_at n ss) k in
    writes_models r vars (with_spot n z ss) u.1 (well_with_spot n z ss (written_well (slot_at n ss) k (well_slot n ss v.1) u.0) v)
    (models_with n vars ss z m (written_ok (field_value n vars) (slot_at n ss) k (well_slot n ss v.1) u.0 (m.at n)))

visits_models : (vs : List Visit) (vars : Fields) (ss : Slots) → AllVisits WellVisit vs → Well (recs ss) → Models vars ss → Models vars (with_visits vs ss)
visits_models [] vars ss a w m = m
visits_models (v ∷ vs) vars ss a w m =
    visits_models vs vars (with_writes (task_writes v.setting v.visited v.env) ss) a.1 (writes_well (task_writes v.setting v.visited v.env) ss a.0.1 w) (writes_models (task_writes v.setting v.visited v.env) vars ss a.0.1 w m)

pub rounds_models : (ws : List PlayWalk) (vars : Fields) (ss : Slots) → WellPlays ws → Well (recs ss) → Models vars ss → Models vars (with_plays ws ss)
rounds_models [] vars ss a w m = m
rounds_models (x ∷ ws) vars ss a w m = rounds_models ws vars (with_visits x.walked.visits ss) a.1 (visits_well x.walked.visits ss a.0 w) (visits_models x.walked.visits vars ss a.0 w m)

-- the view of a host after a round
view_step : (q : Bool) (Q : Slots → Type 0) (a b : Slots) → (q ≡ true → Q a) → (q ≡ false → Q b) → Q (cond q a b)
view_step true Q a b f g = f refl
view_step false Q a b f g = g refl

other_name : (q b : Bool) → q ≡ false → b ≡ false → q || b ≡ false
other_name true b e i = e
other_name false b e i = i

later_false : (q b : Bool) → q || b ≡ false → (q ≡ false) × (b ≡ false)
later_false true b e = absurd (true≢false e)
later_false false b e = (refl, e)

pub next_view : (inventory : Inventory) (views vs : List View) (ps : Program) (ls : List (List Later)) (Q : Slots → Type 0) (g : Name) (xs : List HostVariables) → (is_among g (host_names xs) ≡ false → Q no_slots)
    → ((x : HostVariables) → g ≡ x.name → Q (with_plays (plays_walked inventory views x.name (live (known_slots x.variables)) ps ls) (view_of x.name vs))) → Q (view_of g (next_views (hosts_walked inventory views ps ls xs) vs))
next_view inventory views vs ps ls Q g [] f h = f refl
next_view inventory views vs ps ls Q g (x ∷ xs) f h =
    view_step (bytes_eq g x.name) Q (with_plays (plays_walked inventory views x.name (live (known_slots x.variables)) ps ls) (view_of x.name vs)) (view_of g (next_views (hosts_walked inventory views ps ls xs) vs))
    (λ e. h x (same_name g x.name e)) (λ e. next_view inventory views vs ps ls Q g xs (λ i. f (other_name (bytes_eq g x.name) (is_among g (host_names xs)) e i)) h)

known_view : (Q : Slots → Type 0) (g : Name) (xs : List HostVariables) → Q no_slots → ((x : HostVariables) → Q (known_slots x.variables)) → Q (view_of g (known_views xs))
known_view Q g [] f h = f
known_view Q g (x ∷ xs) f h = view_step (bytes_eq g x.name) Q (known_slots x.variables) (view_of g (known_views xs)) (λ e. h x) (λ e. known_view Q g xs f h)

module _ (after_claim : AfterClaim) (inventory : Inventory) (ps : Program) (ls : List (List Later)) where
  -- each table is well formed
  pub views_well : (r : ℕ) (g : Name) → Well (recs (view_of g (views_after r inventory ps ls)))
  views_well zero g = known_view (λ ss. Well (recs ss)) g inventory.hosts (refl, tt) (λ x. well_known_slots x.variables)
  views_well (suc r) g =
      let views = views_after r inventory ps ls in
      next_view inventory views views ps ls (λ ss. Well (recs ss)) g inventory.hosts (λ i. (refl, tt))
      (λ x i. rounds_well (plays_walked inventory views x.name (live (known_slots x.variables)) ps ls) (view_of x.name views)
      (plays_well after_claim inventory views (λ h. views_well r h) ps x.name (live (known_slots x.variables)) ls (well_known_slots x.variables)) (views_well r x.name))

-- a name of no host has no view
absent_at : (q : Bool) (a b : Slots) → q ≡ false → b ≡ no_slots → cond q a b ≡ no_slots
absent_at true a b e i = absurd (true≢false e)
absent_at false a b e i = i

pub absent_next : (inventory : Inventory) (views vs : List View) (ps : Program) (ls : List (List Later)) (g : Name) (xs : List HostVariables) → is_among g (host_names xs) ≡ false → view_of g (next_views (hosts_walked inventory views ps ls xs) vs) ≡ no_slots
absent_next inventory views vs ps ls g [] i = refl
absent_next inventory views vs ps ls g (x ∷ xs) i =
    let e = later_false (bytes_eq g x.name) (is_among g (host_names xs)) i in
    absent_at (bytes_eq g x.name) _ (view_of g (next_views (hosts_walked inventory views ps ls xs) vs)) e.0 (absent_next inventory views vs ps ls g xs e.1)

-- the host of a number
abbrev pub variables_at : ℕ → List HostVariables → Option HostVariables
variables_at k [] = None
variables_at zero (x ∷ xs) = Some x
variables_at (suc k) (x ∷ xs) = variables_at k xs

pub at_named : (k : ℕ) (xs : List HostVariables) (x : HostVariables) → variables_at k xs ≡ Some x → is_among x.name (host_names xs) ≡ true
at_named k [] x e = absurd (true≢false (cc))
at_named zero (y ∷ xs) x e = let j : y ≡ x = cc in subst (λ z. is_among z.name (y.name ∷ host_names xs) ≡ true) j (or-left (bytes_eq y.name y.name) (is_among y.name (host_names xs)) (own_name y.name))
at_named (suc k) (y ∷ xs) x e = or-right (bytes_eq x.name y.name) (is_among x.name (host_names xs)) (at_named k xs x e)

other_at : (k : ℕ) (y x : HostVariables) (xs : List HostVariables) → are_distinct (host_names (y ∷ xs)) ≡ true → variables_at k xs ≡ Some x → bytes_eq x.name y.name ≡ false
other_at k y x xs d e = apart_names (bytes_eq x.name y.name) x.name y.name (host_names xs) refl (at_named k xs x e) (and-left (not (is_among y.name (host_names xs))) (are_distinct (host_names xs)) d)

-- of hosts with names of their own each is found by its name
pub found_at : (k : ℕ) (xs : List HostVariables) (x : HostVariables) → are_distinct (host_names xs) ≡ true → variables_at k xs ≡ Some x → variables_of x.name xs ≡ x.variables
found_at k [] x d e = absurd (true≢false (cc))
found_at zero (y ∷ xs) x d e = let j : y ≡ x = cc in subst (λ z. variables_of z.name (y ∷ xs) ≡ z.variables) j (rw (own_name y.name) refl)
found_at (suc k) (y ∷ xs) x d e = rw (other_at k y x xs d e) (found_at k xs x (and-right (not (is_among y.name (host_names xs))) (are_distinct (host_names xs)) d) e)

known_at : (k : ℕ) (xs : List HostVariables) (x : HostVariables) → are_distinct (host_names xs) ≡ true → variables_at k xs ≡ Some x → view_of x.name (known_views xs) ≡ known_slots x.variables
known_at k [] x d e = absurd (true≢false (cc))
known_at zero (y ∷ xs) x d e = let j : y ≡ x = cc in subst (λ z. view_of z.name (known_views (y ∷ xs)) ≡ known_slots z.variables) j (rw (own_name y.name) refl)
known_at (suc k) (y ∷ xs) x d e = rw (other_at k y x xs d e) (known_at k xs x (and-right (not (is_among y.name (host_names xs))) (are_distinct (host_names xs)) d) e)

-- what is known of an inventory's variables is so
pub known_models : (fs : Fields) → Models fs (known_slots fs)
known_models fs = record_models fs (known_slots fs) (kept_known_value (rec fs))

module _ (after_claim : AfterClaim) (inventory : Inventory) (ps : Program) (ls : List (List Later)) (distinct : are_distinct (host_names inventory.hosts) ≡ true) where
  -- the inventory's variables keep each table
  pub views_models : (r k : ℕ) (x : HostVariables) → variables_at k inventory.hosts ≡ Some x → Models x.variables (view_of x.name (views_after r inventory ps ls))
  views_models zero k x e = rw (known_at k inventory.hosts x distinct e) (known_models x.variables)
  views_models (suc r) k x e =
      let views = views_after r inventory ps ls in
      let wells = views_well after_claim inventory ps ls r in
      next_view inventory views views ps ls (λ ss. Models x.variables ss) x.name inventory.hosts (λ i. true-false (is_among x.name (host_names inventory.hosts)) (at_named k inventory.hosts x e) i)
      (λ y i. rounds_models (plays_walked inventory views y.name (live (known_slots y.variables)) ps ls) x.variables (view_of y.name views)
      (plays_well after_claim inventory views wells ps y.name (live (known_slots y.variables)) ls (well_known_slots y.variables)) (wells y.name) (subst (λ n. Models x.variables (view_of n views)) i (views_models r k x e)))
