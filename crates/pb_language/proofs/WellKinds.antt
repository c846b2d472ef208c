-- The kinds of expressions are well formed where those of the scope are.
use Rattle.std.proofs.Common.{◌≡◌, List, [], ◌∷◌, Bool, true, false, ◌&&◌, ◌||◌, cond, bytes_eq, Option, Some, None, unwrap_or, codes, refl}
use Rattle.pb_semantics.specs.Data.{Data, Items, Fields, null, boolean, int, text, list, rec, opaque, no_items, item, no_fields, field}
use Rattle.pb_semantics.specs.Kind.{KindData, Slots, Cases, Spot, never, recs, results, anything, no_slots, slot, no_cases, one, nowhere, spot, slot_at}
use Rattle.pb_semantics.specs.Keeps.{is_among}
use Rattle.pb_semantics.specs.Below.{below, all_cases}
use Rattle.pb_semantics.specs.Join.{join, join_spot}
use Rattle.pb_semantics.specs.Well.{Well, WellSlots, WellCases, is_record, is_record_or_never}
use Rattle.pb_semantics.proofs.Bools.{untrue, and-left, and-right, and-both}
use Rattle.pb_semantics.proofs.Through.{never_below}
use Rattle.pb_semantics.proofs.JoinAbove.{joins_above, below_all}
use Rattle.pb_semantics.proofs.JoinLeast.{joins_least}
use Rattle.pb_semantics.proofs.JoinWell.{joins_well}
use Rattle.pb_language.specs.Expression.{Name, Expression, literal, path, path_or, value_or, list_of, record_of, Root, variable, alias, other, member, Expressions, no_expressions, expression, Parts, no_parts, part, Term, named_host, this_host, item_host, group_member}
use Rattle.pb_language.specs.World.{member_of}
use Rattle.pb_language.specs.Scope.{Scope, Hosts, these, any_host, no_hosts, nobody, is_present, is_certain, below_spot, unnamed, sure, view_of, later_of, is_later, learned_kind, own_spot, view_spot, hosts_of, host_spot, each_spot, spot_among, taught_spot, other_spot}
use Rattle.pb_language.specs.Kinds.{known_kind, known_items, known_slots, step_spot, path_spot, member_spot, shown_spot, default_kind, kind_of, root_spot, items_kind, parts_slots}
use Rattle.pb_language.specs.Narrow.{least_record, results_of}
use Rattle.pb_language.specs.Knows.{WellScope}
use Rattle.pb_language.specs.Wells.{WellSpot}
use Rattle.pb_language.proofs.WithSlot.{well_with}

well_slot_step : (q : Bool) (a : Bool) (k : KindData) (s : Spot) → Well k → WellSpot s → WellSpot (cond q (spot a k) s)
well_slot_step true a k s w v = w
well_slot_step false a k s w v = v

pub well_slot : (n : Name) (ss : Slots) → WellSlots ss → WellSpot (slot_at n ss)
well_slot n no_slots w = tt
well_slot n (slot m a k ss) w = well_slot_step (bytes_eq n m) a k (slot_at n ss) w.0 (well_slot n ss w.1)

pub well_meet : (s t : Spot) → WellSpot s → WellSpot t → WellSpot (join_spot s t)
well_meet nowhere nowhere w v = tt
well_meet nowhere (spot b m) w v = v
well_meet (spot a k) nowhere w v = w
well_meet (spot a k) (spot b m) w v = joins_well k m w v

pub well_step : (n : Name) (k : KindData) → Well k → WellSpot (step_spot n k)
well_step n never w = tt
well_step n (recs ss) w = well_slot n ss w.1
well_step n (results cs never) w = tt
well_step n (results cs (recs ss)) w = well_slot n ss w.1.1
well_step n anything w = tt
well_step n k w = tt

pub well_below : (a : Bool) (s : Spot) → WellSpot s → WellSpot (below_spot a s)
well_below a nowhere w = tt
well_below a (spot b k) w = w

pub well_path : (ns : List Name) (s : Spot) → WellSpot s → WellSpot (path_spot ns s)
well_path [] s w = w
well_path (n ∷ ns) nowhere w = tt
well_path (n ∷ ns) (spot a k) w = well_path ns (below_spot a (step_spot n k)) (well_below a (step_spot n k) (well_step n k w))

-- the least record above the cases
least_known : (cs : Cases) → WellCases cs → is_record_or_never (least_record cs) ≡ true
least_known no_cases w = refl
least_known (one m sh fl k cs) w = known_join k (least_record cs) w.0 (least_known cs w.2) where
  known_join : (k r : KindData) → is_record k ≡ true → is_record_or_never r ≡ true → is_record_or_never (join k r) ≡ true
  known_join (recs ss) never h i = refl
  known_join (recs ss) (recs ts) h i = refl
  known_join (recs ss) r h i = untrue i
  known_join k r h i = untrue h

pub well_least : (cs : Cases) → WellCases cs → Well (least_record cs)
well_least no_cases w = tt
well_least (one m sh fl k cs) w = joins_well k (least_record cs) w.1 (well_least cs w.2)

least_above : (cs : Cases) → WellCases cs → all_cases (λ m sh fl k. below k (least_record cs)) cs ≡ true
least_above no_cases w = refl
least_above (one m sh fl k cs) w =
    let both = joins_above k (least_record cs) w.1 (well_least cs w.2) in
    and-both (below k (join k (least_record cs))) (all_cases (λ m sh fl j. below j (join k (least_record cs))) cs) both.0
    (below_all cs (least_record cs) (join k (least_record cs)) w.2 (least_above cs w.2) both.1)

least_least : (cs : Cases) (h : KindData) → WellCases cs → all_cases (λ m sh fl k. below k h) cs ≡ true → below (least_record cs) h ≡ true
least_least no_cases h w x = never_below h
least_least (one m sh fl k cs) h w x =
    let later = all_cases (λ m sh fl k. below k h) cs in
    joins_least k (least_record cs) h w.1 (well_least cs w.2) (and-left (below k h) later x) (least_least cs h w.2 (and-right (below k h) later x))

pub well_results : (cs : Cases) → WellCases cs → Well (results_of cs)
well_results cs w = (w, well_least cs w, record { known = least_known cs w; above = least_above cs w; least = λ h x. least_least cs h w x })

-- the kind of a value that is known
mutual
  pub well_known : (d : Data) → Well (known_kind d)
  well_known null = tt
  well_known (boolean b) = tt
  well_known (int z) = tt
  well_known (text s) = tt
  well_known (list ds) = well_known_items ds
  well_known (rec fs) = well_known_slots fs
  well_known opaque = tt

  pub well_known_items : (ds : Items) → Well (known_items ds)
  well_known_items no_items = tt
  well_known_items (item d ds) = joins_well (known_kind d) (known_items ds) (well_known d) (well_known_items ds)

  pub well_known_slots : (fs : Fields) → Well (recs (known_slots fs))
  well_known_slots no_fields = (refl, tt)
  well_known_slots (field n d fs) = well_with n true (known_kind d) (known_slots fs) (well_known d) (well_known_slots fs)

pub well_member : (o : Option Name) → WellSpot (member_spot o)
well_member None = tt
well_member (Some h) = tt

pub well_shown : (q : Bool) (s : Spot) → WellSpot s → WellSpot (shown_spot q s)
well_shown true nowhere w = tt
well_shown true (spot a k) w = w
well_shown false s w = w

pub well_default : (s : Spot) (m : KindData) → WellSpot s → Well m → Well (default_kind s m)
well_default nowhere m w v = v
well_default (spot true k) m w v = w
well_default (spot false k) m w v = joins_well k m w v

-- what is known of the variables of hosts
well_sure : (q : Bool) (s : Spot) → WellSpot s → WellSpot (cond q (sure s) s)
well_sure true nowhere w = tt
well_sure true (spot a k) w = w
well_sure false s w = w

well_taught : (s t : Spot) → WellSpot s → WellSpot t → WellSpot (taught_spot s t)
well_taught nowhere t w v = v
well_taught (spot a k) t w v = w

pub well_own : (c : Scope) (x : Name) → WellScope c → WellSpot (own_spot c x)
well_own c x w = well_taught (slot_at x c.own_slots) (slot_at x c.own) (well_slot x c.own_slots w.own_slots.1) (well_slot x c.own w.own.1)

well_view : (c : Scope) (x g : Name) → WellScope c → WellSpot (view_spot c x g)
well_view c x g w = well_taught (slot_at x (view_of g c.views)) (slot_at x (view_of g c.table)) (well_slot x (view_of g c.views) ((w.views g).1)) (well_slot x (view_of g c.table) ((w.table g).1))

pub well_host : (c : Scope) (on : Bool) (x g : Name) → WellScope c → WellSpot (host_spot c on x g)
well_host c on x g w =
    well_sure ((on || is_among g c.active) && is_later (later_of g c.laters) c.place x) (view_spot c x g) (well_view c x g w)

pub well_each_host : (c : Scope) (on : Bool) (x : Name) (gs : List Name) → WellScope c → WellSpot (each_spot c on x gs)
well_each_host c on x [] w = tt
well_each_host c on x (g ∷ gs) w = well_meet (host_spot c on x g) (each_spot c on x gs) (well_host c on x g w) (well_each_host c on x gs w)

well_among : (c : Scope) (on : Bool) (x : Name) (gs : Hosts) → WellScope c → WellSpot (spot_among c on x gs)
well_among c on x (these gs) w = well_each_host c on x gs w
well_among c on x any_host w = tt
well_among c on x no_hosts w = tt
well_among c on x nobody w = tt

pub well_unnamed : (c : Scope) → WellScope c → WellScope (unnamed c)
well_unnamed c w = record { own = w.own; table = w.table; own_slots = w.own_slots; views = λ g. (refl, tt); learned = w.learned; item_slots = w.item_slots }

pub well_other : (c : Scope) (t : Term) (x : Name) → WellScope c → WellSpot (other_spot c t x)
well_other c (named_host n) x w = well_among c false x (hosts_of c (named_host n)) w
well_other c this_host x w = well_among c false x (hosts_of c this_host) w
well_other c item_host x w =
    let s = slot_at x c.item_slots in
    let t = spot_among (unnamed c) c.item_active x (hosts_of c item_host) in
    well_below (is_certain (own_spot c (codes "item"))) (taught_spot s t) (well_taught s t (well_slot x c.item_slots w.item_slots.1) (well_among (unnamed c) c.item_active x (hosts_of c item_host) (well_unnamed c w)))
well_other c (group_member g n) x w = well_among c false x (hosts_of c (group_member g n)) w

well_alias : (o : Option KindData) (m : KindData) → ((k : KindData) → o ≡ Some k → Well k) → Well m → Well (unwrap_or o m)
well_alias None m f v = v
well_alias (Some k) m f v = f k refl

module _ (c : Scope) (w : WellScope c) where
  mutual
    pub well_kind : (e : Expression) → Well (kind_of c e)
    well_kind (literal d) = well_known d
    well_kind (path r ns) = well_path ns (root_spot c r) (well_root r)
    well_kind (path_or r ns e) =
        let s = path_spot ns (root_spot c r) in
        let q = is_present c r ns in
        well_default (shown_spot q s) (kind_of c e) (well_shown q s (well_path ns (root_spot c r) (well_root r))) (well_kind e)
    well_kind (value_or a e) = well_kind a
    well_kind (list_of es) = well_items es
    well_kind (record_of ps) = well_parts ps
    well_kind e = tt

    pub well_root : (r : Root) → WellSpot (root_spot c r)
    well_root (variable n) = well_own c n w
    well_root (alias n e) = well_alias (learned_kind n e c.learned) (kind_of c e) (w.learned n e) (well_kind e)
    well_root (other t x) = well_other c t x w
    well_root (member g n) = well_member (member_of g n c.groups)

    pub well_items : (es : Expressions) → Well (items_kind c es)
    well_items no_expressions = tt
    well_items (expression e es) = joins_well (kind_of c e) (items_kind c es) (well_kind e) (well_items es)

    pub well_parts : (ps : Parts) → Well (recs (parts_slots c ps))
    well_parts no_parts = (refl, tt)
    well_parts (part n e ps) = well_with n true (kind_of c e) (parts_slots c ps) (well_kind e) (well_parts ps)

pub kinds_are_well : (c : Scope) (e : Expression) → WellScope c → Well (kind_of c e)
kinds_are_well c e w = well_kind c w e
