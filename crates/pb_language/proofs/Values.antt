-- A value of an expression keeps the expression's kind.
use Rattle.std.proofs.Common.{◌≡◌, ℕ, ℤ, suc, List, [], ◌∷◌, ◌++◌, Bool, true, false, ◌&&◌, ◌||◌, cond, nat_le, bytes_eq, Option, Some, None, is_some, unwrap_or, ⊎_elim, codes, refl, sym, ap, ◌∙◌, int_le, int_lt, arith}
use Rattle.std.proofs.lemmas.Bool.Decides.{nat_tests}
use Rattle.pb_semantics.specs.Data.{Data, Items, Fields, null, boolean, int, text, list, rec, opaque, no_items, item, no_fields, field, field_value, count_of}
use Rattle.pb_semantics.specs.Kind.{KindData, Slots, Spot, booleans, ints, texts, hosts, lists, recs, anything, nowhere, spot, slot_at}
use Rattle.pb_semantics.specs.Keeps.{flag_is, is_among, all_items, keeps, spot_ok}
use Rattle.pb_semantics.specs.Equal.{data_eq, is_item}
use Rattle.pb_semantics.specs.Join.{join, join_spot}
use Rattle.pb_semantics.specs.Render.{is_plain, rendered}
use Rattle.pb_semantics.specs.Well.{Well}
use Rattle.pb_semantics.proofs.Bools.{untrue, and-left, and-right, and-both, or-left, or-cases}
use Rattle.pb_semantics.proofs.Names.{same_name, own_name}
use Rattle.pb_language.specs.Expression.{Name, Comparison, equal, less, at_most, more, at_least, Status, Term, named_host, this_host, item_host, group_member, Expression, literal, path, hostvars_alone, negation, conjunction, disjunction, comparison, membership, in_batch, defined, undefinable, path_status, value_status, path_or, value_or, length_of, joined_by, concatenation, list_of, record_of, Root, variable, alias, other, member, Expressions, no_expressions, expression, Parts, no_parts, part}
use Rattle.pb_language.specs.World.{World, variables_of, member_of}
use Rattle.pb_language.specs.Evaluation.{Stuck, undefined, wrong_sort, Outcome, value, stuck, Look, there, absent, failing, host_named, then_go, or_stuck, found, readable, name_in, member_named, member_text, host_of, look_there, read, is_there, only_boolean, negated, and_then, or_then, holds_opaque, any_item_opaque, ordered, compared, found_in, is_text_among, member_among, is_active, has_statuses, status_name, status_of, counted, plain_text, with_text, joined_items, joined, put_item, put_part, given, eval, look, eval_all, eval_any, eval_text, eval_items, eval_parts}
use Rattle.pb_language.specs.Scope.{Scope, with_slot, named_term, resolved, is_present, is_certain, below_spot, unnamed, sure, view_of, later_of, is_later, learned_kind, hosts_at, hosts_of, only, own_spot, view_spot, host_spot, each_spot, spot_among, taught_spot, other_spot}
use Rattle.pb_language.specs.Kinds.{known_kind, known_items, known_slots, member_spot, kind_of, root_spot, items_kind, parts_slots, count}
use Rattle.pb_language.specs.Knows.{WellScope, Knows, ValueKeepsKind}
use Rattle.pb_language.proofs.WithSlot.{kept_written}
use Rattle.pb_language.proofs.WellKinds.{well_unnamed, well_path, well_known, well_known_items, well_known_slots, well_host, well_each_host, well_kind, well_root, well_items, well_parts}
use Rattle.pb_language.proofs.Paths.{not-second, keeps_first, keeps_second, meets_first, meets_second, look_ok, found_ok, kept_if, kept_read, kept_shown}

-- an item more
longer : (n m : ℕ) → nat_le n m ≡ true → nat_le (suc n) (suc m) ≡ true
longer n m h = grind (arith, nat_tests)

each_item : (f g : Data → Bool) (ds : Items) → ((d : Data) → f d ≡ true → g d ≡ true) → all_items f ds ≡ true → all_items g ds ≡ true
each_item f g no_items u h = refl
each_item f g (item d ds) u h = and-both (g d) (all_items g ds) (u d (and-left (f d) (all_items f ds) h)) (each_item f g ds u (and-right (f d) (all_items f ds) h))

pub kept_item : (d : Data) (ds : Items) (k m : KindData) (n : ℕ) → Well k → Well m → keeps d k ≡ true → keeps (list ds) (lists m n) ≡ true → keeps (list (item d ds)) (lists (join k m) (suc n)) ≡ true
kept_item d ds k m n w v h i =
    let short = nat_le (count_of ds) n in
    let items = all_items (λ e. keeps e m) ds in
    and-both (nat_le (suc (count_of ds)) (suc n)) (keeps d (join k m) && all_items (λ e. keeps e (join k m)) ds) (longer (count_of ds) n (and-left short items i))
    (and-both (keeps d (join k m)) (all_items (λ e. keeps e (join k m)) ds) (keeps_first d k m w v h)
    (each_item (λ e. keeps e m) (λ e. keeps e (join k m)) ds (λ e j. keeps_second e k m w v j) (and-right short items i)))

-- a value that is known keeps its kind
mutual
  pub kept_known_value : (d : Data) → keeps d (known_kind d) ≡ true
  kept_known_value null = refl
  kept_known_value (boolean b) = refl
  kept_known_value (int z) = refl
  kept_known_value (text s) = refl
  kept_known_value (list ds) = kept_known_items ds
  kept_known_value (rec fs) = kept_known_fields fs
  kept_known_value opaque = refl

  kept_known_items : (ds : Items) → keeps (list ds) (lists (known_items ds) (count_of ds)) ≡ true
  kept_known_items no_items = refl
  kept_known_items (item d ds) = kept_item d ds (known_kind d) (known_items ds) (count_of ds) (well_known d) (well_known_items ds) (kept_known_value d) (kept_known_items ds)

  kept_known_fields : (fs : Fields) → keeps (rec fs) (recs (known_slots fs)) ≡ true
  kept_known_fields no_fields = refl
  kept_known_fields (field n d fs) = kept_written n d fs true (known_kind d) (known_slots fs) (well_known_slots fs).0 (kept_known_fields fs) (kept_known_value d)

-- what is known of the variables of hosts
sure_ok : (q : Bool) (o : Option Data) (s : Spot) → (q ≡ true → is_some o ≡ true) → spot_ok o s ≡ true → spot_ok o (cond q (sure s) s) ≡ true
sure_ok true None s f h = untrue (f refl)
sure_ok true (Some d) nowhere f h = untrue h
sure_ok true (Some d) (spot a k) f h = h
sure_ok false o s f h = h

taught_ok : (o : Option Data) (s t : Spot) → ((a : Bool) (k : KindData) → s ≡ spot a k → spot_ok o (spot a k) ≡ true) → spot_ok o t ≡ true → spot_ok o (taught_spot s t) ≡ true
taught_ok o nowhere t f h = h
taught_ok o (spot a k) t f h = f a k refl

pub own_ok : (w : World) (c : Scope) (x : Name) → Knows w c → spot_ok (field_value x w.mine) (own_spot c x) ≡ true
own_ok w c x m = taught_ok (field_value x w.mine) (slot_at x c.own_slots) (slot_at x c.own) (λ a k h. m.own_slots x a k h) (m.own.at x)

view_ok : (w : World) (c : Scope) (x g : Name) → Knows w c → spot_ok (field_value x (variables_of g w.hosts)) (view_spot c x g) ≡ true
view_ok w c x g m = taught_ok (field_value x (variables_of g w.hosts)) (slot_at x (view_of g c.views)) (slot_at x (view_of g c.table)) (λ a k h. m.views g x a k h) ((m.table g).at x)

pub host_ok : (w : World) (c : Scope) (on : Bool) (x g : Name) → Knows w c → (on ≡ true → is_among g w.batch ≡ true) → spot_ok (field_value x (variables_of g w.hosts)) (host_spot c on x g) ≡ true
host_ok w c on x g m f =
    let active = on || is_among g c.active in
    let later = is_later (later_of g c.laters) c.place x in
    sure_ok (active && later) (field_value x (variables_of g w.hosts)) (view_spot c x g)
    (λ e. m.later g (⊎_elim (λ y. f y) (λ z. m.active g z) (or-cases on (is_among g c.active) (and-left active later e))) x (and-right active later e)) (view_ok w c x g m)

each_ok_step : (q : Bool) (g h : Name) (c : Scope) (on : Bool) (x : Name) (gs : List Name) (o : Option Data) → WellScope c → bytes_eq g h ≡ q → q || is_among g gs ≡ true
    → (is_among g gs ≡ true → spot_ok o (each_spot c on x gs) ≡ true) → spot_ok o (host_spot c on x g) ≡ true → spot_ok o (join_spot (host_spot c on x h) (each_spot c on x gs)) ≡ true
each_ok_step true g h c on x gs o w e i f ok = rw (← same_name g h e) (meets_first o (host_spot c on x g) (each_spot c on x gs) (well_host c on x g w) (well_each_host c on x gs w) ok)
each_ok_step false g h c on x gs o w e i f ok = meets_second o (host_spot c on x h) (each_spot c on x gs) (well_host c on x h w) (well_each_host c on x gs w) (f i)

-- whichever of the hosts is meant
pub each_ok : (c : Scope) (on : Bool) (x g : Name) (gs : List Name) (o : Option Data) → WellScope c → is_among g gs ≡ true → spot_ok o (host_spot c on x g) ≡ true → spot_ok o (each_spot c on x gs) ≡ true
each_ok c on x g [] o w i h = untrue i
each_ok c on x g (n ∷ gs) o w i h = each_ok_step (bytes_eq g n) g n c on x gs o w refl i (λ j. each_ok c on x g gs o w j h) h

one_ok : (w : World) (c : Scope) (x g h : Name) → Knows w c → h ≡ g → look_ok (found (field_value x (variables_of h w.hosts))) (each_spot c false x (g ∷ [])) ≡ true
one_ok w c x g h m e =
    rw e (found_ok (field_value x (variables_of g w.hosts)) (each_spot c false x (g ∷ []))
    (each_ok c false x g (g ∷ []) (field_value x (variables_of g w.hosts)) m.well (or-left (bytes_eq g g) false (own_name g)) (host_ok w c false x g m (λ y. untrue y))))

member_ok : (w : World) (c : Scope) (x : Name) (o : Option Name) → Knows w c → look_ok (look_there w x (member_named o)) (spot_among c false x (only o)) ≡ true
member_ok w c x None m = refl
member_ok w c x (Some g) m = one_ok w c x g g m refl

among_ok : (c : Scope) (on : Bool) (x g : Name) (s : Spot) (o : Option Data) → WellScope c → spot_ok (Some (text g)) s ≡ true → spot_ok o (host_spot c on x g) ≡ true → spot_ok o (spot_among c on x (hosts_at s)) ≡ true
among_ok c on x g nowhere o w i h = untrue i
among_ok c on x g (spot a (hosts ns)) o w i h = each_ok c on x g ns o w i h
among_ok c on x g (spot a texts) None w i h = refl
among_ok c on x g (spot a texts) (Some d) w i h = refl
among_ok c on x g (spot a anything) None w i h = refl
among_ok c on x g (spot a anything) (Some d) w i h = refl
among_ok c on x g (spot a k) o w i h = untrue i

below_ok : (o : Option Data) (a : Bool) (s : Spot) → spot_ok o s ≡ true → spot_ok o (below_spot a s) ≡ true
below_ok None a nowhere h = refl
below_ok None a (spot b k) h = not-second a b h
below_ok (Some d) a nowhere h = untrue h
below_ok (Some d) a (spot b k) h = h

-- where the item may be missing nothing is certain
missing_below : (s t : Spot) → spot_ok None s ≡ true → spot_ok None (below_spot (is_certain s) t) ≡ true
missing_below s nowhere h = refl
missing_below nowhere (spot b k) h = refl
missing_below (spot true j) (spot b k) h = untrue h
missing_below (spot false j) (spot b k) h = refl

knows_unnamed : (w : World) (c : Scope) → Knows w c → Knows w (unnamed c)
knows_unnamed w c m = record {
  well = well_unnamed c m.well;
  this = m.this;
  groups = m.groups;
  own = m.own;
  table = m.table;
  own_slots = m.own_slots;
  views = λ g x a k h. absurd (cc);
  learned = m.learned;
  present = m.present;
  active = λ g h. untrue h;
  item_slots = m.item_slots;
  item_active = m.item_active;
  later = m.later;
}

item_ok : (w : World) (c : Scope) (x : Name) (o : Option Data) → Knows w c → field_value (codes "item") w.mine ≡ o → look_ok (look_there w x (name_in o)) (other_spot c item_host x) ≡ true
item_ok w c x None m e =
    let s = own_spot c (codes "item") in
    missing_below s (taught_spot (slot_at x c.item_slots) (spot_among (unnamed c) c.item_active x (hosts_of c item_host))) (rw e at (own_ok w c (codes "item") m))
item_ok w c x (Some (text g)) m e =
    let there = field_value x (variables_of g w.hosts) in
    let among = among_ok (unnamed c) c.item_active x g (own_spot c (codes "item")) there (well_unnamed c m.well) (rw e at (own_ok w c (codes "item") m)) (host_ok w (unnamed c) c.item_active x g (knows_unnamed w c m) (λ y. m.item_active y g e)) in
    let taught = taught_ok there (slot_at x c.item_slots) (spot_among (unnamed c) c.item_active x (hosts_of c item_host)) (λ a k i. m.item_slots g e x a k i) among in
    found_ok there (other_spot c item_host x) (below_ok there (is_certain (own_spot c (codes "item"))) (taught_spot (slot_at x c.item_slots) (spot_among (unnamed c) c.item_active x (hosts_of c item_host))) taught)
item_ok w c x (Some d) m e = refl

pub other_ok : (w : World) (c : Scope) (t : Term) (x : Name) → Knows w c → look_ok (look_there w x (host_of w t)) (other_spot c t x) ≡ true
other_ok w c (named_host n) x m = one_ok w c x n n m refl
other_ok w c this_host x m = one_ok w c x c.this w.this m m.this
other_ok w c item_host x m = item_ok w c x (field_value (codes "item") w.mine) m refl
other_ok w c (group_member g n) x m = rw (ap (λ gs. member_of g n gs) m.groups) (member_ok w c x (member_of g n c.groups) m)

readable_ok : (o : Outcome) (k : Option KindData) (m : KindData) → ((d : Data) (j : KindData) → k ≡ Some j → o ≡ value d → keeps d j ≡ true) → kept_if o m ≡ true → look_ok (readable o) (spot true (unwrap_or k m)) ≡ true
readable_ok (value opaque) k m f h = refl
readable_ok (value d) None m f h = h
readable_ok (value d) (Some j) m f h = f d j refl refl
readable_ok (stuck y) k m f h = refl

-- what each operator gives
pub kept_go : (o : Outcome) (k m : KindData) (go : Data → Outcome) → kept_if o k ≡ true → ((d : Data) → keeps d k ≡ true → kept_if (go d) m ≡ true) → kept_if (then_go o go) m ≡ true
kept_go (value d) k m go h f = f d h
kept_go (stuck y) k m go h f = refl

always : (o : Outcome) (m : KindData) (go : Data → Outcome) → ((d : Data) → kept_if (go d) m ≡ true) → kept_if (then_go o go) m ≡ true
always (value d) m go f = f d
always (stuck y) m go f = refl

or_kept : (y : Stuck) (o : Option Data) (m : KindData) (go : Data → Outcome) → ((d : Data) → kept_if (go d) m ≡ true) → kept_if (or_stuck y go o) m ≡ true
or_kept y None m go f = refl
or_kept y (Some d) m go f = f d

test_kept : (q b : Bool) → kept_if (cond q (stuck wrong_sort) (value (boolean b))) booleans ≡ true
test_kept true b = refl
test_kept false b = refl

negated_kept : (d : Data) → kept_if (negated d) booleans ≡ true
negated_kept (boolean b) = refl
negated_kept d = refl

only_kept : (d : Data) → kept_if (only_boolean d) booleans ≡ true
only_kept (boolean b) = refl
only_kept d = refl

and_kept : (d : Data) (o : Outcome) → kept_if (and_then d o) booleans ≡ true
and_kept (boolean true) o = always o booleans only_boolean only_kept
and_kept (boolean false) o = refl
and_kept d o = refl

or_then_kept : (d : Data) (o : Outcome) → kept_if (or_then d o) booleans ≡ true
or_then_kept (boolean false) o = always o booleans only_boolean only_kept
or_then_kept (boolean true) o = refl
or_then_kept d o = refl

ordered_kept : (f : ℤ → ℤ → Bool) (d e : Data) → kept_if (ordered f d e) booleans ≡ true
ordered_kept f (int y) (int z) = refl
ordered_kept f d e = refl

compared_kept : (x : Comparison) (d e : Data) → kept_if (compared x d e) booleans ≡ true
compared_kept equal d e = test_kept (holds_opaque d || holds_opaque e) (data_eq d e)
compared_kept less d e = ordered_kept (λ y z. int_lt y z) d e
compared_kept at_most d e = ordered_kept (λ y z. int_le y z) d e
compared_kept more d e = ordered_kept (λ y z. int_lt z y) d e
compared_kept at_least d e = ordered_kept (λ y z. int_le z y) d e

found_kept : (d e : Data) → kept_if (found_in d e) booleans ≡ true
found_kept d (list es) = test_kept (holds_opaque d || any_item_opaque es) (is_item d es)
found_kept (text s) (text t) = refl
found_kept (text s) (rec fs) = refl
found_kept d e = refl

among_kept : (d : Data) (ns : List Name) → kept_if (is_text_among d ns) booleans ≡ true
among_kept (text s) ns = refl
among_kept d ns = test_kept (holds_opaque d) false

member_kept : (o : Option Name) (ns : List Name) → kept_if (member_among o ns) booleans ≡ true
member_kept None ns = refl
member_kept (Some h) ns = refl

active_kept : (w : World) (t : Term) → kept_if (is_active w t) booleans ≡ true
active_kept w (named_host n) = refl
active_kept w this_host = refl
active_kept w item_host = or_kept undefined (field_value (codes "item") w.mine) booleans (λ d. is_text_among d w.batch) (λ d. among_kept d w.batch)
active_kept w (group_member g n) = member_kept (member_of g n w.groups) w.batch

there_kept : (ns : List Name) (l : Look) → kept_if (is_there ns l) booleans ≡ true
there_kept ns (there d) = refl
there_kept ns absent = refl
there_kept ns (failing y) = refl

asked_kept : (q b : Bool) → kept_if (cond q (value (boolean b)) (stuck wrong_sort)) booleans ≡ true
asked_kept true b = refl
asked_kept false b = refl

status_kept : (s : Status) (d : Data) → kept_if (status_of s d) booleans ≡ true
status_kept s (rec fs) = asked_kept (has_statuses fs) (flag_is true (field_value (status_name s) fs))
status_kept s d = refl

counted_kept : (d : Data) → kept_if (counted d) ints ≡ true
counted_kept (list ds) = refl
counted_kept (text s) = refl
counted_kept (rec fs) = refl
counted_kept d = refl

with_text_kept : (s : List ℕ) (d : Data) → kept_if (with_text s d) texts ≡ true
with_text_kept s (text t) = refl
with_text_kept s d = refl

plain_step : (q : Bool) (o : Outcome) → kept_if o texts ≡ true → kept_if (cond q o (stuck wrong_sort)) texts ≡ true
plain_step true o h = h
plain_step false o h = refl

plain_kept : (d : Data) (go : List ℕ → Outcome) → ((s : List ℕ) → kept_if (go s) texts ≡ true) → kept_if (plain_text d go) texts ≡ true
plain_kept d go f = plain_step (is_plain d) (go (rendered d)) (f (rendered d))

pub joined_items_kept : (s : List ℕ) (ds : Items) → kept_if (joined_items s ds) texts ≡ true
joined_items_kept s no_items = refl
joined_items_kept s (item d no_items) = plain_kept d (λ t. value (text t)) (λ t. refl)
joined_items_kept s (item d (item e ds)) =
    plain_kept d (λ t. then_go (joined_items s (item e ds)) (with_text (t ++ s))) (λ t. always (joined_items s (item e ds)) texts (with_text (t ++ s)) (λ j. with_text_kept (t ++ s) j))

joined_kept : (d e : Data) → kept_if (joined d e) texts ≡ true
joined_kept (list ds) (text s) = joined_items_kept s ds
joined_kept d e = refl

put_item_kept : (d : Data) (o : Outcome) (k m : KindData) (n : ℕ) → Well k → Well m → keeps d k ≡ true → kept_if o (lists m n) ≡ true → kept_if (put_item d o) (lists (join k m) (suc n)) ≡ true
put_item_kept opaque o k m n w v h i = refl
put_item_kept d (value (list ds)) k m n w v h i = kept_item d ds k m n w v h i
put_item_kept d (value e) k m n w v h i = refl
put_item_kept d (stuck y) k m n w v h i = refl

put_part_kept : (p : Name) (d : Data) (o : Outcome) (k : KindData) (ss : Slots) → Well (recs ss) → keeps d k ≡ true → kept_if o (recs ss) ≡ true → kept_if (put_part p d o) (recs (with_slot p true k ss)) ≡ true
put_part_kept p opaque o k ss w h i = refl
put_part_kept p d (value (rec fs)) k ss w h i = kept_written p d fs true k ss w.0 i h
put_part_kept p d (value e) k ss w h i = refl
put_part_kept p d (stuck y) k ss w h i = refl

given_kept : (d : Data) (k : KindData) → keeps d k ≡ true → kept_if (given d) k ≡ true
given_kept opaque k h = refl
given_kept d k h = h

-- a host by its name is the same host
named_member : (w : World) (g : Name) (n : ℕ) (x : Name) (o : Option Name) → member_of g n w.groups ≡ o → look_there w x (host_of w (named_term (group_member g n) o)) ≡ look_there w x (member_named (member_of g n w.groups))
named_member w g n x None e = refl
named_member w g n x (Some h) e = sym (ap (λ o. look_there w x (member_named o)) e)

pub resolved_look : (w : World) (c : Scope) (r : Root) → Knows w c → look w (resolved c r) ≡ look w r
resolved_look w c (variable n) m = refl
resolved_look w c (alias n e) m = refl
resolved_look w c (other (named_host n) x) m = refl
resolved_look w c (other this_host x) m = sym (ap (λ g. look_there w x (host_named g)) m.this)
resolved_look w c (other item_host x) m = refl
resolved_look w c (other (group_member g n) x) m = named_member w g n x (member_of g n c.groups) (ap (λ gs. member_of g n gs) m.groups)
resolved_look w c (member g n) m = refl

-- what a test showed to be there is there
pub present_there : (w : World) (c : Scope) (r : Root) (ns : List Name) → Knows w c → is_present c r ns ≡ true → is_there ns (look w r) ≡ value (boolean true)
present_there w c r ns m h = sym (ap (λ p. is_there ns p) (resolved_look w c r m)) ∙ m.present (resolved c r) ns h

group_ok : (o : Option Name) → look_ok (found (member_text o)) (member_spot o) ≡ true
group_ok None = refl
group_ok (Some h) = or-left (bytes_eq h h) false (own_name h)

module _ (w : World) (c : Scope) (m : Knows w c) where
  mutual
    pub kept_eval : (e : Expression) → kept_if (eval w e) (kind_of c e) ≡ true
    kept_eval (literal d) = kept_known_value d
    kept_eval (path r ns) = kept_read ns (look w r) (root_spot c r) (well_root c m.well r) (root_ok r)
    kept_eval (hostvars_alone o) = refl
    kept_eval (negation e) = always (eval w e) booleans negated negated_kept
    kept_eval (conjunction es) = all_kept es
    kept_eval (disjunction es) = any_kept es
    kept_eval (comparison x a b) = always (eval w a) booleans (λ d. then_go (eval w b) (compared x d)) (λ d. always (eval w b) booleans (compared x d) (λ e. compared_kept x d e))
    kept_eval (membership a b) = always (eval w a) booleans (λ d. then_go (eval w b) (found_in d)) (λ d. always (eval w b) booleans (found_in d) (λ e. found_kept d e))
    kept_eval (in_batch t) = active_kept w t
    kept_eval (defined r ns) = there_kept ns (look w r)
    kept_eval (undefinable e) = always (eval w e) booleans (λ d. stuck wrong_sort) (λ d. refl)
    kept_eval (path_status s r ns) = always (read ns (look w r)) booleans (status_of s) (λ d. status_kept s d)
    kept_eval (value_status s e) = always (eval w e) booleans (status_of s) (λ d. status_kept s d)
    kept_eval (path_or r ns e) =
        kept_shown (is_present c r ns) ns (look w r) (then_go (eval w e) given) (root_spot c r) (kind_of c e) (present_there w c r ns m) (well_root c m.well r) (well_path ns (root_spot c r) (well_root c m.well r)) (well_kind c m.well e) (root_ok r)
        (kept_go (eval w e) (kind_of c e) (kind_of c e) given (kept_eval e) (λ d h. given_kept d (kind_of c e) h))
    kept_eval (value_or a e) = kept_eval a
    kept_eval (length_of e) = always (eval w e) ints counted counted_kept
    kept_eval (joined_by e s) = always (eval w e) texts (λ d. then_go (eval w s) (joined d)) (λ d. always (eval w s) texts (joined d) (λ t. joined_kept d t))
    kept_eval (concatenation es) = text_kept es
    kept_eval (list_of es) = items_kept es
    kept_eval (record_of ps) = parts_kept ps

    pub root_ok : (r : Root) → look_ok (look w r) (root_spot c r) ≡ true
    root_ok (variable n) = found_ok (field_value n w.mine) (own_spot c n) (own_ok w c n m)
    root_ok (alias n e) = readable_ok (eval w e) (learned_kind n e c.learned) (kind_of c e) (λ d k i j. m.learned n e k d i j) (kept_eval e)
    root_ok (other t x) = other_ok w c t x m
    root_ok (member g n) = rw (ap (λ gs. member_of g n gs) m.groups) (group_ok (member_of g n c.groups))

    pub all_kept : (es : Expressions) → kept_if (eval_all w es) booleans ≡ true
    all_kept no_expressions = refl
    all_kept (expression e es) = always (eval w e) booleans (λ d. and_then d (eval_all w es)) (λ d. and_kept d (eval_all w es))

    pub any_kept : (es : Expressions) → kept_if (eval_any w es) booleans ≡ true
    any_kept no_expressions = refl
    any_kept (expression e es) = always (eval w e) booleans (λ d. or_then d (eval_any w es)) (λ d. or_then_kept d (eval_any w es))

    pub text_kept : (es : Expressions) → kept_if (eval_text w es) texts ≡ true
    text_kept no_expressions = refl
    text_kept (expression e es) =
        always (eval w e) texts (λ d. plain_text d (λ s. then_go (eval_text w es) (with_text s))) (λ d. plain_kept d (λ s. then_go (eval_text w es) (with_text s)) (λ s. always (eval_text w es) texts (with_text s) (λ t. with_text_kept s t)))

    pub items_kept : (es : Expressions) → kept_if (eval_items w es) (lists (items_kind c es) (count es)) ≡ true
    items_kept no_expressions = refl
    items_kept (expression e es) =
        kept_go (eval w e) (kind_of c e) (lists (join (kind_of c e) (items_kind c es)) (suc (count es))) (λ d. put_item d (eval_items w es)) (kept_eval e)
        (λ d h. put_item_kept d (eval_items w es) (kind_of c e) (items_kind c es) (count es) (well_kind c m.well e) (well_items c m.well es) h (items_kept es))

    pub parts_kept : (ps : Parts) → kept_if (eval_parts w ps) (recs (parts_slots c ps)) ≡ true
    parts_kept no_parts = refl
    parts_kept (part n e ps) =
        kept_go (eval w e) (kind_of c e) (recs (with_slot n true (kind_of c e) (parts_slots c ps))) (λ d. put_part n d (eval_parts w ps)) (kept_eval e)
        (λ d h. put_part_kept n d (eval_parts w ps) (kind_of c e) (parts_slots c ps) (well_parts c m.well ps) h (parts_kept ps))

pub kept_value : (o : Outcome) (k : KindData) (d : Data) → kept_if o k ≡ true → o ≡ value d → keeps d k ≡ true
kept_value (value e) k d h i = let x : e ≡ d = cc in rw (← x) h
kept_value (stuck y) k d h i = absurd (cc)

pub value_keeps_kind : ValueKeepsKind
value_keeps_kind w c e d m h = kept_value (eval w e) (kind_of c e) d (kept_eval w c m e) h
