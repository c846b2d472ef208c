-- An expression that is fit has a value.
use Rattle.std.proofs.Common.{◌≡◌, ℕ, ℤ, List, [], ◌∷◌, ◌++◌, Bool, true, false, not, ◌&&◌, ◌||◌, cond, Option, Some, None, is_some, codes, refl, sym, ap, ◌∙◌, int_le, int_lt, nat_le}
use Rattle.pb_semantics.specs.Data.{Data, Items, Fields, boolean, int, text, list, rec, opaque, no_items, item, field_value, count_of}
use Rattle.pb_semantics.specs.Kind.{KindData, Slots, Spot, never, booleans, ints, texts, hosts, lists, recs, results, anything, nowhere, spot, slot_at}
use Rattle.pb_semantics.specs.Keeps.{flag_is, all_items, keeps, spot_ok}
use Rattle.pb_semantics.specs.Equal.{data_eq, is_item}
use Rattle.pb_semantics.specs.Fit.{holds_any}
use Rattle.pb_semantics.specs.Render.{is_plain, rendered}
use Rattle.pb_semantics.specs.Well.{Well}
use Rattle.pb_semantics.proofs.Bools.{and-both, untrue, and-left, and-right, not-true, neither-both}
use Rattle.pb_semantics.proofs.Kept.{nothing_keeps_never}
use Rattle.pb_language.specs.Expression.{Name, Comparison, equal, less, at_most, more, at_least, Status, Term, named_host, this_host, item_host, group_member, Expression, literal, path, hostvars_alone, negation, conjunction, disjunction, comparison, membership, in_batch, defined, undefinable, path_status, value_status, path_or, value_or, length_of, joined_by, concatenation, list_of, record_of, Root, variable, alias, other, member, Expressions, no_expressions, expression, Parts, no_parts, part}
use Rattle.pb_language.specs.World.{World, variables_of, member_of}
use Rattle.pb_language.specs.Evaluation.{undefined, no_field, wrong_sort, Outcome, value, stuck, Look, there, absent, failing, Named, host_named, no_host, not_a_host, then_go, or_stuck, value_below, is_value, found, readable, name_in, member_named, member_text, host_of, look_there, read, is_there, value_else, or_else, only_boolean, negated, and_then, or_then, holds_opaque, any_item_opaque, ordered, compared, found_in, is_text_among, member_among, is_active, is_truth, may_be_truth, has_statuses, status_name, status_of, counted, plain_text, with_text, joined_items, joined, put_item, put_part, given, eval, look, eval_all, eval_any, eval_text, eval_items, eval_parts}
use Rattle.pb_language.specs.Scope.{Scope, is_present, spot_kind, is_certain, own_spot, hosts_at, hosts_of, other_spot}
use Rattle.pb_language.specs.Kinds.{path_spot, kind_of, root_spot, items_kind, parts_slots, count}
use Rattle.pb_language.specs.Narrow.{narrow}
use Rattle.pb_language.specs.Fit.{Fault, perhaps_undefined, perhaps_undefined_there, perhaps_missing, wrong_kind, unknown_name, first, asks, is_any, is_boolean, is_int, is_text, is_plain_kind, has_length, is_plain_list, can_compare, can_find, is_flag, may_be_flag, is_result, field_fault, steps_fault, hosts_fault, term_fault, active_fault, path_fault, fault, read_fault, tested_fault, chain_fault, are_booleans, parts_fault, are_plain, items_fault, fields_fault}
use Rattle.pb_language.specs.Knows.{Knows, FitHasValue}
use Rattle.pb_language.specs.Wells.{WellSpot}
use Rattle.pb_language.proofs.WithSlot.{record_models}
use Rattle.pb_language.proofs.WellKinds.{well_slot, well_path, well_kind, well_root}
use Rattle.pb_language.proofs.Opaque.{nothing_opaque}
use Rattle.pb_language.proofs.Paths.{kept_known, look_ok, kept_if, kept_read}
use Rattle.pb_language.proofs.Values.{own_ok, other_ok, present_there, kept_eval, root_ok, joined_items_kept, text_kept, items_kept, parts_kept, all_kept, any_kept}
use Rattle.pb_language.proofs.Tests.{teaches}

-- no fault
pub no_first : (f g : Option Fault) → first f g ≡ None → f ≡ None
no_first None g h = refl
no_first (Some x) g h = absurd (cc)

pub no_second : (f g : Option Fault) → first f g ≡ None → g ≡ None
no_second None g h = h
no_second (Some x) g h = absurd (cc)

pub not_asked : (f : Fault) (q : Bool) → asks f q ≡ None → q ≡ true
not_asked f true h = refl
not_asked f false h = absurd (cc)

faulty : {A : Type 0} (f : Fault) → Some f ≡ None → A
faulty f h = absurd (cc)

neither_first : (a b : Bool) → not (a || b) ≡ true → a ≡ false
neither_first true b h = untrue h
neither_first false b h = refl

neither_second : (a b : Bool) → not (a || b) ≡ true → b ≡ false
neither_second true b h = untrue h
neither_second false b h = not-true b h

-- values of kinds
a_boolean : (d : Data) (k : KindData) → keeps d k ≡ true → is_boolean k ≡ true → keeps d booleans ≡ true
a_boolean d never h i = untrue (nothing_keeps_never d h)
a_boolean d booleans h i = h
a_boolean d k h i = untrue i

an_int : (d : Data) (k : KindData) → keeps d k ≡ true → is_int k ≡ true → keeps d ints ≡ true
an_int d never h i = untrue (nothing_keeps_never d h)
an_int d ints h i = h
an_int d k h i = untrue i

a_text : (d : Data) (k : KindData) → keeps d k ≡ true → is_text k ≡ true → keeps d texts ≡ true
a_text d never h i = untrue (nothing_keeps_never d h)
a_text d texts h i = h
a_text (text s) (hosts ns) h i = refl
a_text d (hosts ns) h i = untrue h
a_text d k h i = untrue i

plain_of_text : (d : Data) → keeps d texts ≡ true → is_plain d ≡ true
plain_of_text (text s) h = refl
plain_of_text d h = untrue h

a_plain : (d : Data) (k : KindData) → keeps d k ≡ true → is_plain_kind k ≡ true → is_plain d ≡ true
a_plain (boolean b) booleans h i = refl
a_plain d booleans h i = untrue h
a_plain (int z) ints h i = refl
a_plain d ints h i = untrue h
a_plain d never h i = untrue (nothing_keeps_never d h)
a_plain d texts h i = plain_of_text d h
a_plain d (hosts ns) h i = plain_of_text d (a_text d (hosts ns) h refl)
a_plain d k h i = untrue i

-- a value that may be read
abbrev is_opaque : Data → Bool
is_opaque opaque = true
is_opaque d = false

may_be_read : (d : Data) (k : KindData) → keeps d k ≡ true → is_any k ≡ false → is_opaque d ≡ false
may_be_read opaque anything h i = i
may_be_read opaque k h i = untrue h
may_be_read d k h i = refl

-- outcomes
has_go : (o : Outcome) (k : KindData) (go : Data → Outcome) → is_value o ≡ true → kept_if o k ≡ true → ((d : Data) → keeps d k ≡ true → is_value (go d) ≡ true) → is_value (then_go o go) ≡ true
has_go (value d) k go h i f = f d i
has_go (stuck y) k go h i f = untrue h

negated_has : (d : Data) → keeps d booleans ≡ true → is_value (negated d) ≡ true
negated_has (boolean b) h = refl
negated_has d h = untrue h

only_has : (d : Data) → keeps d booleans ≡ true → is_value (only_boolean d) ≡ true
only_has (boolean b) h = refl
only_has d h = untrue h

and_has : (o p : Outcome) (k : KindData) → is_value o ≡ true → kept_if o k ≡ true → is_boolean k ≡ true → kept_if p booleans ≡ true → (o ≡ value (boolean true) → is_value p ≡ true) → is_value (then_go o (λ d. and_then d p)) ≡ true
and_has (value (boolean true)) p k h i b j f = has_go p booleans only_boolean (f refl) j only_has
and_has (value (boolean false)) p k h i b j f = refl
and_has (value d) p k h i b j f = untrue (a_boolean d k i b)
and_has (stuck y) p k h i b j f = untrue h

or_has : (o p : Outcome) (k : KindData) → is_value o ≡ true → kept_if o k ≡ true → is_boolean k ≡ true → kept_if p booleans ≡ true → (o ≡ value (boolean false) → is_value p ≡ true) → is_value (then_go o (λ d. or_then d p)) ≡ true
or_has (value (boolean false)) p k h i b j f = has_go p booleans only_boolean (f refl) j only_has
or_has (value (boolean true)) p k h i b j f = refl
or_has (value d) p k h i b j f = untrue (a_boolean d k i b)
or_has (stuck y) p k h i b j f = untrue h

test_has : (q b : Bool) → q ≡ false → is_value (cond q (stuck wrong_sort) (value (boolean b))) ≡ true
test_has true b h = sym h
test_has false b h = refl

ordered_has : (f : ℤ → ℤ → Bool) (d e : Data) → keeps d ints ≡ true → keeps e ints ≡ true → is_value (ordered f d e) ≡ true
ordered_has f (int y) (int z) h i = refl
ordered_has f (int y) e h i = untrue i
ordered_has f d e h i = untrue h

ints_has : (f : ℤ → ℤ → Bool) (d e : Data) (k m : KindData) → keeps d k ≡ true → keeps e m ≡ true → is_int k && is_int m ≡ true → is_value (ordered f d e) ≡ true
ints_has f d e k m h i a = ordered_has f d e (an_int d k h (and-left (is_int k) (is_int m) a)) (an_int e m i (and-right (is_int k) (is_int m) a))

compared_has : (x : Comparison) (d e : Data) (k m : KindData) → keeps d k ≡ true → keeps e m ≡ true → can_compare x k m ≡ true → is_value (compared x d e) ≡ true
compared_has equal d e k m h i a =
    test_has (holds_opaque d || holds_opaque e) (data_eq d e)
    (neither-both (holds_opaque d) (holds_opaque e) (nothing_opaque d k h (neither_first (holds_any k) (holds_any m) a)) (nothing_opaque e m i (neither_second (holds_any k) (holds_any m) a)))
compared_has less d e k m h i a = ints_has (λ y z. int_lt y z) d e k m h i a
compared_has at_most d e k m h i a = ints_has (λ y z. int_le y z) d e k m h i a
compared_has more d e k m h i a = ints_has (λ y z. int_lt z y) d e k m h i a
compared_has at_least d e k m h i a = ints_has (λ y z. int_le z y) d e k m h i a

in_list : (d : Data) (es : Items) (k j : KindData) (n : ℕ) → keeps d k ≡ true → keeps (list es) (lists j n) ≡ true → not (holds_any k || holds_any j) ≡ true → is_value (found_in d (list es)) ≡ true
in_list d es k j n h i a =
    test_has (holds_opaque d || any_item_opaque es) (is_item d es)
    (neither-both (holds_opaque d) (any_item_opaque es) (nothing_opaque d k h (neither_first (holds_any k) (holds_any j) a)) (nothing_opaque (list es) (lists j n) i (neither_second (holds_any k) (holds_any j) a)))

in_text : (d e : Data) → keeps d texts ≡ true → keeps e texts ≡ true → is_value (found_in d e) ≡ true
in_text (text s) (text t) h i = refl
in_text (text s) e h i = untrue i
in_text d e h i = untrue h

in_record : (d : Data) (fs : Fields) → keeps d texts ≡ true → is_value (found_in d (rec fs)) ≡ true
in_record (text s) fs h = refl
in_record d fs h = untrue h

found_has : (d e : Data) (k m : KindData) → keeps d k ≡ true → keeps e m ≡ true → can_find k m ≡ true → is_value (found_in d e) ≡ true
found_has d e k never h i a = untrue (nothing_keeps_never e i)
found_has d (list es) k (lists j n) h i a = in_list d es k j n h i a
found_has d e k (lists j n) h i a = untrue i
found_has d e k texts h i a = in_text d e (a_text d k h a) i
found_has d e k (hosts ns) h i a = in_text d e (a_text d k h a) (a_text e (hosts ns) i refl)
found_has d (rec fs) k (recs ss) h i a = in_record d fs (a_text d k h a)
found_has d e k (recs ss) h i a = untrue i
found_has d (rec fs) k (results cs r) h i a = in_record d fs (a_text d k h a)
found_has d e k (results cs r) h i a = untrue i
found_has d e k m h i a = untrue a

-- the host that an item names
among_has : (d : Data) (k : KindData) (ns : List Name) → keeps d k ≡ true → holds_any k ≡ false → is_value (is_text_among d ns) ≡ true
among_has (text s) k ns h i = refl
among_has d k ns h i = test_has (holds_opaque d) false (nothing_opaque d k h i)

item_has : (o : Option Data) (s : Spot) (ns : List Name) → spot_ok o s ≡ true → is_certain s ≡ true → not (holds_any (spot_kind s)) ≡ true → is_value (or_stuck undefined (λ d. is_text_among d ns) o) ≡ true
item_has None nowhere ns h c a = untrue c
item_has None (spot true k) ns h c a = untrue h
item_has None (spot false k) ns h c a = untrue c
item_has (Some d) nowhere ns h c a = untrue h
item_has (Some d) (spot b k) ns h c a = among_has d k ns h (not-true (holds_any k) a)

member_has : (o : Option Name) (ns : List Name) → is_some o ≡ true → is_value (member_among o ns) ≡ true
member_has None ns h = untrue h
member_has (Some g) ns h = refl

active_has : (w : World) (c : Scope) (t : Term) → Knows w c → term_fault c t ≡ None → active_fault c t ≡ None → is_value (is_active w t) ≡ true
active_has w c (named_host n) m h i = refl
active_has w c this_host m h i = refl
active_has w c item_host m h i =
    let s = own_spot c (codes "item") in
    item_has (field_value (codes "item") w.mine) s w.batch (own_ok w c (codes "item") m) (not_asked perhaps_undefined (is_certain s) h) (not_asked wrong_kind (not (holds_any (spot_kind s))) i)
active_has w c (group_member g n) m h i =
    member_has (member_of g n w.groups) w.batch (rw (ap (λ gs. is_some (member_of g n gs)) m.groups) (not_asked unknown_name (is_some (member_of g n c.groups)) h))

-- what is asked of a status
boolean_flag : (d : Data) → keeps d booleans ≡ true → is_truth (Some d) ≡ true
boolean_flag (boolean b) h = refl
boolean_flag d h = untrue h

flag_has : (o : Option Data) (s : Spot) → spot_ok o s ≡ true → is_flag s ≡ true → is_truth o ≡ true
flag_has None nowhere h i = untrue i
flag_has None (spot true k) h i = untrue h
flag_has None (spot false k) h i = untrue i
flag_has (Some d) nowhere h i = untrue h
flag_has (Some d) (spot false k) h i = untrue i
flag_has (Some d) (spot true k) h i = boolean_flag d (a_boolean d k h i)

may_flag : (o : Option Data) (s : Spot) → spot_ok o s ≡ true → may_be_flag s ≡ true → may_be_truth o ≡ true
may_flag None s h i = refl
may_flag (Some d) nowhere h i = untrue h
may_flag (Some d) (spot a k) h i = boolean_flag d (a_boolean d k h i)

asked_has : (q b : Bool) → q ≡ true → is_value (cond q (value (boolean b)) (stuck wrong_sort)) ≡ true
asked_has true b e = refl
asked_has false b e = e

record_status : (s : Status) (fs : Fields) (ss : Slots) → keeps (rec fs) (recs ss) ≡ true → is_result (recs ss) ≡ true → is_value (status_of s (rec fs)) ≡ true
record_status s fs ss h i =
    let changed = is_flag (slot_at (codes "changed") ss) in
    let failed = is_flag (slot_at (codes "failed") ss) in
    let skipped = may_be_flag (slot_at (codes "skipped") ss) in
    let models = record_models fs ss h in
    let has_changed = flag_has (field_value (codes "changed") fs) (slot_at (codes "changed") ss) (models.at (codes "changed")) (and-left changed (failed && skipped) i) in
    let has_failed = flag_has (field_value (codes "failed") fs) (slot_at (codes "failed") ss) (models.at (codes "failed")) (and-left failed skipped (and-right changed (failed && skipped) i)) in
    let has_skipped = may_flag (field_value (codes "skipped") fs) (slot_at (codes "skipped") ss) (models.at (codes "skipped")) (and-right failed skipped (and-right changed (failed && skipped) i)) in
    asked_has (has_statuses fs) (flag_is true (field_value (status_name s) fs))
    (and-both (is_truth (field_value (codes "changed") fs)) (is_truth (field_value (codes "failed") fs) && may_be_truth (field_value (codes "skipped") fs)) has_changed
    (and-both (is_truth (field_value (codes "failed") fs)) (may_be_truth (field_value (codes "skipped") fs)) has_failed has_skipped))

status_has : (s : Status) (d : Data) (k : KindData) → Well k → keeps d k ≡ true → is_result k ≡ true → is_value (status_of s d) ≡ true
status_has s d never w h i = untrue (nothing_keeps_never d h)
status_has s (rec fs) (recs ss) w h i = record_status s fs ss h i
status_has s d (recs ss) w h i = untrue h
status_has s (rec fs) (results cs never) w h i = untrue (kept_known fs cs never w.2.above h)
status_has s (rec fs) (results cs (recs ss)) w h i = record_status s fs ss (kept_known fs cs (recs ss) w.2.above h) i
status_has s (rec fs) (results cs r) w h i = untrue i
status_has s d (results cs r) w h i = untrue h
status_has s d k w h i = untrue i

-- lengths and texts
counted_has : (d : Data) (k : KindData) → keeps d k ≡ true → has_length k ≡ true → is_value (counted d) ≡ true
counted_has (list ds) k h i = refl
counted_has (text s) k h i = refl
counted_has (rec fs) k h i = refl
counted_has d never h i = untrue (nothing_keeps_never d h)
counted_has d texts h i = untrue h
counted_has d (hosts ns) h i = untrue h
counted_has d (lists k n) h i = untrue h
counted_has d (recs ss) h i = untrue h
counted_has d (results cs r) h i = untrue h
counted_has d k h i = untrue i

with_text_has : (s : List ℕ) (d : Data) → keeps d texts ≡ true → is_value (with_text s d) ≡ true
with_text_has s (text t) h = refl
with_text_has s d h = untrue h

plain_step : (q : Bool) (o : Outcome) → q ≡ true → is_value o ≡ true → is_value (cond q o (stuck wrong_sort)) ≡ true
plain_step true o e h = h
plain_step false o e h = e

plain_has : (d : Data) (k : KindData) (go : List ℕ → Outcome) → keeps d k ≡ true → is_plain_kind k ≡ true → ((s : List ℕ) → is_value (go s) ≡ true) → is_value (plain_text d go) ≡ true
plain_has d k go h i f = plain_step (is_plain d) (go (rendered d)) (a_plain d k h i) (f (rendered d))

joined_items_has : (s : List ℕ) (ds : Items) (k : KindData) → all_items (λ d. keeps d k) ds ≡ true → is_plain_kind k ≡ true → is_value (joined_items s ds) ≡ true
joined_items_has s no_items k h i = refl
joined_items_has s (item d no_items) k h i = plain_has d k (λ t. value (text t)) (and-left (keeps d k) true h) i (λ t. refl)
joined_items_has s (item d (item e ds)) k h i =
    let later = all_items (λ d. keeps d k) (item e ds) in
    plain_has d k (λ t. then_go (joined_items s (item e ds)) (with_text (t ++ s))) (and-left (keeps d k) later h) i
    (λ t. has_go (joined_items s (item e ds)) texts (with_text (t ++ s)) (joined_items_has s (item e ds) k (and-right (keeps d k) later h) i) (joined_items_kept s (item e ds)) (λ j x. with_text_has (t ++ s) j x))

joined_text : (d e : Data) (k : KindData) (n : ℕ) → keeps d (lists k n) ≡ true → is_plain_kind k ≡ true → keeps e texts ≡ true → is_value (joined d e) ≡ true
joined_text (list ds) (text s) k n h i j = joined_items_has s ds k (and-right (nat_le (count_of ds) n) (all_items (λ d. keeps d k) ds) h) i
joined_text (list ds) e k n h i j = untrue j
joined_text d e k n h i j = untrue h

joined_has : (d e : Data) (k m : KindData) → keeps d k ≡ true → keeps e m ≡ true → is_plain_list k ≡ true → is_text m ≡ true → is_value (joined d e) ≡ true
joined_has d e never m h i a b = untrue (nothing_keeps_never d h)
joined_has d e (lists k n) m h i a b = joined_text d e k n h a (a_text e m i b)
joined_has d e k m h i a b = untrue a

-- parts of other values
put_item_has : (d : Data) (o : Outcome) (m : KindData) (n : ℕ) → is_opaque d ≡ false → is_value o ≡ true → kept_if o (lists m n) ≡ true → is_value (put_item d o) ≡ true
put_item_has opaque o m n a h i = untrue (sym a)
put_item_has d (value (list ds)) m n a h i = refl
put_item_has d (value e) m n a h i = untrue i
put_item_has d (stuck y) m n a h i = untrue h

put_part_has : (p : Name) (d : Data) (o : Outcome) (ss : Slots) → is_opaque d ≡ false → is_value o ≡ true → kept_if o (recs ss) ≡ true → is_value (put_part p d o) ≡ true
put_part_has p opaque o ss a h i = untrue (sym a)
put_part_has p d (value (rec fs)) ss a h i = refl
put_part_has p d (value e) ss a h i = untrue i
put_part_has p d (stuck y) ss a h i = untrue h

given_has : (d : Data) → is_opaque d ≡ false → is_value (given d) ≡ true
given_has opaque a = untrue (sym a)
given_has d a = refl

-- paths
field_has : (o : Option Data) (s : Spot) (go : Data → Outcome) (f : KindData → Option Fault) → ((d : Data) (k : KindData) → Well k → keeps d k ≡ true → f k ≡ None → is_value (go d) ≡ true) → WellSpot s → spot_ok o s ≡ true → field_fault s f ≡ None
    → is_value (or_stuck no_field go o) ≡ true
field_has o nowhere go f g w h i = faulty perhaps_missing i
field_has None (spot true k) go f g w h i = untrue h
field_has (Some d) (spot true k) go f g w h i = g d k w h i
field_has o (spot false k) go f g w h i = faulty perhaps_missing i

steps_have : (ns : List Name) (d : Data) (k : KindData) → Well k → keeps d k ≡ true → steps_fault ns k ≡ None → is_value (value_below ns d) ≡ true
steps_have [] d k w h i = refl
steps_have (n ∷ ns) d never w h i = untrue (nothing_keeps_never d h)
steps_have (n ∷ ns) (rec fs) (recs ss) w h i =
    field_has (field_value n fs) (slot_at n ss) (value_below ns) (steps_fault ns) (λ d k v x y. steps_have ns d k v x y) (well_slot n ss w.1) ((record_models fs ss h).at n) i
steps_have (n ∷ ns) d (recs ss) w h i = untrue h
steps_have (n ∷ ns) (rec fs) (results cs never) w h i = untrue (kept_known fs cs never w.2.above h)
steps_have (n ∷ ns) (rec fs) (results cs (recs ss)) w h i =
    field_has (field_value n fs) (slot_at n ss) (value_below ns) (steps_fault ns) (λ d k v x y. steps_have ns d k v x y) (well_slot n ss w.1.1) ((record_models fs ss (kept_known fs cs (recs ss) w.2.above h)).at n) i
steps_have (n ∷ ns) (rec fs) (results cs r) w h i = untrue w.2.known
steps_have (n ∷ ns) d (results cs r) w h i = untrue h
steps_have (n ∷ ns) d k w h i = faulty wrong_kind i

-- what stands at a root
abbrev is_found : Look → Bool
is_found (there d) = true
is_found p = false

abbrev is_failing : Look → Bool
is_failing (failing y) = true
is_failing p = false

read_has : (ns : List Name) (p : Look) (s : Spot) → is_found p ≡ true → WellSpot s → look_ok p s ≡ true → steps_fault ns (spot_kind s) ≡ None → is_value (read ns p) ≡ true
read_has ns (there d) nowhere f w h i = untrue h
read_has ns (there d) (spot a k) f w h i = steps_have ns d k w h i
read_has ns p s f w h i = untrue f

there_has : (ns : List Name) (p : Look) → is_failing p ≡ false → is_value (is_there ns p) ≡ true
there_has ns (there d) h = refl
there_has ns absent h = refl
there_has ns (failing y) h = untrue (sym h)

shown_has : (ns : List Name) (p : Look) → is_there ns p ≡ value (boolean true) → is_value (read ns p) ≡ true
shown_has ns (there d) h = cc
shown_has ns absent h = let x : false ≡ true = cc in untrue x
shown_has ns (failing y) h = absurd (cc)

default_has : (o p : Outcome) → is_value p ≡ true → is_value (value_else o p) ≡ true
default_has (value d) p h = refl
default_has (stuck y) p h = h

else_has : (ns : List Name) (p : Look) (o : Outcome) → is_failing p ≡ false → is_value o ≡ true → is_value (or_else ns p o) ≡ true
else_has ns (there d) o f h = default_has (value_below ns d) o h
else_has ns absent o f h = h
else_has ns (failing y) o f h = untrue (sym f)

certain_found : (o : Option Data) (s : Spot) → spot_ok o s ≡ true → is_certain s ≡ true → is_found (found o) ≡ true
certain_found None nowhere h c = c
certain_found None (spot true k) h c = h
certain_found None (spot false k) h c = c
certain_found (Some d) s h c = refl

never_failing : (o : Option Data) → is_failing (found o) ≡ false
never_failing None = refl
never_failing (Some d) = refl

readable_found : (o : Outcome) (k : KindData) → is_value o ≡ true → kept_if o k ≡ true → is_any k ≡ false → is_found (readable o) ≡ true
readable_found (value opaque) k h i a = let x : true ≡ false = may_be_read opaque k i a in sym x
readable_found (value d) k h i a = refl
readable_found (stuck y) k h i a = h

found_is : (p : Look) → is_found p ≡ true → is_failing p ≡ false
found_is (there d) h = refl
found_is absent h = refl
found_is (failing y) h = untrue h

-- a term that has to name a host names one, where its item is there
abbrev may_be_host : Named → Bool
may_be_host (host_named g) = true
may_be_host no_host = true
may_be_host not_a_host = false

item_host_has : (o : Option Data) (s : Spot) → spot_ok o s ≡ true → hosts_fault (hosts_at s) ≡ None → may_be_host (name_in o) ≡ true
item_host_has None s h i = refl
item_host_has (Some (text g)) s h i = refl
item_host_has (Some d) nowhere h i = untrue h
item_host_has (Some d) (spot a never) h i = untrue (nothing_keeps_never d h)
item_host_has (Some d) (spot a (hosts ns)) h i = untrue h
item_host_has (Some d) (spot a k) h i = faulty wrong_kind i

member_host : (o : Option Name) → may_be_host (member_named o) ≡ true
member_host None = refl
member_host (Some g) = refl

host_has : (w : World) (c : Scope) (t : Term) → Knows w c → hosts_fault (hosts_of c t) ≡ None → may_be_host (host_of w t) ≡ true
host_has w c (named_host n) m h = refl
host_has w c this_host m h = refl
host_has w c item_host m h = item_host_has (field_value (codes "item") w.mine) (own_spot c (codes "item")) (own_ok w c (codes "item") m) h
host_has w c (group_member g n) m h = member_host (member_of g n w.groups)

there_found : (w : World) (x : Name) (n : Named) (s : Spot) → may_be_host n ≡ true → look_ok (look_there w x n) s ≡ true → is_certain s ≡ true → is_found (look_there w x n) ≡ true
there_found w x (host_named g) s b h c = found_certain (field_value x (variables_of g w.hosts)) s h c where
  found_certain : (o : Option Data) (s : Spot) → look_ok (found o) s ≡ true → is_certain s ≡ true → is_found (found o) ≡ true
  found_certain None s h c = certain_found None s h c
  found_certain (Some d) s h c = refl
there_found w x no_host s b h c = certain_found None s h c
there_found w x not_a_host s b h c = untrue b

there_never_failing : (w : World) (x : Name) (n : Named) → may_be_host n ≡ true → is_failing (look_there w x n) ≡ false
there_never_failing w x (host_named g) b = never_failing (field_value x (variables_of g w.hosts))
there_never_failing w x no_host b = refl
there_never_failing w x not_a_host b = untrue b

member_found : (o : Option Name) → is_some o ≡ true → is_found (found (member_text o)) ≡ true
member_found None h = h
member_found (Some g) h = refl

path_step : (q : Bool) (ns : List Name) (p : Look) (s : Spot) (f g h : Option Fault) → (q ≡ true → is_there ns p ≡ value (boolean true)) → (g ≡ None → is_found p ≡ true) → WellSpot s → look_ok p s ≡ true → h ≡ steps_fault ns (spot_kind s) → path_fault q f g h ≡ None
    → is_value (read ns p) ≡ true
path_step true ns p s f g h shown root w ok e i = shown_has ns p (shown refl)
path_step false ns p s f g h shown root w ok e i = read_has ns p s (root (no_first g h i)) w ok (sym e ∙ no_second g h i)

path_has : (w : World) (r : Root) (ns : List Name) (c : Scope) → Knows w c → (read_fault c r ≡ None → is_found (look w r) ≡ true) → fault c (path r ns) ≡ None → is_value (read ns (look w r)) ≡ true
path_has w r ns c m root h =
    path_step (is_present c r ns) ns (look w r) (root_spot c r) (tested_fault c r) (read_fault c r) (steps_fault ns (spot_kind (root_spot c r))) (present_there w c r ns m) root (well_root c m.well r) (root_ok w c m r) refl h

alias_has : (w : World) (e : Expression) (c : Scope) → Knows w c → (fault c e ≡ None → is_value (eval w e) ≡ true) → first (fault c e) (asks wrong_kind (not (is_any (kind_of c e)))) ≡ None → is_found (readable (eval w e)) ≡ true
alias_has w e c m has h =
    let asked = asks wrong_kind (not (is_any (kind_of c e))) in
    readable_found (eval w e) (kind_of c e) (has (no_first (fault c e) asked h)) (kept_eval w c m e) (not-true (is_any (kind_of c e)) (not_asked wrong_kind (not (is_any (kind_of c e))) (no_second (fault c e) asked h)))

module _ (w : World) where
  mutual
    pub has_value : (e : Expression) (c : Scope) → Knows w c → fault c e ≡ None → is_value (eval w e) ≡ true
    has_value (literal d) c m h = refl
    has_value (path r ns) c m h = path_has w r ns c m (λ i. root_has r c m i) h
    has_value (hostvars_alone o) c m h = faulty wrong_kind h
    has_value (negation e) c m h =
        let asked = asks wrong_kind (is_boolean (kind_of c e)) in
        has_go (eval w e) (kind_of c e) negated (has_value e c m (no_first (fault c e) asked h)) (kept_eval w c m e)
        (λ d i. negated_has d (a_boolean d (kind_of c e) i (not_asked wrong_kind (is_boolean (kind_of c e)) (no_second (fault c e) asked h))))
    has_value (conjunction es) c m h =
        let asked = asks wrong_kind (are_booleans c es true) in
        all_has es c m (no_first (chain_fault c es true) asked h) (not_asked wrong_kind (are_booleans c es true) (no_second (chain_fault c es true) asked h))
    has_value (disjunction es) c m h =
        let asked = asks wrong_kind (are_booleans c es false) in
        any_has es c m (no_first (chain_fault c es false) asked h) (not_asked wrong_kind (are_booleans c es false) (no_second (chain_fault c es false) asked h))
    has_value (comparison x a b) c m h =
        let asked = asks wrong_kind (can_compare x (kind_of c a) (kind_of c b)) in
        let later = no_second (fault c a) (first (fault c b) asked) h in
        has_go (eval w a) (kind_of c a) (λ d. then_go (eval w b) (compared x d)) (has_value a c m (no_first (fault c a) (first (fault c b) asked) h)) (kept_eval w c m a)
        (λ d i. has_go (eval w b) (kind_of c b) (compared x d) (has_value b c m (no_first (fault c b) asked later)) (kept_eval w c m b)
        (λ e j. compared_has x d e (kind_of c a) (kind_of c b) i j (not_asked wrong_kind (can_compare x (kind_of c a) (kind_of c b)) (no_second (fault c b) asked later))))
    has_value (membership a b) c m h =
        let asked = asks wrong_kind (can_find (kind_of c a) (kind_of c b)) in
        let later = no_second (fault c a) (first (fault c b) asked) h in
        has_go (eval w a) (kind_of c a) (λ d. then_go (eval w b) (found_in d)) (has_value a c m (no_first (fault c a) (first (fault c b) asked) h)) (kept_eval w c m a)
        (λ d i. has_go (eval w b) (kind_of c b) (found_in d) (has_value b c m (no_first (fault c b) asked later)) (kept_eval w c m b)
        (λ e j. found_has d e (kind_of c a) (kind_of c b) i j (not_asked wrong_kind (can_find (kind_of c a) (kind_of c b)) (no_second (fault c b) asked later))))
    has_value (in_batch t) c m h = active_has w c t m (no_first (term_fault c t) (active_fault c t) h) (no_second (term_fault c t) (active_fault c t) h)
    has_value (defined r ns) c m h = there_has ns (look w r) (tested_has r c m h)
    has_value (undefinable e) c m h = faulty wrong_kind (no_second (fault c e) (Some wrong_kind) h)
    has_value (path_status s r ns) c m h =
        let k = spot_kind (path_spot ns (root_spot c r)) in
        let f = fault c (path r ns) in
        has_go (read ns (look w r)) k (status_of s) (path_has w r ns c m (λ i. root_has r c m i) (no_first f (asks wrong_kind (is_result k)) h)) (kept_read ns (look w r) (root_spot c r) (well_root c m.well r) (root_ok w c m r))
        (λ d i. status_has s d k (well_path ns (root_spot c r) (well_root c m.well r)) i (not_asked wrong_kind (is_result k) (no_second f (asks wrong_kind (is_result k)) h)))
    has_value (value_status s e) c m h =
        let k = kind_of c e in
        let asked = asks wrong_kind (is_result k) in
        has_go (eval w e) k (status_of s) (has_value e c m (no_first (fault c e) asked h)) (kept_eval w c m e)
        (λ d i. status_has s d k (well_kind c m.well e) i (not_asked wrong_kind (is_result k) (no_second (fault c e) asked h)))
    has_value (path_or r ns e) c m h =
        let k = kind_of c e in
        let asked = asks wrong_kind (not (is_any k)) in
        let later = no_second (tested_fault c r) (first (fault c e) asked) h in
        else_has ns (look w r) (then_go (eval w e) given) (tested_has r c m (no_first (tested_fault c r) (first (fault c e) asked) h))
        (has_go (eval w e) k given (has_value e c m (no_first (fault c e) asked later)) (kept_eval w c m e)
        (λ d i. given_has d (may_be_read d k i (not-true (is_any k) (not_asked wrong_kind (not (is_any k)) (no_second (fault c e) asked later))))))
    has_value (value_or a e) c m h = has_value a c m (no_first (fault c a) (first (fault c e) (asks wrong_kind (not (is_any (kind_of c a) || is_any (kind_of c e))))) h)
    has_value (length_of e) c m h =
        let k = kind_of c e in
        let asked = asks wrong_kind (has_length k) in
        has_go (eval w e) k counted (has_value e c m (no_first (fault c e) asked h)) (kept_eval w c m e) (λ d i. counted_has d k i (not_asked wrong_kind (has_length k) (no_second (fault c e) asked h)))
    has_value (joined_by e s) c m h =
        let plain = is_plain_list (kind_of c e) in
        let words = is_text (kind_of c s) in
        let asked = asks wrong_kind (plain && words) in
        let later = no_second (fault c e) (first (fault c s) asked) h in
        let both = not_asked wrong_kind (plain && words) (no_second (fault c s) asked later) in
        has_go (eval w e) (kind_of c e) (λ d. then_go (eval w s) (joined d)) (has_value e c m (no_first (fault c e) (first (fault c s) asked) h)) (kept_eval w c m e)
        (λ d i. has_go (eval w s) (kind_of c s) (joined d) (has_value s c m (no_first (fault c s) asked later)) (kept_eval w c m s)
        (λ t j. joined_has d t (kind_of c e) (kind_of c s) i j (and-left plain words both) (and-right plain words both)))
    has_value (concatenation es) c m h =
        let asked = asks wrong_kind (are_plain c es) in
        text_has es c m (no_first (parts_fault c es) asked h) (not_asked wrong_kind (are_plain c es) (no_second (parts_fault c es) asked h))
    has_value (list_of es) c m h = items_have es c m h
    has_value (record_of ps) c m h = parts_have ps c m h

    root_has : (r : Root) (c : Scope) → Knows w c → read_fault c r ≡ None → is_found (look w r) ≡ true
    root_has (variable n) c m h = certain_found (field_value n w.mine) (own_spot c n) (own_ok w c n m) (not_asked perhaps_undefined (is_certain (own_spot c n)) h)
    root_has (alias n e) c m h = alias_has w e c m (λ i. has_value e c m i) h
    root_has (other t x) c m h =
        let certain = asks perhaps_undefined_there (is_certain (other_spot c t x)) in
        let later = no_second (term_fault c t) (first (hosts_fault (hosts_of c t)) certain) h in
        there_found w x (host_of w t) (other_spot c t x) (host_has w c t m (no_first (hosts_fault (hosts_of c t)) certain later)) (other_ok w c t x m)
        (not_asked perhaps_undefined_there (is_certain (other_spot c t x)) (no_second (hosts_fault (hosts_of c t)) certain later))
    root_has (member g n) c m h =
        member_found (member_of g n w.groups) (rw (ap (λ gs. is_some (member_of g n gs)) m.groups) (not_asked unknown_name (is_some (member_of g n c.groups)) h))

    tested_has : (r : Root) (c : Scope) → Knows w c → tested_fault c r ≡ None → is_failing (look w r) ≡ false
    tested_has (variable n) c m h = never_failing (field_value n w.mine)
    tested_has (alias n e) c m h = found_is (readable (eval w e)) (alias_has w e c m (λ i. has_value e c m i) h)
    tested_has (other t x) c m h = there_never_failing w x (host_of w t) (host_has w c t m h)
    tested_has (member g n) c m h = never_failing (member_text (member_of g n w.groups))

    all_has : (es : Expressions) (c : Scope) → Knows w c → chain_fault c es true ≡ None → are_booleans c es true ≡ true → is_value (eval_all w es) ≡ true
    all_has no_expressions c m h b = refl
    all_has (expression e es) c m h b =
        let later = chain_fault (narrow c e true) es true in
        let truths = are_booleans (narrow c e true) es true in
        and_has (eval w e) (eval_all w es) (kind_of c e) (has_value e c m (no_first (fault c e) later h)) (kept_eval w c m e) (and-left (is_boolean (kind_of c e)) truths b) (all_kept w c m es)
        (λ i. all_has es (narrow c e true) (teaches w e c true m i) (no_second (fault c e) later h) (and-right (is_boolean (kind_of c e)) truths b))

    any_has : (es : Expressions) (c : Scope) → Knows w c → chain_fault c es false ≡ None → are_booleans c es false ≡ true → is_value (eval_any w es) ≡ true
    any_has no_expressions c m h b = refl
    any_has (expression e es) c m h b =
        let later = chain_fault (narrow c e false) es false in
        let truths = are_booleans (narrow c e false) es false in
        or_has (eval w e) (eval_any w es) (kind_of c e) (has_value e c m (no_first (fault c e) later h)) (kept_eval w c m e) (and-left (is_boolean (kind_of c e)) truths b) (any_kept w c m es)
        (λ i. any_has es (narrow c e false) (teaches w e c false m i) (no_second (fault c e) later h) (and-right (is_boolean (kind_of c e)) truths b))

    text_has : (es : Expressions) (c : Scope) → Knows w c → parts_fault c es ≡ None → are_plain c es ≡ true → is_value (eval_text w es) ≡ true
    text_has no_expressions c m h b = refl
    text_has (expression e es) c m h b =
        has_go (eval w e) (kind_of c e) (λ d. plain_text d (λ s. then_go (eval_text w es) (with_text s))) (has_value e c m (no_first (fault c e) (parts_fault c es) h)) (kept_eval w c m e)
        (λ d i. plain_has d (kind_of c e) (λ s. then_go (eval_text w es) (with_text s)) i (and-left (is_plain_kind (kind_of c e)) (are_plain c es) b)
        (λ s. has_go (eval_text w es) texts (with_text s) (text_has es c m (no_second (fault c e) (parts_fault c es) h) (and-right (is_plain_kind (kind_of c e)) (are_plain c es) b)) (text_kept w c m es) (λ t x. with_text_has s t x)))

    items_have : (es : Expressions) (c : Scope) → Knows w c → items_fault c es ≡ None → is_value (eval_items w es) ≡ true
    items_have no_expressions c m h = refl
    items_have (expression e es) c m h =
        let asked = asks wrong_kind (not (is_any (kind_of c e))) in
        let here = no_first (first (fault c e) asked) (items_fault c es) h in
        has_go (eval w e) (kind_of c e) (λ d. put_item d (eval_items w es)) (has_value e c m (no_first (fault c e) asked here)) (kept_eval w c m e)
        (λ d i. put_item_has d (eval_items w es) (items_kind c es) (count es) (may_be_read d (kind_of c e) i (not-true (is_any (kind_of c e)) (not_asked wrong_kind (not (is_any (kind_of c e))) (no_second (fault c e) asked here))))
        (items_have es c m (no_second (first (fault c e) asked) (items_fault c es) h)) (items_kept w c m es))

    parts_have : (ps : Parts) (c : Scope) → Knows w c → fields_fault c ps ≡ None → is_value (eval_parts w ps) ≡ true
    parts_have no_parts c m h = refl
    parts_have (part n e ps) c m h =
        let asked = asks wrong_kind (not (is_any (kind_of c e))) in
        let here = no_first (first (fault c e) asked) (fields_fault c ps) h in
        has_go (eval w e) (kind_of c e) (λ d. put_part n d (eval_parts w ps)) (has_value e c m (no_first (fault c e) asked here)) (kept_eval w c m e)
        (λ d i. put_part_has n d (eval_parts w ps) (parts_slots c ps) (may_be_read d (kind_of c e) i (not-true (is_any (kind_of c e)) (not_asked wrong_kind (not (is_any (kind_of c e))) (no_second (fault c e) asked here))))
        (parts_have ps c m (no_second (first (fault c e) asked) (fields_fault c ps) h)) (parts_kept w c m ps))

value_of : (o : Outcome) (k : KindData) → is_value o ≡ true → kept_if o k ≡ true → (d : Data) × (o ≡ value d) × (keeps d k ≡ true)
value_of (value d) k h i = (d, refl, i)
value_of (stuck y) k h i = untrue h

pub fit_has_value : FitHasValue
fit_has_value w c e m h = value_of (eval w e) (kind_of c e) (has_value w e c m h) (kept_eval w c m e)
