-- What the rules derive is what an expression comes to.
use Rattle.std.proofs.Common.{◌≡◌, ℕ, List, ◌∷◌, ◌++◌, Bool, true, false, ◌&&◌, ℤ, cond, Some, int_le, int_lt, refl, sym, ap, ◌∙◌}
use Rattle.pb_semantics.specs.Data.{Data, Items, Fields, boolean, int, text, list, rec, opaque, no_items, item, field, field_value}
use Rattle.pb_semantics.specs.Keeps.{is_among, flag_is}
use Rattle.pb_semantics.specs.Equal.{data_eq, is_item}
use Rattle.pb_semantics.specs.Render.{is_plain, rendered}
use Rattle.pb_semantics.proofs.Bools.{untrue}
use Rattle.pb_language.specs.Expression.{Name, Comparison, Status, Term, Expression, path, Root, Expressions, Parts}
use Rattle.pb_language.specs.World.{World}
use Rattle.pb_language.specs.Evaluation.{Stuck, undefined, no_field, wrong_sort, Outcome, value, stuck, Look, there, absent, failing, Named, host_named, no_host, not_a_host, then_go, or_stuck as else_stuck, value_below, is_value, found, readable, name_in, member_named, member_text, host_of, look_there, read, is_there, value_else, or_else, negated, and_then, or_then, holds_opaque, ordered, compared, found_in, is_text_among, member_among, is_active, status_name, status_of, counted, plain_text, with_text, joined_items, joined, put_item, put_part, given, eval, look, eval_all, eval_any, eval_text, eval_items, eval_parts}
use Rattle.pb_language.specs.Evaluates.{is_truth_value, is_number, is_text, is_list, is_record, is_unreadable, Leads, at_the_end, into_the_field, no_such_field, into_no_record, Names, by_its_name, the_host_itself, the_item, no_item_there, item_is_no_text, in_the_group, past_the_group, Compares, alike, not_readable, is_less, is_at_most, is_more, is_at_least, less_of_no_numbers, at_most_of_no_numbers, more_of_no_numbers, at_least_of_no_numbers, IsIn, among_items, items_not_readable, part_of_the_text, a_field_of_it, in_no_collection, no_text_in_it, HasStatus, of_a_result, of_no_result, of_no_record, HasLength, so_many_items, so_many_characters, so_many_fields, no_length, JoinsItems, no_items_joined, one_item, more_items, later_item_stuck, item_not_plain, Joins, joins_items, joins_no_list, Evaluates, Stands, All, Any, Chooses, Writes, Lists, Records, literally, at_the_path, no_path, stuck_path, hostvars_is_no_value, turned, not_of_no_truth, not_of_stuck, all_of_them, any_of_them, both_compared, left_stuck, right_stuck, one_in_other, sought_stuck, searched_stuck, among_the_active, no_host_active, item_not_active, item_not_readable, each_step_there, step_missing, root_missing, defined_stuck, defined_of_no_path, defined_of_stuck, status_of_path, status_of_stuck_path, status_of_value, status_of_stuck, no_default_needed, default_for_step, default_for_root, default_stuck, default_of_no_path, has_length, length_stuck, items_joined, joined_stuck, between_stuck, parts_written, items_listed, fields_recorded, variable_there, no_variable, alias_there, alias_not_readable, alias_stuck, other_there, other_has_none, nobody_has_it, of_no_host, member_there, no_member, nothing_false, true_then, false_ends, and_of_no_truth, and_stuck, nothing_true, false_then, true_ends, or_of_no_truth, or_stuck, readable_value, chosen_not_readable, chosen_stuck, nothing_written, part_then, later_part_stuck, part_not_plain, part_stuck, nothing_listed, item_then, later_listed_stuck, listed_not_readable, listed_stuck, nothing_recorded, field_then, later_field_stuck, field_not_readable, field_stuck, DerivedAreOutcomes}
use Rattle.pb_language.proofs.Evaluated.{only_all, only_any}

leads_is : (ns : List Name) (d : Data) (o : Outcome) → Leads ns d o → value_below ns d ≡ o
leads_is ns d o at_the_end = refl
leads_is ns d o (into_the_field {ns = ms} {d = e} i h) = ap (else_stuck no_field (value_below ms)) i ∙ leads_is ms e o h
leads_is ns d o (no_such_field {ns = ms} i) = ap (else_stuck no_field (value_below ms)) i
leads_is ns d o (into_no_record {n = n} {ns = ms} i) = no_record n ms d i where
  no_record : (n : Name) (ms : List Name) (d : Data) → is_record d ≡ false → value_below (n ∷ ms) d ≡ stuck wrong_sort
  no_record n ms (rec fs) i = untrue (sym i)
  no_record n ms d i = refl

name_of_item : (d : Data) → is_text d ≡ false → name_in (Some d) ≡ not_a_host
name_of_item (text s) i = untrue (sym i)
name_of_item d i = refl

names_is : (w : World) (t : Term) (g : Named) → Names w t g → host_of w t ≡ g
names_is w t g by_its_name = refl
names_is w t g the_host_itself = refl
names_is w t g (the_item i) = ap name_in i
names_is w t g (no_item_there i) = ap name_in i
names_is w t g (item_is_no_text {d = d} i j) = ap name_in i ∙ name_of_item d j
names_is w t g (in_the_group i) = ap member_named i
names_is w t g (past_the_group i) = ap member_named i

not_ordered : (f : ℤ → ℤ → Bool) (d e : Data) → is_number d && is_number e ≡ false → ordered f d e ≡ stuck wrong_sort
not_ordered f (int y) (int z) i = untrue (sym i)
not_ordered f (int y) e i = refl
not_ordered f d e i = refl

compares_is : (c : Comparison) (d e : Data) (o : Outcome) → Compares c d e o → compared c d e ≡ o
compares_is c d e o (alike i) = ap (λ q. cond q (stuck wrong_sort) (value (boolean (data_eq d e)))) i
compares_is c d e o (not_readable i) = ap (λ q. cond q (stuck wrong_sort) (value (boolean (data_eq d e)))) i
compares_is c d e o is_less = refl
compares_is c d e o is_at_most = refl
compares_is c d e o is_more = refl
compares_is c d e o is_at_least = refl
compares_is c d e o (less_of_no_numbers i) = not_ordered (λ y z. int_lt y z) d e i
compares_is c d e o (at_most_of_no_numbers i) = not_ordered (λ y z. int_le y z) d e i
compares_is c d e o (more_of_no_numbers i) = not_ordered (λ y z. int_lt z y) d e i
compares_is c d e o (at_least_of_no_numbers i) = not_ordered (λ y z. int_le z y) d e i

not_in : (d e : Data) → is_list e ≡ false → is_text e ≡ false → is_record e ≡ false → found_in d e ≡ stuck wrong_sort
not_in d (list es) i j k = untrue (sym i)
not_in d (text t) i j k = untrue (sym j)
not_in d (rec fs) i j k = untrue (sym k)
not_in d e i j k = refl

no_text_in : (d e : Data) → is_list e ≡ false → is_text d ≡ false → found_in d e ≡ stuck wrong_sort
no_text_in (text s) e i j = untrue (sym j)
no_text_in d (list es) i j = untrue (sym i)
no_text_in d e i j = refl

is_in_is : (d e : Data) (o : Outcome) → IsIn d e o → found_in d e ≡ o
is_in_is d e o (among_items {es = es} i) = ap (λ q. cond q (stuck wrong_sort) (value (boolean (is_item d es)))) i
is_in_is d e o (items_not_readable {es = es} i) = ap (λ q. cond q (stuck wrong_sort) (value (boolean (is_item d es)))) i
is_in_is d e o part_of_the_text = refl
is_in_is d e o a_field_of_it = refl
is_in_is d e o (in_no_collection i j k) = not_in d e i j k
is_in_is d e o (no_text_in_it i j) = no_text_in d e i j

status_of_other : (s : Status) (d : Data) → is_record d ≡ false → status_of s d ≡ stuck wrong_sort
status_of_other s (rec fs) i = untrue (sym i)
status_of_other s d i = refl

status_is : (s : Status) (d : Data) (o : Outcome) → HasStatus s d o → status_of s d ≡ o
status_is s d o (of_a_result {fs = fs} i) = ap (λ q. cond q (value (boolean (flag_is true (field_value (status_name s) fs)))) (stuck wrong_sort)) i
status_is s d o (of_no_result {fs = fs} i) = ap (λ q. cond q (value (boolean (flag_is true (field_value (status_name s) fs)))) (stuck wrong_sort)) i
status_is s d o (of_no_record i) = status_of_other s d i

no_count : (d : Data) → is_list d ≡ false → is_text d ≡ false → is_record d ≡ false → counted d ≡ stuck wrong_sort
no_count (list ds) i j k = untrue (sym i)
no_count (text s) i j k = untrue (sym j)
no_count (rec fs) i j k = untrue (sym k)
no_count d i j k = refl

length_of_it : (d : Data) (o : Outcome) → HasLength d o → counted d ≡ o
length_of_it d o so_many_items = refl
length_of_it d o so_many_characters = refl
length_of_it d o so_many_fields = refl
length_of_it d o (no_length i j k) = no_count d i j k

plain_go : (d : Data) (go : List ℕ → Outcome) → is_plain d ≡ true → plain_text d go ≡ go (rendered d)
plain_go d go i = ap (λ q. cond q (go (rendered d)) (stuck wrong_sort)) i

not_plain : (d : Data) (go : List ℕ → Outcome) → is_plain d ≡ false → plain_text d go ≡ stuck wrong_sort
not_plain d go i = ap (λ q. cond q (go (rendered d)) (stuck wrong_sort)) i

not_plain_joined : (s : List ℕ) (d : Data) (ds : Items) → is_plain d ≡ false → joined_items s (item d ds) ≡ stuck wrong_sort
not_plain_joined s d no_items i = not_plain d (λ t. value (text t)) i
not_plain_joined s d (item e ds) i = not_plain d (λ t. then_go (joined_items s (item e ds)) (with_text (t ++ s))) i

joins_items_is : (s : List ℕ) (ds : Items) (o : Outcome) → JoinsItems s ds o → joined_items s ds ≡ o
joins_items_is s ds o no_items_joined = refl
joins_items_is s ds o (one_item {d = d} i) = plain_go d (λ t. value (text t)) i
joins_items_is s ds o (more_items {d = d} {e = e} {ds = rest} {t = t} i h) =
    plain_go d (λ u. then_go (joined_items s (item e rest)) (with_text (u ++ s))) i ∙ ap (λ p. then_go p (with_text (rendered d ++ s))) (joins_items_is s (item e rest) (value (text t)) h)
joins_items_is s ds o (later_item_stuck {d = d} {e = e} {ds = rest} {y = y} i h) =
    plain_go d (λ u. then_go (joined_items s (item e rest)) (with_text (u ++ s))) i ∙ ap (λ p. then_go p (with_text (rendered d ++ s))) (joins_items_is s (item e rest) (stuck y) h)
joins_items_is s ds o (item_not_plain {d = d} {ds = rest} i) = not_plain_joined s d rest i

not_joined : (d e : Data) → is_list d && is_text e ≡ false → joined d e ≡ stuck wrong_sort
not_joined (list ds) (text s) i = untrue (sym i)
not_joined (list ds) e i = refl
not_joined d e i = refl

joins_is : (d e : Data) (o : Outcome) → Joins d e o → joined d e ≡ o
joins_is d e o (joins_items {ds = ds} {s = s} h) = joins_items_is s ds o h
joins_is d e o (joins_no_list i) = not_joined d e i

negated_other : (d : Data) → is_truth_value d ≡ false → negated d ≡ stuck wrong_sort
negated_other (boolean b) i = untrue (sym i)
negated_other d i = refl

and_other : (d : Data) (o : Outcome) → is_truth_value d ≡ false → and_then d o ≡ stuck wrong_sort
and_other (boolean b) o i = untrue (sym i)
and_other d o i = refl

or_other : (d : Data) (o : Outcome) → is_truth_value d ≡ false → or_then d o ≡ stuck wrong_sort
or_other (boolean b) o i = untrue (sym i)
or_other d o i = refl

given_readable : (d : Data) → is_unreadable d ≡ false → given d ≡ value d
given_readable opaque i = untrue (sym i)
given_readable d i = refl

there_readable : (d : Data) → is_unreadable d ≡ false → readable (value d) ≡ there d
there_readable opaque i = untrue (sym i)
there_readable d i = refl

not_text_among : (d : Data) (ns : List Name) → is_text d ≡ false → is_text_among d ns ≡ cond (holds_opaque d) (stuck wrong_sort) (value (boolean false))
not_text_among (text s) ns i = untrue (sym i)
not_text_among d ns i = refl

opaque_among : (d : Data) (ns : List Name) → holds_opaque d ≡ true → is_text_among d ns ≡ stuck wrong_sort
opaque_among (text s) ns i = untrue i
opaque_among (list ds) ns i = ap (λ q. cond q (stuck wrong_sort) (value (boolean false))) i
opaque_among (rec fs) ns i = ap (λ q. cond q (stuck wrong_sort) (value (boolean false))) i
opaque_among opaque ns i = refl
opaque_among d ns i = untrue i

item_is_put : (d : Data) (ds : Items) → is_unreadable d ≡ false → put_item d (value (list ds)) ≡ value (list (item d ds))
item_is_put opaque ds i = untrue (sym i)
item_is_put d ds i = refl

item_is_stuck : (d : Data) (y : Stuck) → is_unreadable d ≡ false → put_item d (stuck y) ≡ stuck y
item_is_stuck opaque y i = untrue (sym i)
item_is_stuck d y i = refl

pub field_is_put : (n : Name) (d : Data) (fs : Fields) → is_unreadable d ≡ false → put_part n d (value (rec fs)) ≡ value (rec (field n d fs))
field_is_put n opaque fs i = untrue (sym i)
field_is_put n d fs i = refl

pub field_is_stuck : (n : Name) (d : Data) (y : Stuck) → is_unreadable d ≡ false → put_part n d (stuck y) ≡ stuck y
field_is_stuck n opaque y i = untrue (sym i)
field_is_stuck n d y i = refl

named_active : (w : World) (t : Term) (n : Name) → Names w t (host_named n) → is_active w t ≡ value (boolean (is_among n w.batch))
named_active w t n by_its_name = refl
named_active w t n the_host_itself = refl
named_active w t n (the_item i) = ap (else_stuck undefined (λ d. is_text_among d w.batch)) i
named_active w t n (in_the_group i) = ap (λ o. member_among o w.batch) i

nobody_active : (w : World) (t : Term) → Names w t no_host → is_active w t ≡ stuck undefined
nobody_active w t (no_item_there i) = ap (else_stuck undefined (λ d. is_text_among d w.batch)) i
nobody_active w t (past_the_group i) = ap (λ o. member_among o w.batch) i

-- what is derived is what `eval` says
module _ (w : World) where
  mutual
    pub determined : (e : Expression) (o : Outcome) → Evaluates w e o → eval w e ≡ o
    determined e o literally = refl
    determined e o (at_the_path {r = r} {ns = ns} {d = d} h l) = ap (read ns) (stood r (there d) h) ∙ leads_is ns d o l
    determined e o (no_path {r = r} {ns = ns} h) = ap (read ns) (stood r absent h)
    determined e o (stuck_path {r = r} {ns = ns} {y = y} h) = ap (read ns) (stood r (failing y) h)
    determined e o hostvars_is_no_value = refl
    determined e o (turned {e = a} {b = b} h) = ap (λ p. then_go p negated) (determined a (value (boolean b)) h)
    determined e o (not_of_no_truth {e = a} {d = d} h i) = ap (λ p. then_go p negated) (determined a (value d) h) ∙ negated_other d i
    determined e o (not_of_stuck {e = a} {y = y} h) = ap (λ p. then_go p negated) (determined a (stuck y) h)
    determined e o (all_of_them {es = es} h) = all_determined es o h
    determined e o (any_of_them {es = es} h) = any_determined es o h
    determined e o (both_compared {c = c} {a = a} {b = b} {d = x} {e = y} h i j) =
        ap (λ p. then_go p (λ d. then_go (eval w b) (compared c d))) (determined a (value x) h) ∙ ap (λ p. then_go p (compared c x)) (determined b (value y) i) ∙ compares_is c x y o j
    determined e o (left_stuck {c = c} {a = a} {b = b} {y = y} h) = ap (λ p. then_go p (λ d. then_go (eval w b) (compared c d))) (determined a (stuck y) h)
    determined e o (right_stuck {c = c} {a = a} {b = b} {d = x} {y = y} h i) =
        ap (λ p. then_go p (λ d. then_go (eval w b) (compared c d))) (determined a (value x) h) ∙ ap (λ p. then_go p (compared c x)) (determined b (stuck y) i)
    determined e o (one_in_other {a = a} {b = b} {d = x} {e = y} h i j) =
        ap (λ p. then_go p (λ d. then_go (eval w b) (found_in d))) (determined a (value x) h) ∙ ap (λ p. then_go p (found_in x)) (determined b (value y) i) ∙ is_in_is x y o j
    determined e o (sought_stuck {a = a} {b = b} {y = y} h) = ap (λ p. then_go p (λ d. then_go (eval w b) (found_in d))) (determined a (stuck y) h)
    determined e o (searched_stuck {a = a} {b = b} {d = x} {y = y} h i) =
        ap (λ p. then_go p (λ d. then_go (eval w b) (found_in d))) (determined a (value x) h) ∙ ap (λ p. then_go p (found_in x)) (determined b (stuck y) i)
    determined e o (among_the_active {t = t} {n = n} h) = named_active w t n h
    determined e o (no_host_active {t = t} h) = nobody_active w t h
    determined e o (item_not_active {d = d} i j k) =
        ap (else_stuck undefined (λ x. is_text_among x w.batch)) i ∙ not_text_among d w.batch j ∙ ap (λ q. cond q (stuck wrong_sort) (value (boolean false))) k
    determined e o (item_not_readable {d = d} i k) = ap (else_stuck undefined (λ x. is_text_among x w.batch)) i ∙ opaque_among d w.batch k
    determined e o (each_step_there {r = r} {ns = ns} {d = d} {e = x} h l) = ap (is_there ns) (stood r (there d) h) ∙ ap (λ p. value (boolean (is_value p))) (leads_is ns d (value x) l)
    determined e o (step_missing {r = r} {ns = ns} {d = d} {y = y} h l) = ap (is_there ns) (stood r (there d) h) ∙ ap (λ p. value (boolean (is_value p))) (leads_is ns d (stuck y) l)
    determined e o (root_missing {r = r} {ns = ns} h) = ap (is_there ns) (stood r absent h)
    determined e o (defined_stuck {r = r} {ns = ns} {y = y} h) = ap (is_there ns) (stood r (failing y) h)
    determined e o (defined_of_no_path {e = a} {d = d} h) = ap (λ p. then_go p (λ x. stuck wrong_sort)) (determined a (value d) h)
    determined e o (defined_of_stuck {e = a} {y = y} h) = ap (λ p. then_go p (λ x. stuck wrong_sort)) (determined a (stuck y) h)
    determined e o (status_of_path {s = s} {r = r} {ns = ns} {d = d} h i) = ap (λ p. then_go p (status_of s)) (determined (path r ns) (value d) h) ∙ status_is s d o i
    determined e o (status_of_stuck_path {s = s} {r = r} {ns = ns} {y = y} h) = ap (λ p. then_go p (status_of s)) (determined (path r ns) (stuck y) h)
    determined e o (status_of_value {s = s} {e = a} {d = d} h i) = ap (λ p. then_go p (status_of s)) (determined a (value d) h) ∙ status_is s d o i
    determined e o (status_of_stuck {s = s} {e = a} {y = y} h) = ap (λ p. then_go p (status_of s)) (determined a (stuck y) h)
    determined e o (no_default_needed {r = r} {ns = ns} {e = a} {d = d} {x = x} h l) =
        ap (λ k. or_else ns k (then_go (eval w a) given)) (stood r (there d) h) ∙ ap (λ p. value_else p (then_go (eval w a) given)) (leads_is ns d (value x) l)
    determined e o (default_for_step {r = r} {ns = ns} {e = a} {d = d} {y = y} h l c) =
        ap (λ k. or_else ns k (then_go (eval w a) given)) (stood r (there d) h) ∙ ap (λ p. value_else p (then_go (eval w a) given)) (leads_is ns d (stuck y) l) ∙ chosen a o c
    determined e o (default_for_root {r = r} {ns = ns} {e = a} h c) = ap (λ k. or_else ns k (then_go (eval w a) given)) (stood r absent h) ∙ chosen a o c
    determined e o (default_stuck {r = r} {ns = ns} {e = a} {y = y} h) = ap (λ k. or_else ns k (then_go (eval w a) given)) (stood r (failing y) h)
    determined e o (default_of_no_path {a = a} h) = determined a o h
    determined e o (has_length {e = a} {d = d} h i) = ap (λ p. then_go p counted) (determined a (value d) h) ∙ length_of_it d o i
    determined e o (length_stuck {e = a} {y = y} h) = ap (λ p. then_go p counted) (determined a (stuck y) h)
    determined e o (items_joined {e = a} {s = s} {d = d} {x = x} h i j) =
        ap (λ p. then_go p (λ z. then_go (eval w s) (joined z))) (determined a (value d) h) ∙ ap (λ p. then_go p (joined d)) (determined s (value x) i) ∙ joins_is d x o j
    determined e o (joined_stuck {e = a} {s = s} {y = y} h) = ap (λ p. then_go p (λ z. then_go (eval w s) (joined z))) (determined a (stuck y) h)
    determined e o (between_stuck {e = a} {s = s} {d = d} {y = y} h i) =
        ap (λ p. then_go p (λ z. then_go (eval w s) (joined z))) (determined a (value d) h) ∙ ap (λ p. then_go p (joined d)) (determined s (stuck y) i)
    determined e o (parts_written {es = es} h) = text_determined es o h
    determined e o (items_listed {es = es} h) = items_determined es o h
    determined e o (fields_recorded {ps = ps} h) = parts_determined ps o h

    stood : (r : Root) (l : Look) → Stands w r l → look w r ≡ l
    stood r l (variable_there i) = ap found i
    stood r l (no_variable i) = ap found i
    stood r l (alias_there {e = a} {d = d} h i) = ap readable (determined a (value d) h) ∙ there_readable d i
    stood r l (alias_not_readable {e = a} h) = ap readable (determined a (value opaque) h)
    stood r l (alias_stuck {e = a} {y = y} h) = ap readable (determined a (stuck y) h)
    stood r l (other_there {t = t} {g = g} {x = x} h i) = ap (look_there w x) (names_is w t (host_named g) h) ∙ ap found i
    stood r l (other_has_none {t = t} {g = g} {x = x} h i) = ap (look_there w x) (names_is w t (host_named g) h) ∙ ap found i
    stood r l (nobody_has_it {t = t} {x = x} h) = ap (look_there w x) (names_is w t no_host h)
    stood r l (of_no_host {t = t} {x = x} h) = ap (look_there w x) (names_is w t not_a_host h)
    stood r l (member_there i) = ap (λ o. found (member_text o)) i
    stood r l (no_member i) = ap (λ o. found (member_text o)) i

    pub chosen : (e : Expression) (o : Outcome) → Chooses w e o → then_go (eval w e) given ≡ o
    chosen e o (readable_value {d = d} h i) = ap (λ p. then_go p given) (determined e (value d) h) ∙ given_readable d i
    chosen e o (chosen_not_readable h) = ap (λ p. then_go p given) (determined e (value opaque) h)
    chosen e o (chosen_stuck {y = y} h) = ap (λ p. then_go p given) (determined e (stuck y) h)

    pub all_determined : (es : Expressions) (o : Outcome) → All w es o → eval_all w es ≡ o
    all_determined es o nothing_false = refl
    all_determined es o (true_then {e = e} {es = later} h i) = ap (λ p. then_go p (λ d. and_then d (eval_all w later))) (determined e (value (boolean true)) h) ∙ only_all w later ∙ all_determined later o i
    all_determined es o (false_ends {e = e} {es = later} h) = ap (λ p. then_go p (λ d. and_then d (eval_all w later))) (determined e (value (boolean false)) h)
    all_determined es o (and_of_no_truth {e = e} {es = later} {d = d} h i) = ap (λ p. then_go p (λ x. and_then x (eval_all w later))) (determined e (value d) h) ∙ and_other d (eval_all w later) i
    all_determined es o (and_stuck {e = e} {es = later} {y = y} h) = ap (λ p. then_go p (λ d. and_then d (eval_all w later))) (determined e (stuck y) h)

    any_determined : (es : Expressions) (o : Outcome) → Any w es o → eval_any w es ≡ o
    any_determined es o nothing_true = refl
    any_determined es o (false_then {e = e} {es = later} h i) = ap (λ p. then_go p (λ d. or_then d (eval_any w later))) (determined e (value (boolean false)) h) ∙ only_any w later ∙ any_determined later o i
    any_determined es o (true_ends {e = e} {es = later} h) = ap (λ p. then_go p (λ d. or_then d (eval_any w later))) (determined e (value (boolean true)) h)
    any_determined es o (or_of_no_truth {e = e} {es = later} {d = d} h i) = ap (λ p. then_go p (λ x. or_then x (eval_any w later))) (determined e (value d) h) ∙ or_other d (eval_any w later) i
    any_determined es o (or_stuck {e = e} {es = later} {y = y} h) = ap (λ p. then_go p (λ d. or_then d (eval_any w later))) (determined e (stuck y) h)

    text_determined : (es : Expressions) (o : Outcome) → Writes w es o → eval_text w es ≡ o
    text_determined es o nothing_written = refl
    text_determined es o (part_then {e = e} {es = later} {d = d} {t = t} h i j) =
        ap (λ p. then_go p (λ x. plain_text x (λ s. then_go (eval_text w later) (with_text s)))) (determined e (value d) h) ∙ plain_go d (λ s. then_go (eval_text w later) (with_text s)) i
        ∙ ap (λ p. then_go p (with_text (rendered d))) (text_determined later (value (text t)) j)
    text_determined es o (later_part_stuck {e = e} {es = later} {d = d} {y = y} h i j) =
        ap (λ p. then_go p (λ x. plain_text x (λ s. then_go (eval_text w later) (with_text s)))) (determined e (value d) h) ∙ plain_go d (λ s. then_go (eval_text w later) (with_text s)) i
        ∙ ap (λ p. then_go p (with_text (rendered d))) (text_determined later (stuck y) j)
    text_determined es o (part_not_plain {e = e} {es = later} {d = d} h i) =
        ap (λ p. then_go p (λ x. plain_text x (λ s. then_go (eval_text w later) (with_text s)))) (determined e (value d) h) ∙ not_plain d (λ s. then_go (eval_text w later) (with_text s)) i
    text_determined es o (part_stuck {e = e} {es = later} {y = y} h) = ap (λ p. then_go p (λ x. plain_text x (λ s. then_go (eval_text w later) (with_text s)))) (determined e (stuck y) h)

    items_determined : (es : Expressions) (o : Outcome) → Lists w es o → eval_items w es ≡ o
    items_determined es o nothing_listed = refl
    items_determined es o (item_then {e = e} {es = later} {d = d} {ds = ds} h i j) =
        ap (λ p. then_go p (λ x. put_item x (eval_items w later))) (determined e (value d) h) ∙ ap (put_item d) (items_determined later (value (list ds)) j) ∙ item_is_put d ds i
    items_determined es o (later_listed_stuck {e = e} {es = later} {d = d} {y = y} h i j) =
        ap (λ p. then_go p (λ x. put_item x (eval_items w later))) (determined e (value d) h) ∙ ap (put_item d) (items_determined later (stuck y) j) ∙ item_is_stuck d y i
    items_determined es o (listed_not_readable {e = e} {es = later} h) = ap (λ p. then_go p (λ x. put_item x (eval_items w later))) (determined e (value opaque) h)
    items_determined es o (listed_stuck {e = e} {es = later} {y = y} h) = ap (λ p. then_go p (λ x. put_item x (eval_items w later))) (determined e (stuck y) h)

    pub parts_determined : (ps : Parts) (o : Outcome) → Records w ps o → eval_parts w ps ≡ o
    parts_determined ps o nothing_recorded = refl
    parts_determined ps o (field_then {n = n} {e = e} {ps = later} {d = d} {fs = fs} h i j) =
        ap (λ p. then_go p (λ x. put_part n x (eval_parts w later))) (determined e (value d) h) ∙ ap (put_part n d) (parts_determined later (value (rec fs)) j) ∙ field_is_put n d fs i
    parts_determined ps o (later_field_stuck {n = n} {e = e} {ps = later} {d = d} {y = y} h i j) =
        ap (λ p. then_go p (λ x. put_part n x (eval_parts w later))) (determined e (value d) h) ∙ ap (put_part n d) (parts_determined later (stuck y) j) ∙ field_is_stuck n d y i
    parts_determined ps o (field_not_readable {n = n} {e = e} {ps = later} h) = ap (λ p. then_go p (λ x. put_part n x (eval_parts w later))) (determined e (value opaque) h)
    parts_determined ps o (field_stuck {n = n} {e = e} {ps = later} {y = y} h) = ap (λ p. then_go p (λ x. put_part n x (eval_parts w later))) (determined e (stuck y) h)

pub derived_are_outcomes : DerivedAreOutcomes
derived_are_outcomes w e o h = determined w e o h
