-- A record that is projected field by field.
use Rattle.std.proofs.Common.{◌≡◌, ℕ, suc, ◌+◌, ◌<◌, length, drop, get_or, add-one, drop-cons, List, ◌∷◌, [], ◌++◌, Bool, Option, Some, None, option_map, Greater, string_bytes, string_cmp, nat_cmp, refl, sym, ap}
use Rattle.std.specs.Cmp.Lexicographic.{slice_cmp}
use Rattle.std.specs.List.Sorted.{IsStrictlySortedBy}
use Rattle.std.specs.Map.{keys_of}
use Rattle.pb_semantics.specs.Data.{Data, Items, Fields, no_items, item, no_fields, field, field_value}
use Rattle.pb_semantics.specs.Project.{projected, projected_items, projected_fields, with_item, with_field}
use Rattle.pb_value.specs.Append.{append_items, append_fields}
use Rattle.pb_value.specs.View.{view, items_view}
use Rattle.pb_value.specs.declared.value.Value.{Value}
use Rattle.pb_value.proofs.Appended.{append_fields-assoc, append_items-assoc, greater_turned}
use Rattle.pb_kind.specs.KindView.{kind_view, slots_view, is_always}
use Rattle.pb_kind.proofs.KindLemmas.{SlotEntry}

-- what was found, and after it the rest, where there is one
abbrev pub and_items : Items → Option Items → Option Items
and_items ds o = option_map (λ es. append_items ds es) o

abbrev pub and_fields : Fields → Option Fields → Option Fields
and_fields fs o = option_map (λ gs. append_fields fs gs) o

pub and_items-step : (ds : Items) (e : Data) (o : Option Items) → and_items ds (with_item (Some e) o) ≡ and_items (append_items ds (item e no_items)) o
and_items-step ds e None = refl
and_items-step ds e (Some es) = ap Some (sym (append_items-assoc ds (item e no_items) es))

pub and_fields-step : (fs : Fields) (n : List ℕ) (a : Bool) (e : Data) (o : Option Fields) → and_fields fs (with_field n a (Some (Some e)) o) ≡ and_fields (append_fields fs (field n e no_fields)) o
and_fields-step fs n a e None = refl
and_fields-step fs n a e (Some gs) = ap Some (sym (append_fields-assoc fs (field n e no_fields) gs))

pub and_fields-nothing : (o : Option Fields) → and_fields no_fields o ≡ o
and_fields-nothing None = refl
and_fields-nothing (Some gs) = refl

-- of two neighbours the second comes after the first
pub neighbours : (done : List SlotEntry) (e f : SlotEntry) (more : List SlotEntry) → IsStrictlySortedBy string_cmp (keys_of (done ++ e ∷ f ∷ more)) → slice_cmp nat_cmp (string_bytes f.0) (string_bytes e.0) ≡ Greater
unfolding IsStrictlySortedBy
neighbours [] e f more h = greater_turned (string_bytes f.0) (string_bytes e.0) h.0.0
neighbours (x ∷ done) e f more h = neighbours done e f more h.1

pub projected_fields-there : (fs : Fields) (e : SlotEntry) (left : List SlotEntry) (d : Data) → field_value (string_bytes e.0) fs ≡ Some d
    → projected_fields fs (slots_view (e ∷ left)) ≡ with_field (string_bytes e.0) (is_always e.1.presence) (Some (projected d (kind_view e.1.kind))) (projected_fields fs (slots_view left))
projected_fields-there fs e left d found = rw found refl

pub projected_fields-missing : (fs : Fields) (e : SlotEntry) (left : List SlotEntry) → field_value (string_bytes e.0) fs ≡ None
    → projected_fields fs (slots_view (e ∷ left)) ≡ with_field (string_bytes e.0) (is_always e.1.presence) None (projected_fields fs (slots_view left))
projected_fields-missing fs e left lacks = rw lacks refl

-- one turn of the loop over a list's items
pub each_step : (f : Data → Option Data) (vs : List Value) (i : ℕ) (v : Value) (so_far : Items) (d : Data) → i < length vs → v ≡ get_or vs i v → f (view v) ≡ Some d
    → and_items so_far (projected_items f (items_view (drop i vs))) ≡ and_items (append_items so_far (item d no_items)) (projected_items f (items_view (drop (i + 1) vs)))
each_step f vs i v so_far d within is fit =
    rw (add-one, drop-cons vs i v, ← is, fit) (and_items-step so_far d (projected_items f (items_view (drop (suc i) vs))))
