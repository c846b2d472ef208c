-- Fields and items behind others, and names that come after all of them.
use Rattle.std.proofs.Common.{◌≡◌, ℕ, List, [], ◌∷◌, ◌++◌, Less, Greater, nat_cmp, refl, ap, ◌∙◌}
use Rattle.std.proofs.lemmas.Cmp.{nat_list_cmp_total}
use Rattle.std.specs.Cmp.Lexicographic.{slice_cmp}
use Rattle.std.specs.Ordering.{ordering_reverse}
use Rattle.pb_semantics.specs.Data.{Data, Items, Fields, no_items, item, no_fields, field, put_field}
use Rattle.pb_value.specs.Append.{append_items, append_fields}
use Rattle.pb_value.specs.View.{view, items_view}
use Rattle.pb_value.specs.declared.value.Value.{Value}

pub append_items-assoc : (a b c : Items) → append_items (append_items a b) c ≡ append_items a (append_items b c)
append_items-assoc no_items b c = refl
append_items-assoc (item d a) b c = ap (item d) (append_items-assoc a b c)

pub append_fields-assoc : (a b c : Fields) → append_fields (append_fields a b) c ≡ append_fields a (append_fields b c)
append_fields-assoc no_fields b c = refl
append_fields-assoc (field n d a) b c = ap (field n d) (append_fields-assoc a b c)

pub append_fields-none : (fs : Fields) → append_fields fs no_fields ≡ fs
append_fields-none no_fields = refl
append_fields-none (field n d fs) = ap (field n d) (append_fields-none fs)

pub append_items-none : (ds : Items) → append_items ds no_items ≡ ds
append_items-none no_items = refl
append_items-none (item d ds) = ap (item d) (append_items-none ds)

-- the name comes after each of the fields'
abbrev pub IsAbove : List ℕ → Fields → Type 0
IsAbove n no_fields = Unit {0}
IsAbove n (field m d fs) = (slice_cmp nat_cmp n m ≡ Greater) × IsAbove n fs

pub put_field-above : (n : List ℕ) (d : Data) (fs : Fields) → IsAbove n fs → put_field n d fs ≡ append_fields fs (field n d no_fields)
put_field-above n d no_fields h = refl
put_field-above n d (field m e fs) h = rw h.0 (ap (field m e) (put_field-above n d fs h.1))

less_turned : (n m : List ℕ) → slice_cmp nat_cmp n m ≡ Greater → slice_cmp nat_cmp m n ≡ Less
less_turned n m h = nat_list_cmp_total.antisymm m n ∙ ap ordering_reverse h

pub greater_turned : (n m : List ℕ) → slice_cmp nat_cmp m n ≡ Less → slice_cmp nat_cmp n m ≡ Greater
greater_turned n m h = nat_list_cmp_total.antisymm n m ∙ ap ordering_reverse h

further : (n m l : List ℕ) → slice_cmp nat_cmp n m ≡ Greater → slice_cmp nat_cmp m l ≡ Greater → slice_cmp nat_cmp n l ≡ Greater
further n m l h i = greater_turned n l (nat_list_cmp_total.trans l m n (less_turned m l i) (less_turned n m h))

pub IsAbove-further : (n m : List ℕ) (fs : Fields) → slice_cmp nat_cmp n m ≡ Greater → IsAbove m fs → IsAbove n fs
IsAbove-further n m no_fields h i = tt
IsAbove-further n m (field l d fs) h i = (further n m l h i.0, IsAbove-further n m fs h i.1)

pub IsAbove-append : (n m : List ℕ) (d : Data) (fs : Fields) → slice_cmp nat_cmp n m ≡ Greater → IsAbove m fs → IsAbove n (append_fields fs (field m d no_fields))
IsAbove-append n m d no_fields h i = (h, tt)
IsAbove-append n m d (field l e fs) h i = (further n m l h i.0, IsAbove-append n m d fs h i.1)

pub items_view-push : (vs : List Value) (v : Value) → items_view (vs ++ v ∷ []) ≡ append_items (items_view vs) (item (view v) no_items)
items_view-push [] v = refl
items_view-push (w ∷ vs) v = ap (item (view w)) (items_view-push vs v)
