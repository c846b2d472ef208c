-- Variables as they may be read, one after the other, and in a layer over others.
use Rattle.std.proofs.Common.{◌≡◌, ℕ, ◌+◌, ◌<◌, length, get_or, take, List, [], ◌∷◌, ◌++◌, true, false, cond, Greater, string_bytes, string_cmp, nat_cmp, map, refl, sym, ap, ◌∙◌}
use Rattle.std.proofs.lemmas.Cmp.{nat_list_cmp_total}
use Rattle.std.proofs.lemmas.List.{take_more}
use Rattle.std.specs.Cmp.Lexicographic.{slice_cmp}
use Rattle.std.specs.List.Sorted.{IsStrictlySortedBy}
use Rattle.std.specs.Map.{keys_of}
use Rattle.std.specs.Ordering.{ordering_reverse}
use Rattle.pb_semantics.specs.Data.{Data, Fields, field, item, no_fields, no_items, put_field}
use Rattle.pb_semantics.specs.Keeps.{is_among}
use Rattle.pb_language.specs.Inventories.{items_of, fields_of as fields_meant, overlaid, variable_of}
use Rattle.pb_language.specs.Rules.{reserved_names}
use Rattle.pb_value.proofs.Fields.{Entry}
use Rattle.pb_value.proofs.Appended.{IsAbove, IsAbove-append, IsAbove-further, items_view-push, put_field-above}
use Rattle.pb_value.specs.Append.{append_fields, append_items}
use Rattle.pb_value.specs.View.{view, items_view, fields_of, fields_view}
use Rattle.pb_value.specs.declared.value.Value.{Value}
use Rattle.pb_inventory.specs.Views.{laid}

-- ---- items and fields, each as it may be read

items_of-push : (vs : List Value) (v : Value) → items_of (items_view (vs ++ v ∷ [])) ≡ append_items (items_of (items_view vs)) (item (variable_of (view v)) no_items)
items_of-push [] v = refl
items_of-push (w ∷ vs) v = ap (item (variable_of (view w))) (items_of-push vs v)

-- one more item is read
pub items_of-next : (vs found all : List Value) (i : ℕ) (v w : Value) → i < length vs → v ≡ get_or vs i v → all ≡ found ++ w ∷ [] → view w ≡ variable_of (view v)
    → items_view found ≡ items_of (items_view (take i vs)) → items_view all ≡ items_of (items_view (take (i + 1) vs))
items_of-next vs found all i v w lt is e read so_far =
    ap items_view e ∙ items_view-push found w ∙ ap (λ ds. append_items ds (item (view w) no_items)) so_far ∙ ap (λ d. append_items (items_of (items_view (take i vs))) (item d no_items)) read
    ∙ sym (items_of-push (take i vs) v) ∙ ap (λ xs. items_of (items_view xs)) (ap (λ x. take i vs ++ x ∷ []) is ∙ sym (take_more vs i v lt))

pub read_fields : (es : List Entry) → fields_meant (fields_view es) ≡ fields_of (map (λ m. (m.0, variable_of (view m.1))) es)
read_fields [] = refl
read_fields (e ∷ es) = ap (field (string_bytes e.0) (variable_of (view e.1))) (read_fields es)

-- ---- a layer over others

laid-append : (vs fs gs : Fields) → laid vs (append_fields fs gs) ≡ laid (laid vs fs) gs
laid-append vs no_fields gs = refl
laid-append vs (field n d fs) gs = laid-append (put_field n d vs) fs gs

-- the next entry comes after the fields that a layer has so far
abbrev pub IsNext : Fields → List Entry → Type 0
IsNext fs es = (e : Entry) (more : List Entry) → es ≡ e ∷ more → IsAbove (string_bytes e.0) fs

later : (e f : Entry) (more : List Entry) → IsStrictlySortedBy string_cmp (keys_of (e ∷ f ∷ more)) → slice_cmp nat_cmp (string_bytes f.0) (string_bytes e.0) ≡ Greater
unfolding IsStrictlySortedBy
later e f more h = nat_list_cmp_total.antisymm (string_bytes f.0) (string_bytes e.0) ∙ ap ordering_reverse h.0.0

pub still_sorted : (e : Entry) (left : List Entry) → IsStrictlySortedBy string_cmp (keys_of (e ∷ left)) → IsStrictlySortedBy string_cmp (keys_of left)
unfolding IsStrictlySortedBy
still_sorted e left h = h.1

-- a field that is put in last
pub next-put : (e : Entry) (left : List Entry) (d : Data) (fs : Fields) → IsStrictlySortedBy string_cmp (keys_of (e ∷ left)) → IsAbove (string_bytes e.0) fs → IsNext (put_field (string_bytes e.0) d fs) left
next-put e [] d fs sorted above = λ f more h. absurd (cc)
next-put e (g ∷ left) d fs sorted above = λ f more h.
    let same : g ≡ f = cc in
    rw (put_field-above (string_bytes e.0) d fs above, ← same) (IsAbove-append (string_bytes g.0) (string_bytes e.0) d fs (later e g left sorted) above)

pub next-passed : (e : Entry) (left : List Entry) (fs : Fields) → IsStrictlySortedBy string_cmp (keys_of (e ∷ left)) → IsAbove (string_bytes e.0) fs → IsNext fs left
next-passed e [] fs sorted above = λ f more h. absurd (cc)
next-passed e (g ∷ left) fs sorted above = λ f more h.
    let same : g ≡ f = cc in
    rw (← same) (IsAbove-further (string_bytes g.0) (string_bytes e.0) fs (later e g left sorted) above)

pub overlaid-put : (e : Entry) (left : List Entry) (fs vs : Fields) → IsAbove (string_bytes e.0) fs → is_among (string_bytes e.0) reserved_names ≡ false
    → overlaid (laid vs (put_field (string_bytes e.0) (variable_of (view e.1)) fs)) (fields_view left) ≡ overlaid (laid vs fs) (fields_view (e ∷ left))
overlaid-put e left fs vs above free =
    let n = string_bytes e.0 in
    let d = variable_of (view e.1) in
    ap (λ gs. overlaid (laid vs gs) (fields_view left)) (put_field-above n d fs above) ∙ ap (λ gs. overlaid gs (fields_view left)) (laid-append vs fs (field n d no_fields))
    ∙ ap (λ b. overlaid (cond b (laid vs fs) (put_field n d (laid vs fs))) (fields_view left)) (sym free)

pub overlaid-passed : (e : Entry) (left : List Entry) (fs vs : Fields) → is_among (string_bytes e.0) reserved_names ≡ true
    → overlaid (laid vs fs) (fields_view left) ≡ overlaid (laid vs fs) (fields_view (e ∷ left))
overlaid-passed e left fs vs taken =
    ap (λ b. overlaid (cond b (laid vs fs) (put_field (string_bytes e.0) (variable_of (view e.1)) (laid vs fs))) (fields_view left)) (sym taken)
