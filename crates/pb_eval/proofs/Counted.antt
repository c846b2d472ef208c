-- Each field of a map counts.
use Rattle.std.proofs.Common.{◌≡◌, ℕ, List, [], ◌∷◌, ◌++◌, false, ◌||◌, String, Global, Less, string_bytes, string_cmp, bytes_eq, refl, sym, ap, ◌∙◌}
use Rattle.std.proofs.lemmas.Cmp.{nat_list_cmp_total}
use Rattle.std.proofs.lemmas.Map.Text.{is_eq-slice_cmp}
use Rattle.std.specs.List.Sorted.{IsStrictlySortedBy}
use Rattle.std.specs.Ordering.{is_eq, ordering_reverse}
use Rattle.pb_semantics.specs.Keeps.{is_among}
use Rattle.pb_language.specs.Evaluation.{holds_opaque, any_field_opaque}
use Rattle.pb_value.specs.View.{view, fields_view}
use Rattle.pb_value.proofs.Fields.{Entry}
use Rattle.pb_syntax.proofs.Ascending.{Above, Ascending}

later_differs : (n m : String Global) → string_cmp n m ≡ Less → bytes_eq (string_bytes m) (string_bytes n) ≡ false
later_differs n m h =
    sym (is_eq-slice_cmp (string_bytes m) (string_bytes n)) ∙ ap is_eq (nat_list_cmp_total.antisymm (string_bytes m) (string_bytes n) ∙ ap ordering_reverse h)

among-last : (n m : List ℕ) (seen : List (List ℕ)) → bytes_eq m n ≡ false → is_among m (seen ++ n ∷ []) ≡ is_among m seen
among-last n m [] h = rw h refl
among-last n m (k ∷ seen) h = ap (λ b. bytes_eq m k || b) (among-last n m seen h)

unseen : (n : String Global) (es : List Entry) (seen : List (List ℕ)) → Above n es → any_field_opaque (seen ++ string_bytes n ∷ []) (fields_view es) ≡ any_field_opaque seen (fields_view es)
unseen n [] seen h = refl
unseen n (e ∷ es) seen h =
    rw (among-last (string_bytes n) (string_bytes e.0) seen (later_differs n e.0 h.0), unseen n es (string_bytes e.0 ∷ seen) h.1) refl

-- each field of a map counts
pub field-counts : (e : Entry) (es : List Entry) → Ascending (e ∷ es) → any_field_opaque [] (fields_view (e ∷ es)) ≡ holds_opaque (view e.1) || any_field_opaque [] (fields_view es)
unfolding IsStrictlySortedBy
field-counts e es h = ap (λ b. holds_opaque (view e.1) || b) (unseen e.0 es [] h.0)
