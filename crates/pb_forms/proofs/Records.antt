-- The slots of a record, built in the order of the fields' names.
use Rattle.std.proofs.Common.{◌≡◌, List, [], ◌∷◌, ◌++◌, true, false, String, Global, Less, Greater, string_bytes, nat_cmp, bytes_eq, refl, sym, ap, ◌∙◌}
use Rattle.std.proofs.lemmas.Cmp.{nat_list_cmp_total}
use Rattle.std.proofs.lemmas.Map.Text.{is_eq-slice_cmp}
use Rattle.std.specs.Cmp.Lexicographic.{slice_cmp}
use Rattle.std.specs.List.Sorted.{IsStrictlySortedBy}
use Rattle.std.specs.Ordering.{is_eq, ordering_reverse}
use Rattle.pb_semantics.specs.Kind.{KindData, Slots, no_slots, slot, put_slot}
use Rattle.pb_language.specs.Expansion.{expanded, parts_expanded}
use Rattle.pb_syntax.specs.Aliases.{Trees}
use Rattle.pb_language.specs.Scope.{Scope, without_slot, with_slot}
use Rattle.pb_language.specs.Kinds.{known_kind, known_slots, kind_of, parts_slots}
use Rattle.pb_value.specs.View.{view, fields_view}
use Rattle.pb_value.specs.declared.value.Value.{Value}
use Rattle.pb_syntax.specs.ExprView.{expr_view, parts_view}
use Rattle.pb_syntax.specs.declared.expr.Expr.{Expr}
use Rattle.pb_syntax.proofs.Ascending.{Above, Ascending, above-middle}

-- the slots of entries, each certain, of which the kind is known
abbrev pub slots_from : {V : Type 0} → (V → KindData) → List (String Global × V) → Slots
slots_from f [] = no_slots
slots_from f (m ∷ ms) = slot (string_bytes m.0) true (f m.1) (slots_from f ms)

-- a key that is above those before it goes last
pub put_slot-last : {V : Type 0} → (f : V → KindData) (done : List (String Global × V)) (e : String Global × V) (more : List (String Global × V)) → Ascending (done ++ e ∷ more)
    → put_slot (string_bytes e.0) true (f e.1) (slots_from f done) ≡ slots_from f (done ++ e ∷ [])
unfolding IsStrictlySortedBy
put_slot-last f [] e more h = refl
put_slot-last f (first ∷ done) e more h =
    let above : slice_cmp nat_cmp (string_bytes e.0) (string_bytes first.0) ≡ Greater =
    nat_list_cmp_total.antisymm (string_bytes e.0) (string_bytes first.0) ∙ ap ordering_reverse (above-middle first done e more h.0) in
    rw above (ap (slot (string_bytes first.0) true (f first.1)) (put_slot-last f done e more h.1))

without-above : {V : Type 0} → (f : V → KindData) (n : String Global) (es : List (String Global × V)) → Above n es → without_slot (string_bytes n) (slots_from f es) ≡ slots_from f es
without-above f n [] h = refl
without-above f n (e ∷ es) h =
    let other : bytes_eq (string_bytes n) (string_bytes e.0) ≡ false = sym (is_eq-slice_cmp (string_bytes n) (string_bytes e.0)) ∙ ap is_eq h.0 in
    rw other (ap (slot (string_bytes e.0) true (f e.1)) (without-above f n es h.1))

put-above : {V : Type 0} → (f : V → KindData) (n : String Global) (k : KindData) (es : List (String Global × V)) → Above n es → put_slot (string_bytes n) true k (slots_from f es) ≡ slot (string_bytes n) true k (slots_from f es)
put-above f n k [] h = refl
put-above f n k (e ∷ es) h = let below : slice_cmp nat_cmp (string_bytes n) (string_bytes e.0) ≡ Less = h.0 in rw below refl

-- a key that is below those after it goes first
with_slot-first : {V : Type 0} → (f : V → KindData) (e : String Global × V) (es : List (String Global × V)) → Above e.0 es → with_slot (string_bytes e.0) true (f e.1) (slots_from f es) ≡ slots_from f (e ∷ es)
with_slot-first f e es h = ap (put_slot (string_bytes e.0) true (f e.1)) (without-above f e.0 es h) ∙ put-above f e.0 (f e.1) es h

pub known_slots-ascending : (es : List (String Global × Value)) → Ascending es → known_slots (fields_view es) ≡ slots_from (λ v. known_kind (view v)) es
unfolding IsStrictlySortedBy
known_slots-ascending [] h = refl
known_slots-ascending (e ∷ es) h = ap (λ ss. with_slot (string_bytes e.0) true (known_kind (view e.1)) ss) (known_slots-ascending es h.1) ∙ with_slot-first (λ v. known_kind (view v)) e es h.0

pub parts_slots-ascending : (c : Scope) (f : Trees) (es : List (String Global × Expr)) → Ascending es
    → parts_slots c (parts_expanded f (parts_view es)) ≡ slots_from (λ e. kind_of c (expanded f (expr_view e))) es
unfolding IsStrictlySortedBy
parts_slots-ascending c f [] h = refl
parts_slots-ascending c f (e ∷ es) h =
    ap (λ ss. with_slot (string_bytes e.0) true (kind_of c (expanded f (expr_view e.1))) ss) (parts_slots-ascending c f es h.1)
    ∙ with_slot-first (λ x. kind_of c (expanded f (expr_view x))) e es h.0
