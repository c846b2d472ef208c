-- Laws of equality of lists, and of a text's parts.
use Rattle.std.proofs.Common.{◌≡◌, ℕ, suc, List, [], ◌∷◌, ◌++◌, length, Bool, true, false, ◌||◌, nat_eq, refl, sym, ap, ◌∙◌, ⊎_elim}
use Rattle.std.proofs.lemmas.Bool.{and_right, and_parts, or_cases, eqb-true, eq-eqb, MatchBool-at_true, MatchBool-at_false}
use Rattle.std.specs.Bool.{MatchBool}
use Rattle.pb_semantics.specs.Equal.{data_eq, items_eq, begins, is_part}
use Rattle.pb_value.specs.View.{view, items_view}
use Rattle.pb_value.specs.declared.value.Value.{Value}

-- lists of different lengths aren't equal
pub items_eq-lengths : (vs ws : List Value) → (length vs ≡ length ws → ⊥) → items_eq (items_view vs) (items_view ws) ≡ false
items_eq-lengths [] [] h = absurd (h refl)
items_eq-lengths [] (w ∷ ws) h = refl
items_eq-lengths (v ∷ vs) [] h = refl
items_eq-lengths (v ∷ vs) (w ∷ ws) h =
    and_right (data_eq (view v) (view w)) (items_eq (items_view vs) (items_view ws)) (items_eq-lengths vs ws (λ e. h (ap suc e)))

or_right : (b : Bool) → (b || true) ≡ true
or_right true = refl
or_right false = refl

begins-front : (s t : List ℕ) → begins s (s ++ t) ≡ true
begins-front [] t = refl
begins-front (a ∷ s) t = rw (eq-eqb a a refl) (begins-front s t)

is_part-front : (s t : List ℕ) → begins s t ≡ true → is_part s t ≡ true
is_part-front s [] h = h
is_part-front s (b ∷ t) h = rw h refl

-- what stands in the middle is a part
is_part-middle : (s a b : List ℕ) → is_part s (a ++ (s ++ b)) ≡ true
is_part-middle s [] b = is_part-front s (s ++ b) (begins-front s b)
is_part-middle s (x ∷ a) b = rw (is_part-middle s a b) (or_right (begins s (x ∷ (a ++ (s ++ b)))))

rest_after : (s t : List ℕ) → begins s t ≡ true → (b : List ℕ) × (t ≡ s ++ b)
rest_after [] t h = (t, refl)
rest_after (a ∷ s) [] h = absurd (cc h)
rest_after (a ∷ s) (b ∷ t) h =
    let parts = and_parts (nat_eq a b) (begins s t) h in
    let more = rest_after s t parts.1 in
    (more.0, ap (λ x. x ∷ t) (sym (eqb-true a b parts.0)) ∙ ap (λ x. a ∷ x) more.1)

-- a part stands somewhere
part_place : (s t : List ℕ) → is_part s t ≡ true → (a : List ℕ) × (b : List ℕ) × (t ≡ a ++ (s ++ b))
part_place s [] h = let more = rest_after s [] h in ([], more.0, more.1)
part_place s (x ∷ t) h =
    ⊎_elim
    (λ here. let more = rest_after s (x ∷ t) here in ([], more.0, more.1))
    (λ later. let more = part_place s t later in (x ∷ more.0, more.1, ap (λ y. x ∷ y) more.2))
    (or_cases (begins s (x ∷ t)) (is_part s t) h)

same_test : (r p : Bool) → (r ≡ true → p ≡ true) → (r ≡ false → p ≡ true → ⊥) → r ≡ p
same_test true p f g = sym (f refl)
same_test false true f g = absurd (g refl refl)
same_test false false f g = refl

-- a test that is true just where the text stands somewhere
pub is_part-test : (r : Bool) (s t : List ℕ) → MatchBool r ((a : List ℕ) × (b : List ℕ) × (t ≡ a ++ (s ++ b))) (((a : List ℕ) × (b : List ℕ) × (t ≡ a ++ (s ++ b))) → ⊥) → r ≡ is_part s t
is_part-test r s t h =
    same_test r (is_part s t)
    (λ e. let place = MatchBool-at_true _ _ e h in ap (is_part s) place.2 ∙ is_part-middle s place.0 place.1)
    (λ e there. MatchBool-at_false _ _ e h (part_place s t there))
