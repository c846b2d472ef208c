-- What stands in a list of numbers, and at which place.
use Rattle.std.proofs.Common.{◌≡◌, ℕ, zero, suc, ◌+◌, ◌-◌, ◌<◌, ◌≤◌, List, [], ◌∷◌, ◌++◌, length, get_or, map, drop, true, refl, sym, ap, ◌∙◌, ◌⊎◌, inl, inr, arith, length-drop}
use Rattle.std.proofs.lemmas.Bool.{eq-eqb, eqb-true, or_cases, or_left, or_right}
use Rattle.std.proofs.lemmas.List.{get_or-drop, get_or-map}
use Rattle.std.specs.List.{flat_map}
use Rattle.std.specs.Prelude.{nat_eq}
use Rattle.pb_inventory.specs.Graph.{IsGraph, children_at, is_in}

pub is_in-head : (n : ℕ) (ms : List ℕ) → is_in n (n ∷ ms) ≡ true
is_in-head n ms = or_left (nat_eq n n) (is_in n ms) (eq-eqb n n refl)

pub is_in-tail : (n m : ℕ) (ms : List ℕ) → is_in n ms ≡ true → is_in n (m ∷ ms) ≡ true
is_in-tail n m ms h = or_right (nat_eq n m) (is_in n ms) h

pub is_in-at : (n : ℕ) (ms : List ℕ) (k : ℕ) → k < length ms → get_or ms k 0 ≡ n → is_in n ms ≡ true
is_in-at n [] k lt e = absurd (omega (arith, lt))
is_in-at n (m ∷ ms) zero lt e = or_left (nat_eq n m) (is_in n ms) (eq-eqb n m (sym e))
is_in-at n (m ∷ ms) (suc k) lt e = is_in-tail n m ms (is_in-at n ms k (omega (arith, lt)) e)

-- a place of a number in a list
abbrev pub Place : ℕ → List ℕ → ℕ → Type 0
Place n ms from = (k : ℕ) × (from ≤ k) × (k < length ms) × (get_or ms k 0 ≡ n)

pub place-of : (n : ℕ) (ms : List ℕ) → is_in n ms ≡ true → Place n ms 0
place-of n [] h = absurd (cc)
place-of n (m ∷ ms) h = elim (or_cases (nat_eq n m) (is_in n ms) h) [
  | inl e ↦ (0, (omega arith), (omega arith), sym (eqb-true n m e))
  | inr r ↦ let p = place-of n ms r in (suc p.0, (omega arith), (omega (arith, p.2)), p.3)
]

pub is_in-drop : (n : ℕ) (ms : List ℕ) (j k : ℕ) → j ≤ k → k < length ms → get_or ms k 0 ≡ n → is_in n (drop j ms) ≡ true
is_in-drop n ms j k le lt e =
    let back : j + (k - j) ≡ k = omega (arith, le) in
    is_in-at n (drop j ms) (k - j) (omega (arith, le, lt, length-drop j ms)) (get_or-drop j ms (k - j) 0 ∙ ap (λ t. get_or ms t 0) back ∙ e)

pub place-drop : (n : ℕ) (ms : List ℕ) (j : ℕ) → is_in n (drop j ms) ≡ true → Place n ms j
place-drop n ms j h =
    let p = place-of n (drop j ms) h in
    (j + p.0, (omega arith), (omega (arith, p.2, length-drop j ms)), sym (get_or-drop j ms p.0 0) ∙ p.3)

pub none_in : (xs : List ℕ) → ((c : ℕ) → is_in c xs ≡ true → ⊥) → xs ≡ []
none_in [] h = refl
none_in (x ∷ xs) h = absurd (h x (is_in-head x xs))

pub flat_map-same : {A : Type 0} → (f g : ℕ → List A) (xs : List ℕ) → ((c : ℕ) → is_in c xs ≡ true → f c ≡ g c) → flat_map f xs ≡ flat_map g xs
flat_map-same f g [] h = refl
flat_map-same f g (x ∷ xs) h =
    let first = h x (is_in-head x xs) in
    let rest = flat_map-same f g xs (λ c i. h c (is_in-tail c x xs i)) in
    cc

pub is_in-append_left : (n : ℕ) (xs ys : List ℕ) → is_in n xs ≡ true → is_in n (xs ++ ys) ≡ true
is_in-append_left n [] ys h = absurd (cc)
is_in-append_left n (x ∷ xs) ys h = elim (or_cases (nat_eq n x) (is_in n xs) h) [
  | inl e ↦ or_left (nat_eq n x) (is_in n (xs ++ ys)) e
  | inr r ↦ is_in-tail n x (xs ++ ys) (is_in-append_left n xs ys r)
]

pub is_in-append_right : (n : ℕ) (xs ys : List ℕ) → is_in n ys ≡ true → is_in n (xs ++ ys) ≡ true
is_in-append_right n [] ys h = h
is_in-append_right n (x ∷ xs) ys h = is_in-tail n x (xs ++ ys) (is_in-append_right n xs ys h)

pub is_in-append : (n : ℕ) (xs ys : List ℕ) → is_in n (xs ++ ys) ≡ true → (is_in n xs ≡ true) ⊎ (is_in n ys ≡ true)
is_in-append n [] ys h = inr h
is_in-append n (x ∷ xs) ys h = elim (or_cases (nat_eq n x) (is_in n (xs ++ ys)) h) [
  | inl e ↦ inl (or_left (nat_eq n x) (is_in n xs) e)
  | inr r ↦ elim (is_in-append n xs ys r) [ inl a ↦ inl (is_in-tail n x xs a) | inr b ↦ inr b ]
]

pub is_in-flat_map : (n : ℕ) (f : ℕ → List ℕ) (xs : List ℕ) (c : ℕ) → is_in c xs ≡ true → is_in n (f c) ≡ true → is_in n (flat_map f xs) ≡ true
is_in-flat_map n f [] c h m = absurd (cc)
is_in-flat_map n f (x ∷ xs) c h m = elim (or_cases (nat_eq c x) (is_in c xs) h) [
  | inl e ↦ is_in-append_left n (f x) (flat_map f xs) (ap (λ y. is_in n (f y)) (sym (eqb-true c x e)) ∙ m)
  | inr r ↦ is_in-append_right n (f x) (flat_map f xs) (is_in-flat_map n f xs c r m)
]

pub from-flat_map : (n : ℕ) (f : ℕ → List ℕ) (xs : List ℕ) → is_in n (flat_map f xs) ≡ true → (c : ℕ) × (is_in c xs ≡ true) × (is_in n (f c) ≡ true)
from-flat_map n f [] h = absurd (cc)
from-flat_map n f (x ∷ xs) h = elim (is_in-append n (f x) (flat_map f xs) h) [
  | inl a ↦ (x, is_in-head x xs, a)
  | inr b ↦ let p = from-flat_map n f xs b in (p.0, is_in-tail p.0 x xs p.1, p.2)
]

pub children-of : {X : Type 0} → (lists : X → List ℕ) (xs : List X) (i : ℕ) (x : X) → i < length xs → x ≡ get_or xs i x → children_at (map lists xs) i ≡ lists x
children-of lists xs i x lt e = get_or-map lists xs i x [] lt ∙ ap lists (sym e)

pub nodes-of : (cs : List (List ℕ)) → IsGraph cs → (i : ℕ) (ds : List ℕ) → children_at cs i ≡ ds → (k : ℕ) → k < length ds → get_or ds k 0 < length cs
nodes-of cs g i ds e k lt = g i (get_or ds k 0) (ap (is_in (get_or ds k 0)) e ∙ is_in-at (get_or ds k 0) ds k lt refl)
