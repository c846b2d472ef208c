-- No two numbers have the same name.
use Rattle.std.proofs.Common.{◌≡◌, ◌<◌, ◌≤◌, ℕ, zero, suc, ◌+◌, List, [], ◌∷◌, length, get_or, replicate, Bool, true, false, not, ◌||◌, nat_eq, cond, inl, inr, refl, sym, ap, ap₂, ◌∙◌, arith}
use Rattle.std.specs.Str.{bytes_eq}
use Rattle.std.proofs.lemmas.Bool.{cases_lt, le-ltb, lt-ltb}
use Rattle.std.proofs.lemmas.Bool.Decides.{eqb_tells}
use Rattle.std.proofs.lemmas.List.{length-replicate}
use Rattle.pb_semantics.specs.Keeps.{is_among}
use Rattle.pb_semantics.proofs.Bools.{and-left, and-right, not-true}
use Rattle.pb_semantics.proofs.Names.{own_name, same_name}
use Rattle.pb_language.specs.Expression.{Name}
use Rattle.pb_language.specs.Theorem.{are_distinct}
use Rattle.pb_history.specs.Numbers.{longest, numbered}

apart_lengths : (x y : Name) → (length x ≡ length y → ⊥) → bytes_eq x y ≡ false
apart_lengths x y differ = by (bytes_eq x y) refl where
  by : (q : Bool) → bytes_eq x y ≡ q → q ≡ false
  by true e = absurd (differ (ap length (same_name x y e)))
  by false e = refl

short_name : (ns : List Name) (i : ℕ) → i < length ns → length (get_or ns i []) ≤ longest ns
short_name [] i l = absurd (omega (arith, l))
short_name (n ∷ ns) zero l = omega arith
short_name (n ∷ ns) (suc i) l = let rest = short_name ns i (omega (arith, l)) in omega (arith, rest)

among_at : (ns : List Name) (i : ℕ) → i < length ns → is_among (get_or ns i []) ns ≡ true
among_at [] i l = absurd (omega (arith, l))
among_at (n ∷ ns) zero l = ap (λ q. q || is_among n ns) (own_name n)
among_at (n ∷ ns) (suc i) l = later (bytes_eq (get_or ns i []) n) (is_among (get_or ns i []) ns) (among_at ns i (omega (arith, l))) where
  later : (a b : Bool) → b ≡ true → (a || b) ≡ true
  later true b h = refl
  later false b h = h

first_apart : (n : Name) (ns : List Name) (i : ℕ) → is_among n ns ≡ false → i < length ns → bytes_eq n (get_or ns i []) ≡ false
first_apart n ns i none l = by (bytes_eq n (get_or ns i [])) refl where
  by : (q : Bool) → bytes_eq n (get_or ns i []) ≡ q → q ≡ false
  by true e = let no : true ≡ false = sym (among_at ns i l) ∙ ap (λ m. is_among m ns) (sym (same_name n (get_or ns i []) e)) ∙ none in cc
  by false e = refl

turned_round : (x y : Name) → bytes_eq x y ≡ false → bytes_eq y x ≡ false
turned_round x y e = by (bytes_eq y x) refl where
  by : (q : Bool) → bytes_eq y x ≡ q → q ≡ false
  by true f = let no : true ≡ false = sym (own_name x) ∙ ap (λ z. bytes_eq x z) (sym (same_name y x f)) ∙ e in cc
  by false f = refl

same_place : (ns : List Name) (i j : ℕ) → are_distinct ns ≡ true → i < length ns → j < length ns → bytes_eq (get_or ns i []) (get_or ns j []) ≡ nat_eq i j
same_place [] i j d l k = absurd (omega (arith, l))
same_place (n ∷ ns) zero zero d l k = own_name n
same_place (n ∷ ns) zero (suc j) d l k = first_apart n ns j (not-true (is_among n ns) (and-left (not (is_among n ns)) (are_distinct ns) d)) (omega (arith, k)) ∙ sym (before j) where
  before : (m : ℕ) → nat_eq 0 (suc m) ≡ false
  before m = grind arith
same_place (n ∷ ns) (suc i) zero d l k =
    turned_round n (get_or ns i []) (first_apart n ns i (not-true (is_among n ns) (and-left (not (is_among n ns)) (are_distinct ns) d)) (omega (arith, l))) ∙ sym (behind i) where
      behind : (p : ℕ) → nat_eq (suc p) 0 ≡ false
      behind p = grind arith
same_place (n ∷ ns) (suc i) (suc j) d l k = same_place ns i j (and-right (not (is_among n ns)) (are_distinct ns) d) (omega (arith, l)) (omega (arith, k)) ∙ next i j where
  next : (p m : ℕ) → nat_eq p m ≡ nat_eq (suc p) (suc m)
  next p m = grind arith

apart_numbers : (i j : ℕ) → (i ≡ j → ⊥) → nat_eq i j ≡ false
apart_numbers i j differ = elim (eqb_tells i j) [
  | inl same ↦ absurd (differ same.1)
  | inr other ↦ other.0
]

past_name : (ns : List Name) (k : ℕ) → length (replicate (suc (longest ns + k)) zero) ≡ suc (longest ns + k)
past_name ns k = length-replicate (suc (longest ns + k)) zero

pub name_within : (ns : List Name) (k : ℕ) → k < length ns → numbered ns k ≡ get_or ns k []
name_within ns k l = ap (λ q. cond q (get_or ns k []) (replicate (suc (longest ns + k)) 0)) (lt-ltb k (length ns) l)

name_behind : (ns : List Name) (k : ℕ) → length ns ≤ k → numbered ns k ≡ replicate (suc (longest ns + k)) 0
name_behind ns k l = ap (λ q. cond q (get_or ns k []) (replicate (suc (longest ns + k)) 0)) (le-ltb k (length ns) l)

pub numbers_distinct : (ns : List Name) → are_distinct ns ≡ true → (i j : ℕ) → bytes_eq (numbered ns i) (numbered ns j) ≡ nat_eq i j
numbers_distinct ns d i j = elim (cases_lt i (length ns)) [
  | inl l ↦ elim (cases_lt j (length ns)) [
    | inl k ↦ ap₂ bytes_eq (name_within ns i l) (name_within ns j k) ∙ same_place ns i j d l k
    | inr k ↦
        let short = short_name ns i l in
        ap₂ bytes_eq (name_within ns i l) (name_behind ns j k)
        ∙ apart_lengths (get_or ns i []) (replicate (suc (longest ns + j)) 0) (λ e. omega (arith, e, short, past_name ns j)) ∙ sym (apart_numbers i j (λ e. omega (arith, e, l, k)))
  ]
  | inr l ↦ elim (cases_lt j (length ns)) [
    | inl k ↦
        let short = short_name ns j k in
        ap₂ bytes_eq (name_behind ns i l) (name_within ns j k)
        ∙ apart_lengths (replicate (suc (longest ns + i)) 0) (get_or ns j []) (λ e. omega (arith, e, short, past_name ns i)) ∙ sym (apart_numbers i j (λ e. omega (arith, e, l, k)))
    | inr k ↦ ap₂ bytes_eq (name_behind ns i l) (name_behind ns j k) ∙ elim (eqb_tells i j) [
      | inl same ↦ ap (λ m. bytes_eq (replicate (suc (longest ns + i)) 0) (replicate (suc (longest ns + m)) 0)) (sym same.1) ∙ own_name (replicate (suc (longest ns + i)) 0) ∙ sym same.0
      | inr other ↦ apart_lengths (replicate (suc (longest ns + i)) 0) (replicate (suc (longest ns + j)) 0) (λ e. other.1 (omega (arith, e, past_name ns i, past_name ns j))) ∙ sym other.0
    ]
  ]
]
