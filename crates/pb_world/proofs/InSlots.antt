-- Variables that are read by their slots.
use Rattle.std.proofs.Common.{◌≡◌, ◌∙◌, ℕ, zero, suc, ◌<◌, ◌≤◌, List, [], ◌∷◌, length, get_or, Bool, true, false, not, ◌||◌, bytes_eq, cond, Option, Some, None, refl, sym, ap, subst, arith}
use Rattle.std.specs.Prelude.{nat_lt, slice_get}
use Rattle.std.specs.List.{position_or_len}
use Rattle.std.proofs.lemmas.Bool.{ltb-false, ltb-true}
use Rattle.std.proofs.lemmas.List.Sums.{passes_at_first, fails_before_first}
use Rattle.std.proofs.lemmas.Option.{slice_get-get_or}
use Rattle.pb_semantics.specs.Data.{Data, Fields, field_value}
use Rattle.pb_semantics.specs.Keeps.{is_among}
use Rattle.pb_semantics.proofs.Ascending.{below-first, below-rest}
use Rattle.pb_semantics.proofs.Bools.{and-both, and-left, and-right, not-true, or-left, true-false, untrue}
use Rattle.pb_semantics.proofs.Names.{own_name, same_name}
use Rattle.pb_language.specs.Expression.{Name}
use Rattle.pb_language.specs.Theorem.{are_distinct}
use Rattle.pb_facts.specs.Variables.{or_else, slot_value, variables_over, VariablesAreRead}
use Rattle.pb_slots.specs.Slots.{slot_in}
use Rattle.pb_template.specs.Entries.{are_ascending, is_below}
use Rattle.pb_vars.proofs.Ordered.{less-differs}

-- names in their order stand once
below-new : (n : Name) (ns : List Name) → is_below n ns ≡ true → is_among n ns ≡ false
below-new n [] h = refl
below-new n (m ∷ ms) h = rw (less-differs n m (below-first n m ms h)) (below-new n ms (below-rest n m ms h))

pub ascending-distinct : (ns : List Name) → are_ascending ns ≡ true → are_distinct ns ≡ true
ascending-distinct [] h = refl
ascending-distinct (n ∷ ns) h =
    and-both (not (is_among n ns)) (are_distinct ns) (ap not (below-new n ns (and-left (is_below n ns) (are_ascending ns) h))) (ascending-distinct ns (and-right (is_below n ns) (are_ascending ns) h))

-- the value of a name is in its slot
among-at : (ns : List Name) (i : ℕ) (n : Name) → slice_get ns i ≡ Some n → is_among n ns ≡ true
among-at [] i n h = absurd (cc)
among-at (m ∷ ms) zero n h =
    let same : n ≡ m = cc in ap (λ k. is_among k (m ∷ ms)) same ∙ or-left (bytes_eq m m) (is_among m ms) (own_name m)
among-at (m ∷ ms) (suc i) n h = later (bytes_eq n m) (is_among n ms) (among-at ms i n h) where
  later : (a b : Bool) → b ≡ true → (a || b) ≡ true
  later a b h = rw h (grind arith)

chosen : {A : Type 0} (q : Bool) (a b : A) → q ≡ true → cond q a b ≡ a
chosen true a b h = refl
chosen false a b h = untrue h

passed : {A : Type 0} (q : Bool) (a b : A) → q ≡ false → cond q a b ≡ b
passed true a b h = untrue (sym h)
passed false a b h = refl

pub slot-there : (n : Name) (names : List Name) (vs : List (Option Data)) (i : ℕ) → are_distinct names ≡ true → slice_get names i ≡ Some n → slot_value n names vs ≡ get_or vs i None
slot-there n [] vs i d h = absurd (cc)
slot-there n (m ∷ ms) [] zero d h = refl
slot-there n (m ∷ ms) [] (suc i) d h = refl
slot-there n (m ∷ ms) (v ∷ vs) zero d h = let same : m ≡ n = cc in chosen (bytes_eq n m) v (slot_value n ms vs) (ap (λ k. bytes_eq n k) same ∙ own_name n)
slot-there n (m ∷ ms) (v ∷ vs) (suc i) d h =
    let new : is_among m ms ≡ false = not-true (is_among m ms) (and-left (not (is_among m ms)) (are_distinct ms) d) in
    passed (bytes_eq n m) v (slot_value n ms vs) (apart (bytes_eq n m) refl new) ∙ slot-there n ms vs i (and-right (not (is_among m ms)) (are_distinct ms) d) h where
      apart : (q : Bool) → bytes_eq n m ≡ q → is_among m ms ≡ false → q ≡ false
      apart true e new = true-false (is_among m ms) (subst (λ k. is_among k ms ≡ true) (same_name n m e) (among-at ms i n h)) new
      apart false e new = refl

-- where a name has a slot, it stands there; where it has none, nothing is in slots
slot-place : (b : Bool) (k i : ℕ) → cond b (Some k) None ≡ Some i → (b ≡ true) × (k ≡ i)
slot-place true k i h = (refl, cc)
slot-place false k i h = absurd (cc)

pub slot-found : (n : Name) (names : List Name) (i : ℕ) → slot_in names n ≡ Some i → slice_get names i ≡ Some n
slot-found n names i h =
    let place = position_or_len (bytes_eq n) names in
    let told = slot-place (nat_lt place (length names)) place i h in
    let within : place < length names = ltb-true place (length names) told.0 in
    ap (slice_get names) (sym told.1) ∙ slice_get-get_or names place [] within ∙ ap Some (sym (same_name n (get_or names place []) (passes_at_first (bytes_eq n) names [] within)))

no-place : (b : Bool) (k : ℕ) → cond b (Some k) None ≡ None → b ≡ false
no-place true k h = absurd (cc)
no-place false k h = refl

none-of : (n : Name) (names : List Name) → ((k : ℕ) → k < length names → bytes_eq n (get_or names k []) ≡ false) → (vs : List (Option Data)) → slot_value n names vs ≡ None
none-of n [] none vs = refl
none-of n (m ∷ ms) none [] = refl
none-of n (m ∷ ms) none (v ∷ vs) = passed (bytes_eq n m) v (slot_value n ms vs) (none zero (omega arith)) ∙ none-of n ms (λ k l. none (suc k) (omega (arith, l))) vs

pub slot-missing : (n : Name) (names : List Name) (vs : List (Option Data)) → slot_in names n ≡ None → slot_value n names vs ≡ None
slot-missing n names vs h =
    let place = position_or_len (bytes_eq n) names in
    let out = no-place (nat_lt place (length names)) place h in
    let last : length names ≤ place = ltb-false place (length names) out in
    none-of n names (λ k l. fails_before_first (bytes_eq n) names k [] (omega (arith, l, last))) vs

-- what is read: the value in the slot, else the one that was given
pub read-slot : VariablesAreRead → (base : Fields) (names : List Name) (vs : List (Option Data)) (n : Name) (i : ℕ) → are_ascending names ≡ true → slice_get names i ≡ Some n
    → field_value n (variables_over base names vs) ≡ or_else (get_or vs i None) (field_value n base)
read-slot read base names vs n i h at =
    let d = ascending-distinct names h in read base names vs n d ∙ ap (λ o. or_else o (field_value n base)) (slot-there n names vs i d at)

pub read-given : VariablesAreRead → (base : Fields) (names : List Name) (vs : List (Option Data)) (n : Name) → are_ascending names ≡ true → slot_in names n ≡ None → field_value n (variables_over base names vs) ≡ field_value n base
read-given read base names vs n h none =
    read base names vs n (ascending-distinct names h) ∙ ap (λ o. or_else o (field_value n base)) (slot-missing n names vs none)
