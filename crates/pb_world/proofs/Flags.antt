-- Flags that are set for hosts.
use Rattle.std.proofs.Common.{◌≡◌, ◌∙◌, ℕ, ◌+◌, ◌<◌, List, [], ◌∷◌, length, get_or, set, take, replicate, Bool, true, false, ◌||◌, nat_eq, ⊎_elim, sym, ap, subst, arith}
use Rattle.std.specs.List.{All, fold, list_all}
use Rattle.std.specs.Prelude.{nat_lt}
use Rattle.std.proofs.lemmas.List.Elements.{All-head, All-tail}
use Rattle.pb_semantics.proofs.Bools.{and-both}
use Rattle.std.proofs.Math.Bool.{or-false}
use Rattle.std.proofs.lemmas.Bool.Decides.{eqb_tells, nat_tests}
use Rattle.std.proofs.lemmas.List.{get_or-replicate, get_or-set_other, get_or-set_same, length-set, take_more}
use Rattle.std.proofs.lemmas.List.Sums.{fold-append}
use Rattle.pb_inventory.specs.Graph.{is_in}
use Rattle.pb_world.specs.Active.{flags_of, with_flag}

one-flag : (d : Bool) (flags : List Bool) (m k : ℕ) → k < length flags → get_or (set flags m true) k d ≡ (get_or flags k d || nat_eq k m)
one-flag d flags m k l = ⊎_elim same other (eqb_tells k m) where
  same : (nat_eq k m ≡ true) × (k ≡ m) → get_or (set flags m true) k d ≡ (get_or flags k d || nat_eq k m)
  same h = ap (λ j. get_or (set flags j true) k d) (sym h.1) ∙ get_or-set_same flags k true d l ∙ sym (last (get_or flags k d) (nat_eq k m) h.0) where
    last : (a b : Bool) → b ≡ true → (a || b) ≡ true
    last a b h = rw h (grind arith)

  other : (nat_eq k m ≡ false) × (k ≡ m → ⊥) → get_or (set flags m true) k d ≡ (get_or flags k d || nat_eq k m)
  other h = get_or-set_other flags m k true d h.1 ∙ sym (or-false (get_or flags k d)) ∙ ap (λ b. get_or flags k d || b) (sym h.0)

flagged : (d : Bool) (flags : List Bool) (ms : List ℕ) (k : ℕ) → k < length flags → get_or (fold with_flag flags ms) k d ≡ (get_or flags k d || is_in k ms)
flagged d flags [] k l = sym (or-false (get_or flags k d))
flagged d flags (m ∷ ms) k l =
    flagged d (set flags m true) ms k (subst (λ n. k < n) (sym (length-set flags m true)) l) ∙ ap (λ b. b || is_in k ms) (one-flag d flags m k l)
    ∙ grouped (get_or flags k d) (nat_eq k m) (is_in k ms) where
      grouped : (a b c : Bool) → ((a || b) || c) ≡ (a || (b || c))
      grouped a b c = grind arith

pub flag-at : (d : Bool) (hosts : ℕ) (ms : List ℕ) (k : ℕ) (flags : List Bool) → length (replicate hosts false) ≡ hosts → flags ≡ flags_of hosts ms → k < hosts → get_or flags k d ≡ is_in k ms
flag-at d hosts ms k flags count is l =
    ap (λ fs. get_or fs k d) is ∙ flagged d (replicate hosts false) ms k (subst (λ n. k < n) (sym count) l) ∙ ap (λ b. b || is_in k ms) (get_or-replicate hosts k false d l)

pub flags-next : (hosts : ℕ) (ms : List ℕ) (i d : ℕ) (flags : List Bool) → i < length ms → flags ≡ flags_of hosts (take i ms) → set flags (get_or ms i d) true ≡ flags_of hosts (take (i + 1) ms)
flags-next hosts ms i d flags l is =
    ap (λ fs. set fs (get_or ms i d) true) is ∙ sym (fold-append with_flag (replicate hosts false) (take i ms) (get_or ms i d ∷ [])) ∙ ap (fold with_flag (replicate hosts false)) (sym (take_more ms i d l))

-- they are hosts
pub all-below : (hosts : ℕ) (ms : List ℕ) → All (λ k. k < hosts) ms → list_all (λ k. nat_lt k hosts) ms ≡ true
all-below hosts [] h = none where
  none : true ≡ true
  none = λ i. true
all-below hosts (m ∷ ms) h = and-both (nat_lt m hosts) (list_all (λ k. nat_lt k hosts) ms) (below (All-head (λ k. k < hosts) m ms h)) (all-below hosts ms (All-tail (λ k. k < hosts) m ms h)) where
  below : m < hosts → nat_lt m hosts ≡ true
  below l = grind (arith, nat_tests, l)
