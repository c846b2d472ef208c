-- What hosts have at their later places in the play of a number.
use Rattle.std.proofs.Common.{◌≡◌, ℕ, zero, suc, ◌<◌, ◌≤◌, List, [], ◌∷◌, length, drop, get_or, map, refl, ap, arith}
use Rattle.pb_language.specs.Scope.{Later}
use Rattle.pb_language.specs.Tables.{first_laters}

module _ {A : Type 0} (f : A → List Later) where
  pub first_there : (xs : List A) (i : ℕ) (x : A) → i < length xs → x ≡ get_or xs i x → f x ≡ first_laters (drop i (map f xs))
  first_there [] i x lt is = absurd (omega arith)
  first_there (y ∷ xs) zero x lt is = ap f is
  first_there (y ∷ xs) (suc i) x lt is = first_there xs i x (omega arith) is

  pub first_past : (xs : List A) (i : ℕ) → length xs ≤ i → [] ≡ first_laters (drop i (map f xs))
  first_past [] zero le = refl
  first_past [] (suc i) le = refl
  first_past (y ∷ xs) zero le = absurd (omega arith)
  first_past (y ∷ xs) (suc i) le = first_past xs i (omega arith)
