-- The plays that are left, one by one.
use Rattle.std.proofs.Common.{◌≡◌, ℕ, zero, suc, ◌<◌, List, [], ◌∷◌, length, drop, Some, slice_get, refl, arith}
use Rattle.pb_language.specs.Scope.{Later}
use Rattle.pb_language.specs.Tables.{other_laters}

-- the one at that place, and those behind it
pub here_and_rest : {A : Type 0} (xs : List A) (i : ℕ) → i < length xs → (x : A) × (slice_get xs i ≡ Some x) × (drop i xs ≡ x ∷ drop (suc i) xs)
here_and_rest [] i lt = absurd (omega arith)
here_and_rest (x ∷ xs) zero lt = (x, refl, refl)
here_and_rest (x ∷ xs) (suc i) lt = here_and_rest xs i (omega arith)

pub others_left : (ls : List (List Later)) (i : ℕ) → other_laters (drop i ls) ≡ drop (suc i) ls
others_left [] zero = refl
others_left [] (suc i) = refl
others_left (l ∷ ls) zero = refl
others_left (l ∷ ls) (suc i) = others_left ls i

pub none_left : (i : ℕ) → drop i (let ls : List (List Later) = [] in ls) ≡ []
none_left zero = refl
none_left (suc i) = refl
