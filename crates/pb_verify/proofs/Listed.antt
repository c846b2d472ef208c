-- Names in a set are in the order of their bytes.
use denote.Ref.{Bor}
use Rattle.std.proofs.Common.{◌≡◌, ℕ, List, [], ◌∷◌, map, nat_cmp}
use Rattle.std.specs.Cmp.Lexicographic.{slice_cmp}
use Rattle.std.specs.declared.cmp.Ordering.TheVariants.{Less}
use Rattle.std.specs.List.{AllByRecursion}
use Rattle.std.specs.List.Sorted.{IsStrictlySortedBy}
use Rattle.pb_language.specs.Expression.{Name}
use Rattle.pb_lattice.specs.Trees.{IsAscending}

abbrev pub lent_names : List (Bor (List ℕ)) → List Name
lent_names ks = map (λ k. k.now) ks

less_names : (n : Bor (List ℕ)) (ks : List (Bor (List ℕ))) → AllByRecursion (λ y. slice_cmp nat_cmp n.now y.now ≡ Less) ks → AllByRecursion (λ m. slice_cmp nat_cmp n.now m ≡ Less) (lent_names ks)
less_names n [] h = tt
less_names n (k ∷ ks) h = (h.0, less_names n ks h.1)

pub ascending_names : (ks : List (Bor (List ℕ))) → IsStrictlySortedBy (λ x y. slice_cmp nat_cmp x.now y.now) ks → IsAscending (lent_names ks)
unfolding IsStrictlySortedBy
ascending_names [] h = tt
ascending_names (k ∷ ks) h = (less_names k ks h.0, ascending_names ks h.1)
