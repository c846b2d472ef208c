-- Entries in a map's order: each name stands once.
use Rattle.std.proofs.Common.{◌≡◌, List, ◌∷◌, [], ◌++◌, String, Global, Less, string_cmp}
use Rattle.std.specs.List.{AllByRecursion}
use Rattle.std.specs.List.Sorted.{IsStrictlySortedBy}
use Rattle.std.specs.Map.{keys_of}

-- no later name is this one
abbrev pub Above : {V : Type 0} → String Global → List (String Global × V) → Type 0
Above n es = AllByRecursion (λ y. string_cmp n y ≡ Less) (keys_of es)

abbrev pub Ascending : {V : Type 0} → List (String Global × V) → Type 0
Ascending es = IsStrictlySortedBy string_cmp (keys_of es)

pub above-middle : {V : Type 0} → (first : String Global × V) (es : List (String Global × V)) (e : String Global × V) (more : List (String Global × V)) → Above first.0 (es ++ e ∷ more) → string_cmp first.0 e.0 ≡ Less
above-middle first [] e more h = h.0
above-middle first (x ∷ es) e more h = above-middle first es e more h.1

pub ascending-rest : {V : Type 0} → (e : String Global × V) (es : List (String Global × V)) → Ascending (e ∷ es) → Ascending es
unfolding IsStrictlySortedBy
ascending-rest e es h = h.1
