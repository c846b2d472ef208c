-- Graphs whose nodes are numbered: of each node the numbers of its children, in their order.
use Rattle.std.specs.Prelude.{◌≡◌, ℕ, zero, suc, ◌<◌, List, [], ◌∷◌, ◌++◌, length, get_or, Bool}
use Rattle.std.specs.Prelude.{false, true, ◌||◌, nat_eq}
use Rattle.std.specs.List.{flat_map}

abbrev pub children_at : List (List ℕ) → ℕ → List ℕ
children_at cs i = get_or cs i []

abbrev pub is_in : ℕ → List ℕ → Bool
is_in n [] = false
is_in n (m ∷ ms) = nat_eq n m || is_in n ms

-- a node's descendants within so many generations
abbrev pub below : ℕ → List (List ℕ) → ℕ → List ℕ
below zero cs i = []
below (suc k) cs i = children_at cs i ++ flat_map (below k cs) (children_at cs i)

-- how many nodes have children
abbrev pub parents_count : List (List ℕ) → ℕ
parents_count [] = 0
parents_count ([] ∷ cs) = parents_count cs
parents_count ((c ∷ ds) ∷ cs) = suc (parents_count cs)

-- each child is a node
abbrev pub IsGraph : List (List ℕ) → Type 0
IsGraph cs = (i c : ℕ) → is_in c (children_at cs i) ≡ true → c < length cs

-- each node once, before its children
pub record IsOrder (cs : List (List ℕ)) (order : List ℕ) : Type 0 where
  pub within : (j : ℕ) → j < length order → get_or order j 0 < length cs
  pub whole : (i : ℕ) → i < length cs → (j : ℕ) × (j < length order) × (get_or order j 0 ≡ i)
  pub once : (j k : ℕ) → j < length order → k < length order
      → get_or order j 0 ≡ get_or order k 0 → j ≡ k
  pub behind : (j c : ℕ) → j < length order
      → is_in c (children_at cs (get_or order j 0)) ≡ true
      → (k : ℕ) × (j < k) × (k < length order) × (get_or order k 0 ≡ c)

-- some node is its own descendant
abbrev pub HasCycle : List (List ℕ) → Type 0
HasCycle cs = (i : ℕ) × (is_in i (below (parents_count cs) cs i) ≡ true)
