-- The counts of parents, and the queue of nodes with none left, that lead to an order.
use Rattle.std.specs.Prelude.{◌≡◌, ℕ, ◌<◌, List, length, nat_eq, slice_index}
use Rattle.std.specs.List.{count_by}

-- how often a node stands among some children
abbrev pub times : ℕ → List ℕ → ℕ
times c ds = count_by (nat_eq c) ds

-- the nodes whose count is 0, each once
pub record IsQueue (counts : List ℕ) (queue : List ℕ) : Type 0 where
  pub within : (j : ℕ) → j < length queue → slice_index queue j < length counts
  pub ready : (j : ℕ) → j < length queue → slice_index counts (slice_index queue j) ≡ 0
  pub whole : (c : ℕ) → c < length counts → slice_index counts c ≡ 0
      → (j : ℕ) × (j < length queue) × (slice_index queue j ≡ c)
  pub once : (j k : ℕ) → j < length queue → k < length queue
      → slice_index queue j ≡ slice_index queue k → j ≡ k
