-- Graphs whose edges lead upwards.
use Rattle.std.specs.Prelude.{◌≤◌, ◌<◌, ℕ, List, length, slice_index_or}
use Rattle.pb_lattice.specs.declared.graph.Edge.{Edge}

-- how many nodes there are, and the edges
pub record Graph : Type 0 where
  pub count : ℕ
  pub edges : List Edge

-- the edge of this number
abbrev pub edge_at : Graph → ℕ → Edge
edge_at g i = slice_index_or g.edges i (record { source = 0; target = 0 })

-- there is a node, each edge leads to a higher one, and edges stand in the order of their sources
pub record Rises (g : Graph) : Type 0 where
  pub some : 1 ≤ g.count
  pub up : (i : ℕ) → i < length g.edges → (edge_at g i).source < (edge_at g i).target
  pub inside : (i : ℕ) → i < length g.edges → (edge_at g i).target < g.count
  pub in_order : (i j : ℕ) → i ≤ j → j < length g.edges
      → (edge_at g i).source ≤ (edge_at g j).source
