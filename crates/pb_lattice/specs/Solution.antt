-- Solutions of a graph.
use Rattle.std.specs.Prelude.{◌<◌, ℕ, length}
use Rattle.pb_lattice.specs.Graph.{Graph, edge_at}

-- well formed meanings of the nodes: that of node 0 is above the entry, and that of each edge's
-- target above what is carried along the edge from its source
pub record Covers {M : Type 0} (well : M → Type 0) (below : M → M → Type 0) (carried : ℕ → M → M)
    (g : Graph) (entry : M) (w : ℕ → M) : Type 0 where
  pub wells : (n : ℕ) → n < g.count → well (w n)
  pub entered : below entry (w 0)
  pub covered : (i : ℕ) → i < length g.edges
      → below (carried i (w (edge_at g i).source)) (w (edge_at g i).target)
