-- The edges of the nodes, taken in one node after the other.
use Rattle.std.proofs.Common.{◌≡◌, ◌≤◌, ℕ, suc, ◌+◌, List, ◌++◌, true, All, drop, length, Option}
use Rattle.pb_lattice.specs.Graph.{Graph as Edges}
use Rattle.pb_flow.specs.Ahead.{flow_edges, flow_ways, lead_on, nodes_edges, nodes_ways}
use Rattle.pb_flow.specs.declared.flow.Way.{Way}
use Rattle.pb_flow.specs.declared.graph.Node.{Node}

-- what is taken in, and those of the nodes from this one on, are all; these lead to higher ones
pub record Linked (begin : Option ℕ) (ns : List Node) (i : ℕ) (g : Edges) (ws : List Way) : Type 0 where
  pub count : g.count ≡ suc (suc (length ns))
  pub edges : g.edges ++ nodes_edges (i + 1) (drop i ns) ≡ (flow_edges begin ns).edges
  pub ways : ws ++ nodes_ways (drop i ns) ≡ flow_ways begin ns
  pub leads : lead_on (suc (length ns)) (i + 1) (drop i ns) ≡ true
  pub in_order : All (λ e. e.source ≤ i) g.edges
