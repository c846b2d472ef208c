-- The edges that the nodes of a graph lead along.
use Rattle.std.specs.Prelude.{ℕ, suc, nat_lt, nat_le, List, [], ◌∷◌, ◌++◌, length, Bool, true, ◌&&◌}
use Rattle.std.specs.Prelude.{cond, Option, Some, None, is_some}
use Rattle.pb_lattice.specs.Graph.{Graph as Edges}
use Rattle.pb_lattice.specs.declared.graph.Edge.{Edge}
use Rattle.pb_flow.specs.declared.flow.Way.{Way}
use Rattle.pb_flow.specs.declared.flow.Way.TheVariants.{Begins, Goes, Fails, Passes}
use Rattle.pb_flow.specs.declared.graph.Node.{Node}

-- a node behind that one, up to the last, where there is one
abbrev pub is_ahead : ℕ → ℕ → Option ℕ → Bool
is_ahead o last None = true
is_ahead o last (Some n) = nat_lt o n && nat_le n last

-- each node, the first of which has that number, leads to higher ones
abbrev pub lead_on : ℕ → ℕ → List Node → Bool
lead_on last o [] = true
lead_on last o (n ∷ ns) =
    is_ahead o last n.ok.to && (is_ahead o last n.failed.to && lead_on last (suc o) ns)

-- the start leads to a node, and each node to higher ones
abbrev pub all_lead_on : Option ℕ → List Node → Bool
all_lead_on begin ns =
    is_ahead 0 (suc (length ns)) begin && lead_on (suc (length ns)) 1 ns

-- the edge to a node, where there is one, and how a host goes along it
abbrev pub edge_to : ℕ → Option ℕ → List Edge
edge_to o None = []
edge_to o (Some n) = record { source = o; target = n } ∷ []

abbrev pub way_to : Way → Option ℕ → List Way
way_to w None = []
way_to w (Some n) = w ∷ []

-- a handler may be passed over
abbrev pub node_edges : ℕ → Node → List Edge
node_edges o n =
    cond (is_some n.handler) (edge_to o n.ok.to) [] ++ (edge_to o n.ok.to ++ edge_to o n.failed.to)

abbrev pub node_ways : Node → List Way
node_ways n =
    cond (is_some n.handler) (way_to Passes n.ok.to) []
    ++ (way_to Goes n.ok.to ++ way_to Fails n.failed.to)

abbrev pub nodes_edges : ℕ → List Node → List Edge
nodes_edges o [] = []
nodes_edges o (n ∷ ns) = node_edges o n ++ nodes_edges (suc o) ns

abbrev pub nodes_ways : List Node → List Way
nodes_ways [] = []
nodes_ways (n ∷ ns) = node_ways n ++ nodes_ways ns

-- the start, the nodes and the end, with all edges
abbrev pub flow_edges : Option ℕ → List Node → Edges
flow_edges begin ns = record {
  count = suc (suc (length ns));
  edges = edge_to 0 begin ++ nodes_edges 1 ns;
}

abbrev pub flow_ways : Option ℕ → List Node → List Way
flow_ways begin ns = way_to Begins begin ++ nodes_ways ns
