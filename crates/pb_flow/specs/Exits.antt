-- What stands at each node of a graph, and where a host goes from there.
use Rattle.std.specs.Prelude.{ℕ, zero, suc, List, Option, Some, None, option_map, slice_get}
use Rattle.pb_flow.specs.Nodes.{visited_view}
use Rattle.pb_flow.specs.declared.graph.Exits.{Exits}
use Rattle.pb_flow.specs.declared.graph.Node.{Node}

-- the node of that number among those from 1 on; none at the start and past the last
abbrev pub node_at : List Node → ℕ → Option Node
node_at ns zero = None
node_at ns (suc k) = slice_get ns k

abbrev pub exits_from : Option Node → Exits
exits_from None = record { ok = None; failed = None }
exits_from (Some n) = record { ok = n.ok.to; failed = n.failed.to }

-- where a host goes from that node: from the start to where it begins
abbrev pub exits_at : Option ℕ → List Node → ℕ → Exits
exits_at begin ns zero = record { ok = begin; failed = None }
exits_at begin ns (suc k) = exits_from (node_at ns (suc k))

abbrev pub line_at : List Node → ℕ → Option ℕ
line_at ns k = option_map (λ n. (visited_view n.visited).line) (node_at ns k)

abbrev pub place_at : List Node → ℕ → Option ℕ
place_at ns k = option_map (λ n. n.place) (node_at ns k)
