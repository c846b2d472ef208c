-- The edges of the nodes are those of the row.
use Rattle.std.proofs.Common.{◌≡◌, ℕ, suc, List, [], ◌∷◌, ◌++◌, Bool, true, false, cond, length, map, Option, Some, None, refl, sym, ap, ◌∙◌, is_some}
use Rattle.pb_language.specs.Book.{Registry}
use Rattle.pb_language.specs.Expression.{Parts}
use Rattle.pb_language.specs.Links.{Link, Way, goes, fails, passes, link_to, size}
use Rattle.pb_language.specs.Task.{Task, Row}
use Rattle.pb_lattice.specs.declared.graph.Edge.{Edge}
use Rattle.pb_flow.specs.Ahead.{edge_to, flow_edges, nodes_edges}
use Rattle.pb_flow.specs.Flow.{begins_at, row_links}
use Rattle.pb_flow.specs.Nodes.{node_task, nodes_links}
use Rattle.pb_flow.specs.Solved.{row_graph}
use Rattle.pb_flow.specs.declared.graph.Node.{Node}

abbrev edge_of : Link → Edge
edge_of l = record { source = l.source; target = l.target }

one-edge : (o : ℕ) (t : Task) (w : Way) (n : Option ℕ) → map edge_of (link_to o t w n) ≡ edge_to o n
one-edge o t w None = refl
one-edge o t w (Some n) = refl

passing-edge : (b : Bool) (o : ℕ) (t : Task) (n : Option ℕ) → map edge_of (cond b (link_to o t passes n) []) ≡ cond b (edge_to o n) []
passing-edge true o t n = one-edge o t passes n
passing-edge false o t n = refl

map-both : (xs ys : List Link) → map edge_of (xs ++ ys) ≡ map edge_of xs ++ map edge_of ys
map-both [] ys = refl
map-both (x ∷ xs) ys = ap (λ es. edge_of x ∷ es) (map-both xs ys)

same-edges : (ms : Registry) (vars : Parts) (o : ℕ) (ns : List Node) → map edge_of (nodes_links ms vars o ns) ≡ nodes_edges o ns
same-edges ms vars o [] = refl
same-edges ms vars o (n ∷ ns) =
    let t = node_task ms vars n in
    let over = cond (is_some n.handler) (link_to o t passes n.ok.to) [] in
    let goes-on = link_to o t goes n.ok.to in
    let fails-at = link_to o t fails n.failed.to in
    map-both (over ++ (goes-on ++ fails-at)) (nodes_links ms vars (suc o) ns)
    ∙ ap (λ es. es ++ map edge_of (nodes_links ms vars (suc o) ns)) (map-both over (goes-on ++ fails-at) ∙ ap (λ es. map edge_of over ++ es) (map-both goes-on fails-at))
    ∙ rw (passing-edge (is_some n.handler) o t n.ok.to, one-edge o t goes n.ok.to, one-edge o t fails n.failed.to, same-edges ms vars (suc o) ns) refl

pub same-graph : (ms : Registry) (vars : Parts) (row : Row) (begin : Option ℕ) (ns : List Node) → begin ≡ begins_at row → nodes_links ms vars 1 ns ≡ row_links row → length ns ≡ size row → flow_edges begin ns ≡ row_graph row
same-graph ms vars row begin ns b l s =
    rw (b, s, sym (same-edges ms vars 1 ns), l) refl
