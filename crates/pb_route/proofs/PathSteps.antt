-- What becomes of what is known along each edge of the nodes of a play.
use Rattle.std.proofs.Common.{◌≡◌, ◌∙◌, ◌<◌, ◌≤◌, ℕ, zero, suc, ◌+◌, List, [], ◌∷◌, ◌++◌, Bool, true, false, cond, Option, Some, None, length, map, slice_get, slice_index_or, length-append, is_some, refl, ap, arith}
use Rattle.pb_language.specs.Book.{Registry}
use Rattle.pb_language.specs.Expression.{Parts}
use Rattle.pb_language.specs.Judgement.{Exit}
use Rattle.pb_language.specs.Setting.{Setting}
use Rattle.pb_language.specs.Task.{Task}
use Rattle.pb_lattice.specs.Graph.{edge_at}
use Rattle.pb_lattice.specs.declared.graph.Edge.{Edge}
use Rattle.pb_flow.specs.Ahead.{edge_to, flow_edges, flow_ways, node_edges, node_ways, nodes_edges, nodes_ways, way_to}
use Rattle.pb_flow.specs.Nodes.{node_task}
use Rattle.pb_flow.specs.Solved.{along_way, flow_steps, node_steps, nodes_steps, step_to}
use Rattle.pb_flow.specs.declared.flow.Way.{Way}
use Rattle.pb_flow.specs.declared.flow.Way.TheVariants.{Begins, Goes, Fails, Passes}
use Rattle.pb_flow.specs.declared.graph.Node.{Node}
use Rattle.pb_route.specs.Station.{station_task}
use Rattle.pb_route.specs.declared.station.Station.{Station}
use Rattle.pb_route.specs.Routes.{node_step, task_step}

-- there are as many ways as edges
one-length : (o : ℕ) (w : Way) (x : Option ℕ) → length (way_to w x) ≡ length (edge_to o x)
one-length o w None = refl
one-length o w (Some n) = refl

passing-length : (b : Bool) (o : ℕ) (x : Option ℕ) → length (cond b (way_to Passes x) []) ≡ length (cond b (edge_to o x) [])
passing-length true o x = one-length o Passes x
passing-length false o x = refl

node-length : (o : ℕ) (n : Node) → length (node_ways n) ≡ length (node_edges o n)
node-length o n =
    let es = edge_to o n.ok.to in
    let fs = edge_to o n.failed.to in
    let ws = way_to Goes n.ok.to in
    let vs = way_to Fails n.failed.to in
    omega (
      arith,
      length-append (cond (is_some n.handler) (way_to Passes n.ok.to) []) (ws ++ vs),
      length-append ws vs,
      length-append (cond (is_some n.handler) es []) (es ++ fs),
      length-append es fs,
      passing-length (is_some n.handler) o n.ok.to,
      one-length o Goes n.ok.to,
      one-length o Fails n.failed.to,
    )

nodes-length : (o : ℕ) (ns : List Node) → length (nodes_ways ns) ≡ length (nodes_edges o ns)
nodes-length o [] = refl
nodes-length o (n ∷ ns) =
    omega (arith, length-append (node_ways n) (nodes_ways ns), length-append (node_edges o n) (nodes_edges (suc o) ns), node-length o n, nodes-length (suc o) ns)

pub flow-length : (begin : Option ℕ) (ns : List Node) → length (flow_ways begin ns) ≡ length (flow_edges begin ns).edges
flow-length begin ns = omega (arith, length-append (way_to Begins begin) (nodes_ways ns), length-append (edge_to 0 begin) (nodes_edges 1 ns), one-length 0 Begins begin, nodes-length 1 ns)

-- edges begin at that node at the latest
abbrev Until : ℕ → List Edge → Type 0
Until m [] = Unit {0}
Until m (e ∷ es) = (e.source ≤ m) × Until m es

until-both : (m : ℕ) (es fs : List Edge) → Until m es → Until m fs → Until m (es ++ fs)
until-both m [] fs a b = b
until-both m (e ∷ es) fs a b = (a.0, until-both m es fs a.1 b)

one-until : (o m : ℕ) (x : Option ℕ) → o ≤ m → Until m (edge_to o x)
one-until o m None le = tt
one-until o m (Some n) le = (le, tt)

passing-until : (b : Bool) (o m : ℕ) (x : Option ℕ) → o ≤ m → Until m (cond b (edge_to o x) [])
passing-until true o m x le = one-until o m x le
passing-until false o m x le = tt

nodes-until : (o m : ℕ) (ns : List Node) → o + length ns ≤ suc m → Until m (nodes_edges o ns)
nodes-until o m [] le = tt
nodes-until o m (n ∷ ns) le =
    let here : o ≤ m = omega arith in
    until-both m (node_edges o n) (nodes_edges (suc o) ns)
    (until-both m (cond (is_some n.handler) (edge_to o n.ok.to) []) (edge_to o n.ok.to ++ edge_to o n.failed.to) (passing-until (is_some n.handler) o m n.ok.to here)
    (until-both m (edge_to o n.ok.to) (edge_to o n.failed.to) (one-until o m n.ok.to here) (one-until o m n.failed.to here)))
    (nodes-until (suc o) m ns (omega arith))

until-at : (m : ℕ) (es : List Edge) (i : ℕ) → Until m es → (edge_at (record { count = 0; edges = es }) i).source ≤ m
until-at m [] i h = omega arith
until-at m (e ∷ es) zero h = h.0
until-at m (e ∷ es) (suc i) h = until-at m es i h.1

pub flow-until : (begin : Option ℕ) (ns : List Node) (i : ℕ) → (edge_at (flow_edges begin ns) i).source ≤ length ns
flow-until begin ns i =
    until-at (length ns) (edge_to 0 begin ++ nodes_edges 1 ns) i
    (until-both (length ns) (edge_to 0 begin) (nodes_edges 1 ns) (one-until 0 (length ns) begin (omega arith)) (nodes-until 1 (length ns) ns (omega arith)))

module _ (st : Setting) (all : List Station) where
  -- what becomes of it along each of those edges, in that way
  abbrev along : List Edge → List Way → List (Exit → Exit)
  along [] ws = []
  along (e ∷ es) [] = []
  along (e ∷ es) (w ∷ ws) = node_step st all e.source w ∷ along es ws

  along-both : (es fs : List Edge) (ws vs : List Way) → length ws ≡ length es → along (es ++ fs) (ws ++ vs) ≡ along es ws ++ along fs vs
  along-both [] fs [] vs e = refl
  along-both [] fs (w ∷ ws) vs e = absurd (omega arith)
  along-both (x ∷ es) fs [] vs e = absurd (omega arith)
  along-both (x ∷ es) fs (w ∷ ws) vs e = ap (λ xs. node_step st all x.source w ∷ xs) (along-both es fs ws vs (omega arith))

  -- the one of that number
  along-at : (es : List Edge) (ws : List Way) (i : ℕ) → length ws ≡ length es → i < length es
      → node_step st all (edge_at (record { count = 0; edges = es }) i).source (slice_index_or ws i Begins) ≡ slice_index_or (along es ws) i (λ e. e)
  along-at [] ws i e lt = absurd (omega arith)
  along-at (x ∷ es) [] i e lt = absurd (omega arith)
  along-at (x ∷ es) (w ∷ ws) zero e lt = refl
  along-at (x ∷ es) (w ∷ ws) (suc i) e lt = along-at es ws i (omega arith) (omega arith)

  module _ (o : ℕ) (t : Task) (s : Station) (at : slice_get all o ≡ Some s) (same : station_task s ≡ t) where
    here : (w : Way) → node_step st all (suc o) w ≡ along_way st t w
    here w = ap (λ x. task_step st x w) at ∙ ap (λ x. along_way st x w) same

    one-along : (w : Way) (x : Option ℕ) → along (edge_to (suc o) x) (way_to w x) ≡ step_to (along_way st t w) x
    one-along w None = refl
    one-along w (Some n) = ap (λ f. f ∷ []) (here w)

    passing-along : (b : Bool) (x : Option ℕ) → along (cond b (edge_to (suc o) x) []) (cond b (way_to Passes x) []) ≡ cond b (step_to (along_way st t Passes) x) []
    passing-along true x = one-along Passes x
    passing-along false x = refl

    node-along : (n : Node) → along (node_edges (suc o) n) (node_ways n) ≡ node_steps st t n
    node-along n =
        let es = edge_to (suc o) n.ok.to in
        let fs = edge_to (suc o) n.failed.to in
        let ws = way_to Goes n.ok.to in
        let vs = way_to Fails n.failed.to in
        along-both (cond (is_some n.handler) es []) (es ++ fs) (cond (is_some n.handler) (way_to Passes n.ok.to) []) (ws ++ vs) (passing-length (is_some n.handler) (suc o) n.ok.to)
        ∙ ap (λ xs. along (cond (is_some n.handler) es []) (cond (is_some n.handler) (way_to Passes n.ok.to) []) ++ xs) (along-both es fs ws vs (one-length (suc o) Goes n.ok.to))
        ∙ rw (passing-along (is_some n.handler) n.ok.to, one-along Goes n.ok.to, one-along Fails n.failed.to) refl

  nodes-along : (ms : Registry) (vars : Parts) (ns : List Node) (o : ℕ) (rest : List Station) → ((k : ℕ) → slice_get all (o + k) ≡ slice_get rest k) → map station_task rest ≡ map (node_task ms vars) ns
      → along (nodes_edges (suc o) ns) (nodes_ways ns) ≡ nodes_steps st ms vars ns
  nodes-along ms vars [] o rest h e = refl
  nodes-along ms vars (n ∷ ns) o [] h e = absurd (cc)
  nodes-along ms vars (n ∷ ns) o (s ∷ rest) h e =
      let at : slice_get all o ≡ Some s = ap (slice_get all) (omega arith) ∙ h 0 in
      let same : station_task s ≡ node_task ms vars n = cc in
      let more : map station_task rest ≡ map (node_task ms vars) ns = cc in
      along-both (node_edges (suc o) n) (nodes_edges (suc (suc o)) ns) (node_ways n) (nodes_ways ns) (node-length (suc o) n)
      ∙ ap (λ xs. xs ++ along (nodes_edges (suc (suc o)) ns) (nodes_ways ns)) (node-along o (node_task ms vars n) s at same n)
      ∙ ap (λ xs. node_steps st (node_task ms vars n) n ++ xs) (nodes-along ms vars ns (suc o) rest (λ k. ap (slice_get all) (omega arith) ∙ h (suc k)) more)

  flow-along : (ms : Registry) (vars : Parts) (begin : Option ℕ) (ns : List Node) → map station_task all ≡ map (node_task ms vars) ns
      → along (flow_edges begin ns).edges (flow_ways begin ns) ≡ flow_steps st ms vars begin ns
  flow-along ms vars None ns e = nodes-along ms vars ns 0 all (λ k. ap (slice_get all) (omega arith)) e
  flow-along ms vars (Some b) ns e = ap (λ xs. (λ x. x) ∷ xs) (nodes-along ms vars ns 0 all (λ k. ap (slice_get all) (omega arith)) e)

  -- along the edge of that number of a graph
  pub flow-step : (ms : Registry) (vars : Parts) (begin : Option ℕ) (ns : List Node) → map station_task all ≡ map (node_task ms vars) ns → (i : ℕ) → i < length (flow_edges begin ns).edges
      → node_step st all (edge_at (flow_edges begin ns) i).source (slice_index_or (flow_ways begin ns) i Begins) ≡ slice_index_or (flow_steps st ms vars begin ns) i (λ e. e)
  flow-step ms vars begin ns e i lt =
      along-at (flow_edges begin ns).edges (flow_ways begin ns) i (flow-length begin ns) lt ∙ ap (λ xs. slice_index_or xs i (λ x. x)) (flow-along ms vars begin ns e)
