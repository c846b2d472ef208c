-- The graph of a play, and its least solution beside the walk of its row (this project's own).
use Rattle.std.specs.Prelude.{◌≡◌, ◌≤◌, ℕ, suc, length, List, [], ◌∷◌, ◌++◌, Option, Some, None}
use Rattle.std.specs.Prelude.{cond, is_some, map, slice_index_or}
use Rattle.pb_lattice.specs.Graph.{Graph}
use Rattle.pb_lattice.specs.Solution.{Covers}
use Rattle.pb_language.specs.Book.{Registry}
use Rattle.pb_language.specs.Expression.{Parts}
use Rattle.pb_language.specs.Judgement.{Exit}
use Rattle.pb_language.specs.Links.{led, size, values_at}
use Rattle.pb_language.specs.Nodes.{ValuesLe, values}
use Rattle.pb_language.specs.Ordered.{ExitLe}
use Rattle.pb_language.specs.Setting.{Setting}
use Rattle.pb_language.specs.Task.{Row, Task}
use Rattle.pb_language.specs.Walk.{failing_from, going_from, walk}
use Rattle.pb_language.specs.Wells.{WellExit, WellViews}
use Rattle.pb_flow.specs.Ahead.{edge_to, flow_edges}
use Rattle.pb_machine.specs.Steps.{play_steps}
use Rattle.pb_flow.specs.Flow.{begins_at, end_node, row_links, tasks_of}
use Rattle.pb_flow.specs.Nodes.{node_step, node_task, nodes_links}
use Rattle.pb_flow.specs.declared.flow.Way.{Way}
use Rattle.pb_flow.specs.declared.flow.Way.TheVariants.{Begins, Goes, Fails, Passes}
use Rattle.pb_flow.specs.declared.graph.Node.{Node}

-- the edges of a play, the first from its start, and what becomes of an environment along each
abbrev pub row_graph : Row → Graph
row_graph row = record {
  count = suc (end_node row);
  edges = edge_to 0 (begins_at row)
      ++ map (λ l. record { source = l.source; target = l.target }) (row_links row);
}

abbrev pub begin_steps : Option ℕ → List (Exit → Exit)
begin_steps None = []
begin_steps (Some n) = (λ e. e) ∷ []

abbrev pub row_step : Setting → Row → ℕ → Exit → Exit
row_step st row i = slice_index_or
    (begin_steps (begins_at row) ++ map (λ l. led st l.by l.way) (row_links row)) i (λ e. e)

-- the least solution on it and the walk are below each other, at each node and at the end
abbrev pub SolutionIsWalk : Type 0
SolutionIsWalk = (st : Setting) (row : Row) (e : Exit) (val : ℕ → Exit)
    → WellViews st.views → WellExit e
    → Covers WellExit ExitLe (row_step st row) (row_graph row) e val
    → ((w : ℕ → Exit) → Covers WellExit ExitLe (row_step st row) (row_graph row) e w
    → (n : ℕ) → n ≤ end_node row → ExitLe (val n) (w n))
    → ValuesLe row (values st row e) (values_at val row 1)
    × ValuesLe row (values_at val row 1) (values st row e)
    × ExitLe (walk st row e).well (val (end_node row))
    × ExitLe (val (end_node row)) (walk st row e).well

-- nodes that are the steps of a row have its tasks, and lead along its links
abbrev pub NodesHaveTasks : Type 0
NodesHaveTasks = (ms : Registry) (vars : Parts) (row : Row) (ns : List Node)
    → map (node_step ms vars) ns ≡ play_steps row → map (node_task ms vars) ns ≡ tasks_of row

abbrev pub NodesHaveLinks : Type 0
NodesHaveLinks = (ms : Registry) (vars : Parts) (row : Row) (ns : List Node)
    → map (node_step ms vars) ns ≡ play_steps row → nodes_links ms vars 1 ns ≡ row_links row

-- nodes that have the links of a row have the edges of its graph
abbrev pub FlowsAreRows : Type 0
FlowsAreRows = (ms : Registry) (vars : Parts) (row : Row) (begin : Option ℕ) (ns : List Node)
    → begin ≡ begins_at row → nodes_links ms vars 1 ns ≡ row_links row → length ns ≡ size row
    → flow_edges begin ns ≡ row_graph row

-- what goes along an edge in that way
abbrev pub along_way : Setting → Task → Way → Exit → Exit
along_way st t Begins e = e
along_way st t Goes e = going_from st t e
along_way st t Fails e = failing_from st t e
along_way st t Passes e = e

-- for each edge from nodes what goes along it
abbrev pub step_to : (Exit → Exit) → Option ℕ → List (Exit → Exit)
step_to f None = []
step_to f (Some n) = f ∷ []

abbrev pub node_steps : Setting → Task → Node → List (Exit → Exit)
node_steps st t n = cond (is_some n.handler) (step_to (along_way st t Passes) n.ok.to) []
    ++ (step_to (along_way st t Goes) n.ok.to ++ step_to (along_way st t Fails) n.failed.to)

abbrev pub nodes_steps : Setting → Registry → Parts → List Node → List (Exit → Exit)
nodes_steps st ms vars [] = []
nodes_steps st ms vars (n ∷ ns) =
    node_steps st (node_task ms vars n) n ++ nodes_steps st ms vars ns

-- and for each edge of a graph
abbrev pub flow_steps : Setting → Registry → Parts → Option ℕ → List Node → List (Exit → Exit)
flow_steps st ms vars begin ns = begin_steps begin ++ nodes_steps st ms vars ns

-- nodes that have the links of a row carry along their edges what the row does
abbrev pub FlowsCarryRows : Type 0
FlowsCarryRows = (st : Setting) (ms : Registry) (vars : Parts) (row : Row) (begin : Option ℕ)
    (ns : List Node) → begin ≡ begins_at row → nodes_links ms vars 1 ns ≡ row_links row → (i : ℕ)
    → slice_index_or (flow_steps st ms vars begin ns) i (λ e. e) ≡ row_step st row i
