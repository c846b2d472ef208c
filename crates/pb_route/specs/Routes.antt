-- A play with the paths through it, and its tasks where they stand.
use Rattle.std.specs.Prelude.{◌≡◌, ◌≤◌, ◌<◌, ℕ, zero, suc, List, All, Option, Some, None, length}
use Rattle.std.specs.Prelude.{map, slice_get, slice_index_or}
use Rattle.pb_language.specs.Book.{Registry}
use Rattle.pb_language.specs.Judgement.{Exit}
use Rattle.pb_language.specs.Plays.{gathering_task}
use Rattle.pb_language.specs.Setting.{Setting}
use Rattle.pb_language.specs.Task.{Row}
use Rattle.pb_lattice.specs.Graph.{Graph, edge_at}
use Rattle.pb_task.specs.Tasks.{Resolves, task_view}
use Rattle.pb_task.specs.declared.task.Task.{Task as ReadTask}
use Rattle.pb_flow.specs.Flow.{tasks_of}
use Rattle.pb_flow.specs.Nodes.{visited_view}
use Rattle.pb_flow.specs.Solved.{along_way, row_graph, row_step}
use Rattle.pb_flow.specs.declared.flow.Way.{Way}
use Rattle.pb_flow.specs.declared.flow.Way.TheVariants.{Begins}
use Rattle.pb_flow.specs.declared.graph.Visited.{Visited}
use Rattle.pb_route.specs.Station.{IsStation, station_task}
use Rattle.pb_route.specs.declared.station.Station.{Station}

-- the edges, how a host goes along each, and the tasks of the nodes from 1 on
pub record Paths : Type 0 where
  pub graph : Graph
  pub ways : List Way
  pub stations : List Station

-- what becomes of an environment that goes that way from the node; from the start nothing does
abbrev pub task_step : Setting → Option Station → Way → Exit → Exit
task_step st None w e = e
task_step st (Some s) w e = along_way st (station_task s) w e

abbrev pub node_step : Setting → List Station → ℕ → Way → Exit → Exit
node_step st ss zero w e = e
node_step st ss (suc k) w e = task_step st (slice_get ss k) w e

-- along the edge of that number
abbrev pub path_step : Setting → Paths → ℕ → Exit → Exit
path_step st r i =
    node_step st r.stations (edge_at r.graph i).source (slice_index_or r.ways i Begins)

-- what is kept of each task is so of it, each edge has a way, and begins at the start or at a task;
-- beside the tasks' nodes there are the start and the end
pub record ArePaths (r : Paths) : Type 0 where
  pub count : r.graph.count ≡ suc (suc (length r.stations))
  pub stations : All IsStation r.stations
  pub ways : length r.ways ≡ length r.graph.edges
  pub sources : (i : ℕ) → i < length r.graph.edges → (edge_at r.graph i).source ≤ length r.stations

-- they are those of that row
pub record ArePathsOf (row : Row) (r : Paths) : Type 0 where
  pub graph : r.graph ≡ row_graph row
  pub steps : (st : Setting) (i : ℕ) → i < length r.graph.edges
      → path_step st r i ≡ row_step st row i
  pub tasks : map station_task r.stations ≡ tasks_of row

-- the task is what is done there, and a module that it calls is the registry's
pub record IsDone (ms : Registry) (v : Visited) (t : ReadTask) : Type 0 where
  pub view : task_view t ≡ visited_view v
  pub resolved : Resolves ms t.work

-- the task that gathers facts at that line
abbrev pub Gathers : Registry → Option ℕ → Option ReadTask → Type 0
Gathers ms None t = Unit {0}
Gathers ms (Some l) None = ⊥
Gathers ms (Some l) (Some t) = (task_view t ≡ gathering_task l) × Resolves ms t.work
