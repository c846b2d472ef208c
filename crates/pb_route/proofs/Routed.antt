-- The paths of a play are those of its row.
use Rattle.std.proofs.Common.{◌≡◌, ◌∙◌, ◌<◌, ℕ, suc, List, Option, All, length, map, slice_index_or, sym, ap, subst, arith}
use Rattle.std.proofs.lemmas.List.{length-map}
use Rattle.pb_language.specs.Book.{Registry}
use Rattle.pb_language.specs.Expression.{Parts}
use Rattle.pb_language.specs.Links.{size}
use Rattle.pb_language.specs.Task.{Row}
use Rattle.pb_lattice.specs.Graph.{Graph, edge_at}
use Rattle.pb_flow.specs.Ahead.{flow_edges, flow_ways}
use Rattle.pb_flow.specs.Flow.{begins_at, row_links, tasks_of}
use Rattle.pb_flow.specs.Nodes.{node_task, nodes_links}
use Rattle.pb_flow.specs.Solved.{FlowsAreRows, FlowsCarryRows}
use Rattle.pb_flow.specs.declared.flow.Way.{Way}
use Rattle.pb_flow.specs.declared.flow.Way.TheVariants.{Begins}
use Rattle.pb_flow.specs.declared.graph.Node.{Node}
use Rattle.pb_flow.proofs.Sizes.{row-tasks}
use Rattle.pb_route.specs.Station.{IsStation, station_task}
use Rattle.pb_route.specs.declared.station.Station.{Station}
use Rattle.pb_route.specs.Routes.{ArePaths, ArePathsOf, node_step}
use Rattle.pb_route.proofs.PathSteps.{flow-length, flow-step, flow-until}

module _ (g : Graph) (ws : List Way) (ss : List Station) (begin : Option ℕ) (ns : List Node) (edges : g ≡ flow_edges begin ns) (ways : ws ≡ flow_ways begin ns) (number : length ss ≡ length ns) where
  pub are-paths : All IsStation ss → ArePaths (record { graph = g; ways = ws; stations = ss })
  are-paths stations = record {
    count = ap (λ (x : Graph). x.count) edges ∙ ap (λ n. suc (suc n)) (sym number);
    stations = stations;
    ways = ap length ways ∙ flow-length begin ns ∙ ap (λ (x : Graph). length x.edges) (sym edges);
    sources = λ i lt. omega (arith, flow-until begin ns i, ap (λ (x : Graph). (edge_at x i).source) edges);
  }

  pub are-of-row : (ms : Registry) (vars : Parts) (row : Row) → FlowsAreRows → FlowsCarryRows → begin ≡ begins_at row → map (node_task ms vars) ns ≡ tasks_of row → nodes_links ms vars 1 ns ≡ row_links row
      → map station_task ss ≡ map (node_task ms vars) ns → ArePathsOf row (record { graph = g; ways = ws; stations = ss })
  are-of-row ms vars row same carry begins tasks links told =
      let long : length ns ≡ size row = sym (length-map ns (node_task ms vars)) ∙ ap length tasks ∙ row-tasks row in
      record {
        graph = edges ∙ same ms vars row begin ns begins links long;
        steps = λ st i lt.
            ap (λ (x : Graph). node_step st ss (edge_at x i).source (slice_index_or ws i Begins)) edges
            ∙ ap (λ xs. node_step st ss (edge_at (flow_edges begin ns) i).source (slice_index_or xs i Begins)) ways
            ∙ flow-step st ss ms vars begin ns told i (subst (λ (x : Graph). i < length x.edges) edges lt) ∙ carry st ms vars row begin ns begins links i;
        tasks = told ∙ tasks;
      }
