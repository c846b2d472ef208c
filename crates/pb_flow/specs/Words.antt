-- The words of this crate that the contracts of others cite, from one place.
pub use Rattle.pb_flow.specs.Ahead.{flow_edges, flow_ways}
pub use Rattle.pb_flow.specs.Exits.{exits_at, line_at, node_at, place_at}
pub use Rattle.pb_flow.specs.Flow.{begins_at, end_node, row_links, tasks_of}
pub use Rattle.pb_flow.specs.Nodes.{AreVisitedSound, IsVisitedSound, around_view, node_links}
pub use Rattle.pb_flow.specs.Nodes.{move_view, node_step, node_task, nodes_links, target_view}
pub use Rattle.pb_flow.specs.Nodes.{visited_view}
pub use Rattle.pb_flow.specs.Solved.{along_way, flow_steps, row_graph, row_step}
