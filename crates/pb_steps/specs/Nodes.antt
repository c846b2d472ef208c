-- The nodes of a play with their tasks where they stand.
use Rattle.std.specs.Prelude.{◌≡◌, All, length, map, option_map}
use Rattle.pb_language.specs.Book.{Registry}
use Rattle.pb_language.specs.Plays.{play_row}
use Rattle.pb_machine.specs.Steps.{play_steps}
use Rattle.pb_flow.specs.Flow.{begins_at}
use Rattle.pb_flow.specs.Nodes.{AreVisitedSound, node_step, node_task}
use Rattle.pb_play.specs.Plays.{play_view}
use Rattle.pb_play.specs.Sound.{AreSound, play_tasks}
use Rattle.pb_route.specs.Routes.{Gathers}
use Rattle.pb_route.specs.Station.{IsStation, station_task}
use Rattle.pb_template.specs.Entries.{entries_view}
use Rattle.pb_steps.specs.declared.nodes.PlayNodes.{PlayNodes}

-- the nodes are the steps of the play's plan, and at each stands its task
pub record AreNodes (ns : PlayNodes) : Type 0 where
  pub begin : (ms : Registry)
      → ns.graph.begin ≡ begins_at (play_row ms (play_view ns.play.now))
  pub steps : (ms : Registry)
      → map (node_step ms (entries_view ns.play.now.vars.items)) ns.graph.tasks.items
      ≡ play_steps (play_row ms (play_view ns.play.now))
  pub sound : (ms : Registry) → AreSound ms (play_tasks ns.play.now)
      → AreVisitedSound ms ns.play.now.gathering ns.graph.tasks.items
  pub stations : All IsStation ns.stations.items
  pub number : length ns.stations.items ≡ length ns.graph.tasks.items
  pub tasks : (ms : Registry) → AreSound ms (play_tasks ns.play.now)
      → Gathers ms ns.play.now.gathering (option_map (λ t. t.now) ns.gathering)
      → map station_task ns.stations.items
      ≡ map (node_task ms (entries_view ns.play.now.vars.items)) ns.graph.tasks.items
