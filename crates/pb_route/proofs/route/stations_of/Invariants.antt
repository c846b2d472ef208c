use Rattle.std.proofs.Common.{◌≡◌, All, length, map, option_map, take}
use Rattle.pb_language.specs.Book.{Registry}
use Rattle.pb_template.specs.Entries.{entries_view}
use Rattle.pb_flow.specs.Nodes.{AreVisitedSound, node_task}
use Rattle.pb_route.specs.Station.{IsStation, station_task}
use Rattle.pb_route.specs.Routes.{Gathers}
use Rattle.pb_route.proofs.route.stations_of.Given as goal

abbrev pub invariant-loop-node : goal.invariant-loop-node
invariant-loop-node l = record {
  stations : All IsStation l.stations.items;
  number : length l.stations.items ≡ l.node-index;
  tasks : (ms : Registry) → AreVisitedSound ms l.play.gathering l.nodes → Gathers ms l.play.gathering (option_map (λ t. t.now) l.gathering)
      → map station_task l.stations.items ≡ map (node_task ms (entries_view l.play.vars.items)) (take l.node-index l.nodes);
}
