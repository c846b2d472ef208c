use Rattle.std.proofs.Common.{map, take}
use Rattle.pb_route.specs.Station.{station_task}
use Rattle.pb_steps.proofs.Prepared.{ArePreparedInOrder}
use Rattle.pb_steps.proofs.nodes.PlayNodes.prepared.Given as goal

abbrev pub invariant-loop-station : goal.invariant-loop-station
invariant-loop-station l = ArePreparedInOrder l.tasks.items (map station_task (take l.station-index l.self.stations.items))
