use Rattle.std.proofs.Common.{map, take}
use Rattle.pb_reads.specs.Reached.{names_in}
use Rattle.pb_route.specs.Station.{station_task}
use Rattle.pb_steps.specs.Uses.{Adds, SomeUses}
use Rattle.pb_steps.proofs.nodes.PlayNodes.add_names.Given as goal

abbrev pub invariant-loop-station : goal.invariant-loop-station
invariant-loop-station l = Adds (SomeUses (map station_task (take l.station-index l.self.stations.items))) (names_in l.fn.names) (names_in l.names)
