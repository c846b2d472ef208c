use Rattle.std.proofs.Common.{◌≡◌, ◌+◌, ◌≤◌, ◌^◌, drop, map}
use Rattle.pb_route.specs.Station.{station_task}
use Rattle.pb_route.specs.Places.{places_calls}
use Rattle.pb_find.specs.Ways.{way_visits}
use Rattle.pb_find.proofs.calls.calls_in.Given as goal

abbrev pub invariant-loop-station : goal.invariant-loop-station
invariant-loop-station g l =
    let vs = way_visits (g.O.Outlook.setting l.fn.outlook) l.fn.stations l.fn.space l.fn.values in
    record {
      few : l.next ≤ 2 ^ 32;
      counted : l.calls + places_calls vs l.next (map station_task (drop l.station-index l.stations)) ≡ places_calls vs 0 (map station_task l.stations);
    }
