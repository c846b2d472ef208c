use Rattle.std.proofs.Common.{ℕ, ◌<◌, get_or}
use Rattle.pb_route.specs.declared.station.Station.{Station}
use Rattle.pb_find.proofs.calls.places_of.Given as goal

abbrev pub invariant-loop-station : goal.invariant-loop-station
invariant-loop-station l = (k : ℕ) (d : Station) → k < l.station-index → (get_or l.stations k d).place < l.places
