-- The visits of a host's way through a play, as what is known at its nodes says.
use Rattle.std.specs.Prelude.{ℕ, List, None, map, slice_index_or}
use Rattle.pb_language.specs.Judgement.{Exit}
use Rattle.pb_language.specs.Setting.{Setting}
use Rattle.pb_language.specs.Walk.{Visit}
use Rattle.pb_lattice.specs.Environments.{exit_of}
use Rattle.pb_lattice.specs.Shared.{Shared}
use Rattle.pb_lattice.specs.declared.environment.Environment.{Environment}
use Rattle.pb_route.specs.Station.{station_task}
use Rattle.pb_route.specs.declared.station.Station.{Station}
use Rattle.pb_route.specs.Visited.{nodes_visits}

abbrev pub Visits : Type 0
Visits = List Visit

-- where no way leads
abbrev pub nothing_known : Environment
nothing_known = record { root = None }

abbrev pub value_at : Shared → List Environment → ℕ → Exit
value_at s es n = exit_of s (slice_index_or es n nothing_known)

abbrev pub way_visits : Setting → List Station → Shared → List Environment → List Visit
way_visits st ss s es = nodes_visits st (map station_task ss) (value_at s es) 1

-- from that node on, of which the stations that are left are
abbrev pub visits_from : Setting → List Station → Shared → List Environment → ℕ → List Visit
visits_from st ss s es n = nodes_visits st (map station_task ss) (value_at s es) n
