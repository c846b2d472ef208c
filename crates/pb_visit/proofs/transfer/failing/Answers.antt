use Rattle.std.proofs.Common.{◌∙◌, option_map}
use Rattle.std.proofs.lemmas.Result.{IfOk-weaker}
use Rattle.pb_lattice.specs.Environments.{exit_of}
use Rattle.pb_lattice.proofs.Exits.{stands_well}
use Rattle.pb_kind.specs.KindView.{kind_view}
use Rattle.pb_route.specs.Station.{station_task}
use Rattle.pb_visit.proofs.Making.{fails_with}
use Rattle.pb_visit.proofs.transfer.failing.Goals as goal

pub returns : goal.returns
returns g c =
    let s = c.args.space.now in
    IfOk-weaker c.failing_kind.result _ _
    (λ o is. fails_with (g.O.Outlook.setting c.args.outlook.now) (c.views_are_well.ensures c.args.outlook.now) (station_task c.args.station.now) (exit_of s c.args.at) (stands_well s c.args.at c.requires.stands) c.requires.alive
    (option_map (λ k. kind_view k.now) c.kind_of_loop.result) (c.kind_of_loop.ensures ∙ c.in_ok-found.ensures.kind) (option_map kind_view o) is) c.failing_kind.ensures
