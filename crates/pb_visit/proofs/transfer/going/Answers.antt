use Rattle.std.proofs.Common.{◌∙◌, ap, option_map, sym}
use Rattle.pb_lattice.specs.Environments.{exit_of}
use Rattle.pb_lattice.proofs.Exits.{stands_well}
use Rattle.pb_kind.specs.KindView.{kind_view}
use Rattle.pb_route.specs.Station.{station_task}
use Rattle.pb_visit.specs.declared.transfer.Made.{Made}
use Rattle.pb_visit.proofs.Making.{goes_making, goes_not}
use Rattle.pb_visit.proofs.transfer.going.Goals as goal

pub returns-in-None : goal.returns-in-None
returns-in-None g c =
    let s = c.args.space.now in
    goes_not (g.O.Outlook.setting c.args.outlook.now) (c.views_are_well.ensures c.args.outlook.now) (station_task c.args.station.now) (exit_of s c.args.at) (stands_well s c.args.at c.requires.stands) c.requires.alive
    (option_map (λ k. kind_view k.now) c.kind_of_loop-over.result) (c.kind_of_loop-over.ensures ∙ c.in_ok-found.ensures.kind)
    (sym (ap (option_map kind_view) c.in-None.is) ∙ c.in_ok-going_kind.ensures)

pub returns : goal.returns
returns g c =
    let s = c.args.space.now in
    let m : Made = record { result = c.in-Some.result; sets = c.in_ok-sets_there-in-Some.field-0 } in
    goes_making (g.O.Outlook.setting c.args.outlook.now) (c.views_are_well.ensures c.args.outlook.now) (station_task c.args.station.now) (exit_of s c.args.at) (stands_well s c.args.at c.requires.stands) c.requires.alive
    (option_map (λ k. kind_view k.now) c.kind_of_loop-over.result) (c.kind_of_loop-over.ensures ∙ c.in_ok-found.ensures.kind) m
    (sym (ap (option_map kind_view) c.in-Some.is) ∙ c.in_ok-going_kind.ensures) c.in_ok-sets_there-in-Some.ensures
