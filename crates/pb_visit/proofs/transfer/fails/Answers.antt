use Rattle.std.proofs.Common.{Option, option_map, subst}
use Rattle.std.proofs.lemmas.Result.{IfOk-weaker}
use Rattle.pb_lattice.specs.Environments.{exit_of}
use Rattle.pb_kind.specs.KindView.{kind_view}
use Rattle.pb_kind.specs.declared.kind.Kind.{Kind}
use Rattle.pb_outlook.specs.Standing.{known_of}
use Rattle.pb_visit.specs.Made.{IsFailing}
use Rattle.pb_route.specs.Station.{station_task}
use Rattle.pb_visit.proofs.Leading.{fails_nowhere, fails_somewhere}
use Rattle.pb_visit.proofs.transfer.fails.Goals as goal

pub returns-in_default-clause-stands : goal.returns-in_default-clause-stands
returns-in_default-clause-stands g c = (c.dead.ensures c.args.space.now).0

pub returns-in_default-clause-same : goal.returns-in_default-clause-same
returns-in_default-clause-same g c =
    let s = c.args.space.now in
    let st = g.O.Outlook.setting c.args.outlook.now in
    let t = station_task c.args.station.now in
    let e = exit_of s c.args.at in
    fails_nowhere st t (exit_of s c.dead.result) e (c.dead.ensures s).1 c.requires.alive (subst (λ (o : Option Kind). IsFailing st t (known_of e) (option_map kind_view o)) c.in_default.is c.in_ok-result.ensures)

pub returns-clause-same : goal.returns-clause-same
returns-clause-same g c =
    let s = c.args.space.now in
    let st = g.O.Outlook.setting c.args.outlook.now in
    let t = station_task c.args.station.now in
    let e = exit_of s c.args.at in
    let fails = subst (λ (o : Option Kind). IsFailing st t (known_of e) (option_map kind_view o)) c.in-Some.is c.in_ok-result.ensures in
    IfOk-weaker c.registered.result _ _ (λ x is. fails_somewhere st t (kind_view c.in-Some.result) e (exit_of c.registered.new.space x) c.requires.alive fails is) c.registered.ensures.same
