use Rattle.std.proofs.Common.{List, Option, subst}
use Rattle.std.proofs.lemmas.Result.{IfOk-weaker}
use Rattle.pb_language.specs.Cases.{with_sets}
use Rattle.pb_lattice.specs.Environments.{exit_of}
use Rattle.pb_outlook.specs.Standing.{known_of}
use Rattle.pb_transfer.specs.Written.{AreSame, sets_view, where_led}
use Rattle.pb_transfer.specs.declared.written.Set.{Set}
use Rattle.pb_visit.specs.Made.{IsGoing}
use Rattle.pb_route.specs.Station.{station_task}
use Rattle.pb_visit.specs.declared.transfer.Made.{Made}
use Rattle.pb_transfer.proofs.Same.{kept_through}
use Rattle.pb_visit.proofs.Leading.{goes_nowhere, goes_somewhere}
use Rattle.pb_visit.proofs.transfer.goes.Goals as goal

pub returns-in_default-clause-stands : goal.returns-in_default-clause-stands
returns-in_default-clause-stands g c = (c.dead.ensures c.args.space.now).0

pub returns-in_default-clause-same : goal.returns-in_default-clause-same
returns-in_default-clause-same g c =
    let s = c.args.space.now in
    let st = g.O.Outlook.setting c.args.outlook.now in
    let t = station_task c.args.station.now in
    let e = exit_of s c.args.at in
    goes_nowhere st t (exit_of s c.dead.result) e (c.dead.ensures s).1 c.requires.alive (subst (λ (o : Option Made). IsGoing st t (known_of e) o) c.in_default.is c.in_ok-made.ensures)

pub returns-clause-kept : goal.returns-clause-kept
returns-clause-kept g c = kept_through c.args.space.now c.registered.new.space c.with_sets.new.space c.in_ok-after.ensures.kept c.with_sets.ensures.kept

pub returns-clause-same : goal.returns-clause-same
returns-clause-same g c =
    let s = c.args.space.now in
    let st = g.O.Outlook.setting c.args.outlook.now in
    let t = station_task c.args.station.now in
    let e = exit_of s c.args.at in
    let made = c.in-Some.made in
    let after = exit_of c.registered.new.space c.in_ok-after.after in
    let goes = subst (λ (o : Option Made). IsGoing st t (known_of e) o) c.in-Some.is c.in_ok-made.ensures in
    IfOk-weaker c.with_sets.result _ _
    (λ x is. goes_somewhere st t made e after (exit_of c.with_sets.new.space x) c.requires.alive goes c.in_ok-after.ensures.same
    (subst (λ (xs : List Set). AreSame (exit_of c.with_sets.new.space x) (where_led (with_sets (sets_view xs)) after)) c.deref.ensures.value is)) c.with_sets.ensures.same
