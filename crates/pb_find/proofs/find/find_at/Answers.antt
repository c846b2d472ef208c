use Rattle.std.proofs.Common.{sym, subst, List, ◌∙◌}
use Rattle.std.proofs.lemmas.Result.{IfOk-weaker}
use Rattle.pb_language.specs.Walk.{Visit}
use Rattle.pb_lattice.specs.Environments.{exit_of}
use Rattle.pb_kind.specs.KindView.{slots_view}
use Rattle.pb_route.specs.Station.{station_task}
use Rattle.pb_find.specs.Finds.{Finds}
use Rattle.pb_find.proofs.Finding.{alive_visits, dead_visits, finds_nothing}
use Rattle.pb_find.proofs.find.find_at.Goals as goal

pub returns-then-is_dead : goal.returns-then-is_dead
returns-then-is_dead g c = λ h.
    let view = slots_view c.args.view.now.entries in
    subst (λ (vs : List Visit). Finds h view vs c.args.before c.args.before)
    (dead_visits (g.O.Outlook.setting c.args.outlook.now) (station_task c.args.station.now) (exit_of c.args.space.now c.args.at) (sym (c.is_dead.ensures c.args.space.now) ∙ c.if-is_dead.true))
    (finds_nothing h view c.args.before c.requires.next)

pub returns : goal.returns
returns g c =
    let view = slots_view c.args.view.now.entries in
    IfOk-weaker c.find_visit.result _ _
    (λ f x h. subst (λ (vs : List Visit). Finds h view vs c.args.before f)
    (alive_visits (g.O.Outlook.setting c.args.outlook.now) (station_task c.args.station.now) (exit_of c.args.space.now c.args.at) (sym (c.is_dead.ensures c.args.space.now) ∙ c.if-is_dead.false)) (x h)) c.find_visit.ensures
