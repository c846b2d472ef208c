use Rattle.std.proofs.Common.{option_map}
use Rattle.std.proofs.lemmas.Result.{IfOk-weaker}
use Rattle.pb_language.specs.Cases.{is_certain_to_run}
use Rattle.pb_lattice.specs.Environments.{exit_of}
use Rattle.pb_kind.specs.KindView.{kind_view}
use Rattle.pb_fit.specs.SetsView.{sets_view as found_view}
use Rattle.pb_transfer.specs.Written.{sets_view}
use Rattle.pb_visit.specs.Footing.{footing}
use Rattle.pb_visit.specs.Visits.{task_there}
use Rattle.pb_visit.proofs.OnGround.{started_sets}
use Rattle.pb_visit.proofs.writes.facts_set.Goals as goal

pub returns : goal.returns
returns g c =
    let h = c.ground-ground.result in
    let v = c.args.visit.now in
    let s = v.station.now in
    let st = g.O.Outlook.setting c.args.outlook.now in
    let t = task_there v in
    let f = footing (g.O.Outlook.setting h.outlook.now) h.vars.now (exit_of h.space.now h.at) h.place h.depth in
    let k = option_map (λ x. kind_view x.now) c.args.over in
    let held = c.in_ok-held in
    IfOk-weaker c.as_written.result _ _
    (λ x is. started_sets st v f k c.ground-ground.ensures c.requires.over held.held.taught s.is_certain (is_certain_to_run t) (sets_view x.items) (found_view s.is_certain c.in_ok-found.found.items) held.ensures.taught c.requires.station.certain is (c.in_ok-found.ensures s.is_certain)) c.as_written.ensures
