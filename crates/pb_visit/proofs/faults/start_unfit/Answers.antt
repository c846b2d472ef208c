use Rattle.std.proofs.Common.{option_map, sym, ◌∙◌}
use Rattle.std.proofs.lemmas.Result.{IfOk-weaker}
use Rattle.pb_language.specs.Judgement.{action_fault, conditions_fault}
use Rattle.pb_language.specs.Setting.{action_scope, item_scope}
use Rattle.pb_lattice.specs.Environments.{exit_of}
use Rattle.pb_kind.specs.KindView.{kind_view}
use Rattle.pb_forms.specs.FitView.{fault_view}
use Rattle.pb_visit.specs.Footing.{footing}
use Rattle.pb_visit.specs.Visits.{env_of, task_there}
use Rattle.pb_visit.proofs.OnGround.{started_action, then_found}
use Rattle.pb_visit.proofs.faults.start_unfit.Goals as goal

pub returns : goal.returns
returns g c =
    let h = c.ground-ground.result in
    let v = c.args.visit.now in
    let st = g.O.Outlook.setting c.args.outlook.now in
    let t = task_there v in
    let f = footing (g.O.Outlook.setting h.outlook.now) h.vars.now (exit_of h.space.now h.at) h.place h.depth in
    let k = option_map (λ x. kind_view x.now) c.args.over in
    let held = c.in_ok-held in
    IfOk-weaker c.action_found.result _ _
    (λ u is. then_found held.held.unfit (conditions_fault (item_scope st t (env_of v)) t.conditions) (action_fault (action_scope st t (env_of v)) t.action) (option_map fault_view u)
    (sym c.is_some.ensures ∙ c.if-is_some.false) held.ensures.fault (started_action st v f k c.ground-ground.ensures c.requires.over held.held.taught (option_map fault_view u) held.ensures.taught is)) c.action_found.ensures
