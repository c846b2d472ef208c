use Rattle.std.proofs.Common.{option_map}
use Rattle.std.proofs.lemmas.Result.{IfOk-weaker}
use Rattle.pb_lattice.specs.Environments.{exit_of}
use Rattle.pb_kind.specs.KindView.{kind_view}
use Rattle.pb_forms.specs.FitView.{fault_view}
use Rattle.pb_visit.specs.Footing.{footing}
use Rattle.pb_visit.proofs.OnGround.{started_fault, started_taught}
use Rattle.pb_visit.proofs.started.started.Goals as goal

pub returns-clause-fault : goal.returns-clause-fault
returns-clause-fault g c =
    let h = c.ground-ground.result in
    let st = g.O.Outlook.setting c.args.outlook.now in
    let f = footing (g.O.Outlook.setting h.outlook.now) h.vars.now (exit_of h.space.now h.at) h.place h.depth in
    let k = option_map (λ x. kind_view x.now) c.args.over in
    IfOk-weaker c.item_conditions.result _ _
    (λ x is. started_fault st c.args.visit.now f k c.ground-ground.ensures c.requires.over c.deref.result.now (option_map fault_view x.unfit) c.deref.ensures is) c.item_conditions.ensures.fault

pub returns-clause-taught : goal.returns-clause-taught
returns-clause-taught g c =
    let h = c.ground-ground.result in
    let st = g.O.Outlook.setting c.args.outlook.now in
    let f = footing (g.O.Outlook.setting h.outlook.now) h.vars.now (exit_of h.space.now h.at) h.place h.depth in
    let k = option_map (λ x. kind_view x.now) c.args.over in
    IfOk-weaker c.item_conditions.result _ _
    (λ x is. started_taught st c.args.visit.now f k c.ground-ground.ensures c.requires.over c.deref.result.now x.taught c.deref.ensures is) c.item_conditions.ensures.taught
