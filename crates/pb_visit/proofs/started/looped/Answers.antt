use Rattle.std.proofs.Common.{option_map}
use Rattle.pb_lattice.specs.Environments.{exit_of}
use Rattle.pb_kind.specs.KindView.{kind_view}
use Rattle.pb_forms.specs.FitView.{fault_view}
use Rattle.pb_visit.specs.Footing.{footing}
use Rattle.pb_visit.proofs.Looped.{looped_fault, looped_kind}
use Rattle.pb_visit.proofs.started.looped.Goals as goal

pub returns-clause-kind : goal.returns-clause-kind
returns-clause-kind g c =
    let h = c.ground-ground.result in
    let f = footing (g.O.Outlook.setting h.outlook.now) h.vars.now (exit_of h.space.now h.at) h.place h.depth in
    looped_kind (g.O.Outlook.setting c.args.outlook.now) c.args.visit.now f c.in-Some.list c.ground-ground.ensures c.in-Some.is (kind_view c.in_ok-found.found.kind) c.in_ok-found.ensures.kind

pub returns-clause-fault : goal.returns-clause-fault
returns-clause-fault g c =
    let h = c.ground-ground.result in
    let f = footing (g.O.Outlook.setting h.outlook.now) h.vars.now (exit_of h.space.now h.at) h.place h.depth in
    looped_fault (g.O.Outlook.setting c.args.outlook.now) c.args.visit.now f c.in-Some.list c.ground-ground.ensures c.in-Some.is (option_map fault_view c.in_ok-found.found.unfit) c.in_ok-found.ensures.fault
