use Rattle.std.proofs.Common.{None, option_map}
use Rattle.std.proofs.lemmas.Result.{IfOk-weaker}
use Rattle.pb_language.specs.Expansion.{expanded, trees}
use Rattle.pb_lattice.specs.Environments.{exit_of}
use Rattle.pb_kind.specs.KindView.{kind_view}
use Rattle.pb_syntax.specs.ExprView.{expr_view}
use Rattle.pb_forms.specs.FitView.{fault_view}
use Rattle.pb_taught.specs.TaughtView.{scope_view}
use Rattle.pb_visit.specs.Footing.{before_on, footing, loop_on}
use Rattle.pb_visit.proofs.Looped.{fault_there, kind_there}
use Rattle.pb_visit.proofs.footing.loop_found.Goals as goal

pub returns-clause-kind : goal.returns-clause-kind
returns-clause-kind g c =
    let h = c.args.ground.now in
    let f = footing (g.O.Outlook.setting h.outlook.now) h.vars.now (exit_of h.space.now h.at) h.place h.depth in
    let b = before_on f None in
    IfOk-weaker c.loop_of.result _ _
    (λ i is. kind_there (scope_view b c.nothing.result) (loop_on f) (expanded (trees f.vars) (expr_view c.args.list.now)) (kind_view i.kind) (c.nothing.ensures b) is) c.loop_of.ensures.kind

pub returns-clause-fault : goal.returns-clause-fault
returns-clause-fault g c =
    let h = c.args.ground.now in
    let f = footing (g.O.Outlook.setting h.outlook.now) h.vars.now (exit_of h.space.now h.at) h.place h.depth in
    let b = before_on f None in
    IfOk-weaker c.loop_of.result _ _
    (λ i is. fault_there (scope_view b c.nothing.result) (loop_on f) (expanded (trees f.vars) (expr_view c.args.list.now)) (option_map fault_view i.unfit) (c.nothing.ensures b) is) c.loop_of.ensures.fault
