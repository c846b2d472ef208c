use Rattle.std.proofs.Common.{sym}
use Rattle.pb_core.proofs.Cores.{cannot_start}
use Rattle.pb_core.proofs.Runs.{start_at, start_ended, start_not, start_stopped}
use Rattle.pb_core.proofs.run.RunCore.can_start.Goals as goal

pub returns-then-self : goal.returns-then-self
returns-then-self g c = start_stopped c.args.self.now c.args.host c.if-self.true

pub returns-in_default : goal.returns-in_default
returns-in_default g c = start_ended c.args.self.now c.args.host (sym c.in_default.ensures)

pub returns-in_default-ready_at : goal.returns-in_default-ready_at
returns-in_default-ready_at g c = start_not c.args.self.now c.args.host (cannot_start c.args.self.now c.args.host c.in_default-ready_at.ensures.place)

pub returns : goal.returns
returns g c =
    start_at c.args.self.now c.args.host c.in-Some-ready_at.place c.in-Some.play.now c.can_start.result c.if-self.false (sym c.in-Some.ensures) c.in-Some-ready_at.ensures.place c.can_start.ensures
