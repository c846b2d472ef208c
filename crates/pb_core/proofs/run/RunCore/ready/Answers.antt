use Rattle.std.proofs.Common.{sym}
use Rattle.pb_core.proofs.Runs.{ready_stopped, ready_ended, ready_by}
use Rattle.pb_core.proofs.run.RunCore.ready.Goals as goal

pub returns-then-self : goal.returns-then-self
returns-then-self g c = ready_stopped c.args.self.now c.if-self.true

pub returns-in_default : goal.returns-in_default
returns-in_default g c = ready_ended c.args.self.now (sym c.in_default.ensures)

pub returns : goal.returns
returns g c = ready_by c.args.self.now c.in-Some.play.now c.next.result c.if-self.false (sym c.in-Some.ensures) c.next.ensures
