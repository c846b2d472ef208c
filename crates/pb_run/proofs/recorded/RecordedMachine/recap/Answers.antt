use Rattle.std.proofs.Common.{ap, ◌∙◌, arith, length, sym}
use Rattle.pb_core.specs.Hosts.{recap_view}
use Rattle.pb_core.proofs.Hosts.{past, there}
use Rattle.pb_run.proofs.Records.{recap_here, recap_none}
use Rattle.pb_run.proofs.recorded.RecordedMachine.recap.Goals as goal

pub returns-then-host-hosts : goal.returns-then-host-hosts
returns-then-host-hosts c = λ o recorded.
    c.empty.ensures ∙ recap_none c.args.self.now o recorded c.args.host (past c.args.self.now.machine.core.hosts.items c.args.host (omega (arith, c.if-host-hosts.true, ap length c.hosts-hosts.ensures)))

pub returns : goal.returns
returns c = λ o recorded.
    let x = c.index-hosts-host.result in
    ap (λ y. recap_view y.recap) (sym c.index-hosts-host.is)
    ∙ recap_here c.args.self.now o recorded c.args.host x (there c.args.self.now.machine.core.hosts.items c.args.host x (omega (arith, c.if-host-hosts.false, ap length c.hosts-hosts.ensures)) (rw (← c.hosts-hosts.ensures) c.index-hosts-host.is))
