use Rattle.std.proofs.Common.{◌<◌, ◌≤◌, length, sym, arith}
use Rattle.pb_core.proofs.Hosts.{there, past}
use Rattle.pb_core.proofs.Cores.{ended_ready, missing_ready, waits_ready_at, runs_ready}
use Rattle.pb_core.proofs.run.RunCore.ready_at.Goals as goal

pub returns-in_default-clause-place : goal.returns-in_default-clause-place
returns-in_default-clause-place g c = ended_ready c.args.self.now c.args.host (sym c.in_default.ensures)

pub returns-then-host-len-clause-place : goal.returns-then-host-len-clause-place
returns-then-host-len-clause-place g c =
    let over : length c.args.self.now.hosts.items ≤ c.args.host = omega (arith, c.if-host-len.true, c.args.self.now.hosts.ok) in
    missing_ready c.args.self.now c.args.host (past c.args.self.now.hosts.items c.args.host over)

pub returns-in-Waits-clause-place : goal.returns-in-Waits-clause-place
returns-in-Waits-clause-place g c =
    let few : c.args.host < length c.args.self.now.hosts.items = omega (arith, c.if-host-len.false, c.args.self.now.hosts.ok) in
    waits_ready_at c.args.self.now c.args.host c.index-state.result.now (there c.args.self.now.hosts.items c.args.host c.index-state.result.now few c.index-state.ensures)
    c.in-Some.play.now c.deref.result.now c.place_at.result c.in-Waits.is (sym c.in-Some.ensures) c.deref.ensures.value c.place_at.ensures

pub returns-in-Runs-clause-place : goal.returns-in-Runs-clause-place
returns-in-Runs-clause-place g c =
    let few : c.args.host < length c.args.self.now.hosts.items = omega (arith, c.if-host-len.false, c.args.self.now.hosts.ok) in
    runs_ready c.args.self.now c.args.host c.index-state.result.now (there c.args.self.now.hosts.items c.args.host c.index-state.result.now few c.index-state.ensures)
    c.in-Runs.ticket c.in-Runs.attempts c.in-Runs.calls c.in-Runs.passes c.in-Runs.is
