use Rattle.std.proofs.Common.{◌<◌, length, sym, arith}
use Rattle.pb_core.proofs.Hosts.{there}
use Rattle.pb_core.proofs.Cores.{gone_from}
use Rattle.pb_core.proofs.run.RunCore.go_on.Goals as goal

pub returns-clause-there : goal.returns-clause-there
returns-clause-there g c =
    let few : c.args.host < length c.args.self.now.hosts.items = omega (arith, c.if-host-len.false, c.args.self.now.hosts.ok) in
    gone_from c.args.self.now c.args.host c.go_on.result c.args.end.notified.items c.in-Some.play.now c.index.result.now (there c.args.self.now.hosts.items c.args.host c.index.result.now few c.index.ensures) (sym c.in-Some.ensures) c.go_on.ensures.there
