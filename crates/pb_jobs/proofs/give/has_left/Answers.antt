use Rattle.std.proofs.Common.{ap, subst, true, false}
use Rattle.pb_position.specs.Positions.{IsAt}
use Rattle.pb_core.specs.Entries.{IsHere, is_here}
use Rattle.pb_core.proofs.Hosts.{past, there}
use Rattle.pb_core.proofs.Beginnings.{here_by, here_past}
use Rattle.pb_jobs.proofs.give.has_left.Goals as goal

pub returns-then-host-hosts : goal.returns-then-host-hosts
returns-then-host-hosts c = subst (λ xs. IsHere xs c.args.host false) c.hosts-hosts.ensures (here_past c.hosts-hosts.result.now c.args.host (past c.hosts-hosts.result.now c.args.host c.if-host-hosts.true))

pub returns-in-End : goal.returns-in-End
returns-in-End c =
    subst (λ xs. IsHere xs c.args.host true) c.hosts-hosts.ensures
    (here_by c.hosts-hosts.result.now c.args.host c.index-hosts-host.result c.location.result true (there c.hosts-hosts.result.now c.args.host c.index-hosts-host.result c.if-host-hosts.false c.index-hosts-host.is)
    (λ h is. c.location.ensures h (subst (λ x. IsAt x.position h) c.index-hosts-host.is is)) (ap is_here c.in-End.is))

pub returns-in-Left : goal.returns-in-Left
returns-in-Left c =
    subst (λ xs. IsHere xs c.args.host false) c.hosts-hosts.ensures
    (here_by c.hosts-hosts.result.now c.args.host c.index-hosts-host.result c.location.result false (there c.hosts-hosts.result.now c.args.host c.index-hosts-host.result c.if-host-hosts.false c.index-hosts-host.is)
    (λ h is. c.location.ensures h (subst (λ x. IsAt x.position h) c.index-hosts-host.is is)) (ap is_here c.in-Left.is))

pub returns-in-Node : goal.returns-in-Node
returns-in-Node c =
    subst (λ xs. IsHere xs c.args.host true) c.hosts-hosts.ensures
    (here_by c.hosts-hosts.result.now c.args.host c.index-hosts-host.result c.location.result true (there c.hosts-hosts.result.now c.args.host c.index-hosts-host.result c.if-host-hosts.false c.index-hosts-host.is)
    (λ h is. c.location.ensures h (subst (λ x. IsAt x.position h) c.index-hosts-host.is is)) (ap is_here c.in-Node.is))
