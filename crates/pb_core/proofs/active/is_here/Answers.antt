use Rattle.std.proofs.Common.{ap, subst}
use Rattle.pb_position.specs.Positions.{IsAt}
use Rattle.pb_core.specs.Entries.{is_here}
use Rattle.pb_core.proofs.Hosts.{there, past}
use Rattle.pb_core.proofs.Beginnings.{here_past, here_by}
use Rattle.pb_core.proofs.active.is_here.Goals as goal

pub returns-then-host-hosts-clause-here : goal.returns-then-host-hosts-clause-here
returns-then-host-hosts-clause-here g c = here_past c.args.hosts.now c.args.host (past c.args.hosts.now c.args.host c.if-host-hosts.true)

pub returns-in-End-clause-here : goal.returns-in-End-clause-here
returns-in-End-clause-here g c =
    here_by c.args.hosts.now c.args.host c.index-hosts-host.result c.location.result _ (there c.args.hosts.now c.args.host c.index-hosts-host.result c.if-host-hosts.false c.index-hosts-host.is)
    (λ h is. c.location.ensures h (subst (λ x. IsAt x.position h) c.index-hosts-host.is is)) (ap is_here c.in-End.is)

pub returns-in-Left-clause-here : goal.returns-in-Left-clause-here
returns-in-Left-clause-here g c =
    here_by c.args.hosts.now c.args.host c.index-hosts-host.result c.location.result _ (there c.args.hosts.now c.args.host c.index-hosts-host.result c.if-host-hosts.false c.index-hosts-host.is)
    (λ h is. c.location.ensures h (subst (λ x. IsAt x.position h) c.index-hosts-host.is is)) (ap is_here c.in-Left.is)

pub returns-in-Node-clause-here : goal.returns-in-Node-clause-here
returns-in-Node-clause-here g c =
    here_by c.args.hosts.now c.args.host c.index-hosts-host.result c.location.result _ (there c.args.hosts.now c.args.host c.index-hosts-host.result c.if-host-hosts.false c.index-hosts-host.is)
    (λ h is. c.location.ensures h (subst (λ x. IsAt x.position h) c.index-hosts-host.is is)) (ap is_here c.in-Node.is)
