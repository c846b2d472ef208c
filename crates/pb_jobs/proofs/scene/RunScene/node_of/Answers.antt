use Rattle.std.proofs.Common.{◌≡◌, ◌∙◌, None, Some, ap, arith, slice_get, subst, sym}
use Rattle.pb_position.specs.Positions.{IsAt, location_view}
use Rattle.pb_core.proofs.Hosts.{past, there}
use Rattle.pb_jobs.proofs.HostTasks.{end_apart, left_apart, missing_task, nowhere_task}
use Rattle.pb_jobs.proofs.Nodes.{node_is, node_or, node_within}
use Rattle.pb_jobs.proofs.scene.RunScene.node_of.Goals as goal

pub returns-then-host-hosts-clause-none : goal.returns-then-host-hosts-clause-none
returns-then-host-hosts-clause-none c = λ e.
    missing_task c.args.self.now c.args.host (subst (λ xs. slice_get xs c.args.host ≡ None) c.hosts-hosts.ensures (past c.hosts-hosts.result.now c.args.host c.if-host-hosts.true))

pub returns-in-End-clause-none : goal.returns-in-End-clause-none
returns-in-End-clause-none c = λ e.
    let x = c.index-hosts-host.result in
    let here = subst (λ xs. slice_get xs c.args.host ≡ Some x) c.hosts-hosts.ensures (there c.hosts-hosts.result.now c.args.host x c.if-host-hosts.false c.index-hosts-host.is) in
    nowhere_task c.args.self.now c.args.host x c.location.result here (λ h is. c.location.ensures h (subst (λ y. IsAt y.position h) c.index-hosts-host.is is)) (λ n d. end_apart n (sym (ap location_view c.in-End.is) ∙ d))

pub returns-in-Left-clause-none : goal.returns-in-Left-clause-none
returns-in-Left-clause-none c = λ e.
    let x = c.index-hosts-host.result in
    let here = subst (λ xs. slice_get xs c.args.host ≡ Some x) c.hosts-hosts.ensures (there c.hosts-hosts.result.now c.args.host x c.if-host-hosts.false c.index-hosts-host.is) in
    nowhere_task c.args.self.now c.args.host x c.location.result here (λ h is. c.location.ensures h (subst (λ y. IsAt y.position h) c.index-hosts-host.is is)) (λ n d. left_apart n (sym (ap location_view c.in-Left.is) ∙ d))

pub returns-in-Node-clause-node : goal.returns-in-Node-clause-node
returns-in-Node-clause-node c = λ reading s scene n.
    let x = c.index-hosts-host.result in
    let core = c.args.self.now.core.now in
    let here = subst (λ xs. slice_get xs c.args.host ≡ Some x) c.hosts-hosts.ensures (there c.hosts-hosts.result.now c.args.host x c.if-host-hosts.false c.index-hosts-host.is) in
    let at = node_is reading core s scene.kept.core c.args.host n x c.location.result here (λ h is. c.location.ensures h (subst (λ y. IsAt y.position h) c.index-hosts-host.is is)) in
    let same : c.in-Node.node ≡ n.node = ap (λ l. node_or l 0) (sym (ap location_view c.in-Node.is) ∙ at) in
    let within = node_within reading core s scene.kept.core c.args.host n x here in
    (omega (arith, same, within.0, c.saturating_sub.ensures), omega (arith, same, within.0, within.1, c.saturating_sub.ensures))
