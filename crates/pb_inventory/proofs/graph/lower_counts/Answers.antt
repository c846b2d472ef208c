-- the next child's count is above 0, and lowering it keeps the invariant
use Rattle.std.proofs.Common.{◌≡◌, length, take, subst, arith}
use Rattle.pb_inventory.proofs.Queues.{lowered-more, lowered-positive}
use Rattle.pb_inventory.proofs.graph.lower_counts.Goals as goal

pub lower_count-requires-clause-positive : goal.lower_count-requires-clause-positive
lower_count-requires-clause-positive c =
    let i = c.loop-child.child-index in
    let node = c.requires.nodes i (omega arith) in
    lowered-positive c.args.counts.now c.args.queue.now.items c.args.children.now i _ _ c.loop-child.invariant (omega arith) node (c.requires.enough _ node)

pub loop-child-preserved : goal.loop-child-preserved
loop-child-preserved c =
    let i = c.loop-child.child-index in
    let node = c.requires.nodes i (omega arith) in
    let positive = lowered-positive c.args.counts.now c.args.queue.now.items c.args.children.now i _ _ c.loop-child.invariant (omega arith) node (c.requires.enough _ node) in
    let size : c.loop-child.queue.len ≡ length c.loop-child.queue.items = omega (arith, c.loop-child.queue.ok.0) in
    let kept = subst (λ n. take n c.lower_count.new.queue.items ≡ c.loop-child.queue.items) size c.in_ok-lower_count.ensures.kept in
    lowered-more c.args.counts.now c.args.queue.now.items c.args.children.now i _ _ _ _ c.loop-child.invariant (omega arith) node (omega arith) positive c.lower_count.ensures.lowered c.in_ok-lower_count.ensures.queue kept
