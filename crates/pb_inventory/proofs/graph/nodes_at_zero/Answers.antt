-- one more count, whose node joins the queue where it is 0
use Rattle.std.proofs.Common.{◌≡◌, ◌++◌, [], ◌∷◌, arith}
use Rattle.pb_inventory.proofs.Queues.{queue-other, queue-zero}
use Rattle.pb_inventory.proofs.graph.nodes_at_zero.Goals as goal
use Rattle.pb_inventory.proofs.graph.nodes_at_zero.Goals.{then-count-eq0+in_ok-push, else-count-eq0}

pub loop-node-preserved : goal.loop-node-preserved
loop-node-preserved c =
    let i = c.loop-node.node in
    elim c.if-count-eq0.branch [
      | then-count-eq0+in_ok-push w ↦
          let pushed : c.if-count-eq0.queue.items ≡ c.loop-node.queue.items ++ i ∷ [] = cc (w.in_ok-push.ensures.items) in
          queue-zero c.args.counts.now _ _ i (omega arith) w.if-count-eq0.true pushed c.loop-node.invariant
      | else-count-eq0 w ↦
          let same : c.if-count-eq0.queue.items ≡ c.loop-node.queue.items = cc in
          queue-other c.args.counts.now _ _ i (omega arith) w.if-count-eq0.false same c.loop-node.invariant
    ]
