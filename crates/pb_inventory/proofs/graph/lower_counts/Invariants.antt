-- each count is lowered by the children so far, and the queue only grows
use Rattle.pb_inventory.proofs.Queues.{IsLowered}
use Rattle.pb_inventory.proofs.graph.lower_counts.Given as goal

abbrev pub invariant-loop-child : goal.invariant-loop-child
invariant-loop-child l = IsLowered l.initial.counts l.initial.queue.items l.children l.child-index l.counts l.queue.items
