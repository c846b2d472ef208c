-- the queue of the counts so far
use Rattle.std.proofs.Common.{take}
use Rattle.pb_inventory.specs.Orders.{IsQueue}
use Rattle.pb_inventory.proofs.graph.nodes_at_zero.Given as goal

abbrev pub invariant-loop-node : goal.invariant-loop-node
invariant-loop-node l = IsQueue (take l.node l.counts) l.queue.items
