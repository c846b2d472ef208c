-- the nodes taken so far, and how many nodes are not taken
use Rattle.std.proofs.Common.{map, take}
use Rattle.pb_inventory.proofs.Taking.{IsTaking, nodes_left}
use Rattle.pb_inventory.proofs.graph.parents_first.Given as goal

abbrev pub invariant-loop-taken : goal.invariant-loop-taken
invariant-loop-taken l = IsTaking (map (λ v. v.items) l.children) l.counts.items l.order.items l.taken

abbrev pub decreases-loop-taken : goal.decreases-loop-taken
decreases-loop-taken l = nodes_left (map (λ v. v.items) l.children) (take l.taken l.order.items)
