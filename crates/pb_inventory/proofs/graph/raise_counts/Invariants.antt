-- each count is raised by the children so far
use Rattle.std.proofs.Common.{◌≡◌, ℕ, ◌+◌, ◌<◌, length, get_or, take}
use Rattle.pb_inventory.specs.Orders.{times}
use Rattle.pb_inventory.proofs.graph.raise_counts.Given as goal

abbrev pub invariant-loop-child : goal.invariant-loop-child
invariant-loop-child l = (c : ℕ) → c < length l.counts → get_or l.counts c 0 ≡ get_or l.initial.counts c 0 + times c (take l.child-index l.children)
