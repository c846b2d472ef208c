use Rattle.std.proofs.Common.{[], take}
use Rattle.pb_reads.specs.Reached.{names_in}
use Rattle.pb_steps.specs.Uses.{Adds}
use Rattle.pb_plan.specs.Nodes.{SomeNodesUse}
use Rattle.pb_plan.proofs.plan.slots_of_plays.Given as goal

abbrev pub invariant-loop-nodes : goal.invariant-loop-nodes
invariant-loop-nodes l = Adds (SomeNodesUse (take l.nodes-index l.plays)) [] (names_in l.names)
