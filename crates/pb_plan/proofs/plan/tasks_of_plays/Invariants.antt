use Rattle.std.proofs.Common.{take}
use Rattle.pb_language.specs.Book.{Registry}
use Rattle.pb_plan.specs.Nodes.{AreTasksOf}
use Rattle.pb_plan.proofs.plan.tasks_of_plays.Given as goal

abbrev pub invariant-loop-nodes : goal.invariant-loop-nodes
invariant-loop-nodes l = (ms : Registry) → AreTasksOf ms l.tasks.items (take l.nodes-index l.plays)
