use Rattle.std.proofs.Common.{take}
use Rattle.std.specs.List.{All}
use Rattle.pb_language.specs.Book.{Registry}
use Rattle.pb_play.specs.Sound.{AreSound, all_tasks}
use Rattle.pb_steps.specs.Nodes.{AreNodes}
use Rattle.pb_verify.specs.Scenes.{AllGather}
use Rattle.pb_plan.specs.Nodes.{AreNodesOf}
use Rattle.pb_plan.proofs.plan.nodes_of_plays.Given as goal

abbrev pub invariant-loop-index : goal.invariant-loop-index
invariant-loop-index l = (All AreNodes l.nodes.items)
    × ((ms : Registry) → AreSound ms (all_tasks l.plays) → AllGather ms l.plays l.gathering → AreNodesOf ms (take l.index l.plays) l.nodes.items)
