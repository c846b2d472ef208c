use Rattle.std.proofs.Common.{take}
use Rattle.pb_sig.specs.Modules.{modules_of}
use Rattle.pb_verify.specs.Scenes.{AllGather}
use Rattle.pb_verify.proofs.scenes.gathering_tasks.Given as goal

abbrev pub invariant-loop-play : goal.invariant-loop-play
invariant-loop-play l = AllGather (modules_of l.registry) (take l.play-index l.plays) l.tasks.items
