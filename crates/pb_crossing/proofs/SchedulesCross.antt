-- What a run goes through may go to another thread, and be shared with one.
use denote.Param.Send.{IsSend, IsSync, sendable}
use Rattle.std.proofs.Crossing as own
use Rattle.std.proofs.MapsCrossing as maps
use Rattle.pb_flow.specs.contracts.graph.Move as Move
use Rattle.pb_flow.specs.contracts.graph.Target as Target
use Rattle.pb_steps.specs.contracts.step.Step as Step
use Rattle.pb_steps.specs.contracts.step.PlaySteps as PlaySteps
use Rattle.pb_start.specs.contracts.prepared.Action as Action
use Rattle.pb_start.specs.contracts.prepared.Prepared as Prepared
use Rattle.pb_core.specs.contracts.batch.RunPlay as RunPlay
use Rattle.pb_core.specs.contracts.batch.Batch as Batch
use Rattle.pb_core.specs.contracts.batch.Schedule as Schedule
use Rattle.pb_crossing.proofs.ExpressionsCross as expressions
use Rattle.pb_crossing.proofs.ModulesCross as modules
use Rattle.pb_crossing.proofs.TasksCross as tasks

pub Move-field-send : IsSend (Move.the_field).row
Move-field-send = search (expressions.crosses, modules.crosses, tasks.crosses, maps.crosses, own.crosses, sendable) depth 20

pub Move-field-sync : IsSync (Move.the_field).row
Move-field-sync = search (expressions.crosses, modules.crosses, tasks.crosses, maps.crosses, own.crosses, sendable) depth 20

pub Move-send : IsSend Move.the_row
Move-send = search (Move-field-send, sendable)

pub Move-sync : IsSync Move.the_row
Move-sync = search (Move-field-sync, sendable)

pub ruleset move = (Move-field-send, Move-field-sync, Move-send, Move-sync)

pub Target-field-send : IsSend (Target.the_field).row
Target-field-send = search (move, expressions.crosses, modules.crosses, tasks.crosses, maps.crosses, own.crosses, sendable) depth 20

pub Target-field-sync : IsSync (Target.the_field).row
Target-field-sync = search (move, expressions.crosses, modules.crosses, tasks.crosses, maps.crosses, own.crosses, sendable) depth 20

pub Target-send : IsSend Target.the_row
Target-send = search (Target-field-send, sendable)

pub Target-sync : IsSync Target.the_row
Target-sync = search (Target-field-sync, sendable)

pub ruleset target = (Target-field-send, Target-field-sync, Target-send, Target-sync)

pub Step-field-send : IsSend (Step.the_field).row
Step-field-send = search (target, maps.crosses, own.crosses, sendable) depth 20

pub Step-field-sync : IsSync (Step.the_field).row
Step-field-sync = search (target, maps.crosses, own.crosses, sendable) depth 20

pub Step-send : IsSend Step.the_row
Step-send = search (Step-field-send, sendable)

pub Step-sync : IsSync Step.the_row
Step-sync = search (Step-field-sync, sendable)

pub ruleset step = (Step-field-send, Step-field-sync, Step-send, Step-sync)

pub PlaySteps-field-send : IsSend (PlaySteps.the_field).row
PlaySteps-field-send = search (step, target, maps.crosses, own.crosses, sendable) depth 20

pub PlaySteps-field-sync : IsSync (PlaySteps.the_field).row
PlaySteps-field-sync = search (step, target, maps.crosses, own.crosses, sendable) depth 20

pub PlaySteps-send : IsSend PlaySteps.the_row
PlaySteps-send = search (PlaySteps-field-send, sendable)

pub PlaySteps-sync : IsSync PlaySteps.the_row
PlaySteps-sync = search (PlaySteps-field-sync, sendable)

pub ruleset play_steps = (PlaySteps-field-send, PlaySteps-field-sync, PlaySteps-send, PlaySteps-sync)

pub Action-field-send : IsSend (Action.the_field).row
Action-field-send = search (expressions.crosses, modules.crosses, tasks.crosses, maps.crosses, own.crosses, sendable) depth 40

pub Action-field-sync : IsSync (Action.the_field).row
Action-field-sync = search (expressions.crosses, modules.crosses, tasks.crosses, maps.crosses, own.crosses, sendable) depth 40

pub Action-send : IsSend Action.the_row
Action-send = search (Action-field-send, sendable)

pub Action-sync : IsSync Action.the_row
Action-sync = search (Action-field-sync, sendable)

pub ruleset action = (Action-field-send, Action-field-sync, Action-send, Action-sync)

pub Prepared-field-send : IsSend (Prepared.the_field).row
Prepared-field-send = search (action, expressions.crosses, modules.crosses, tasks.crosses, maps.crosses, own.crosses, sendable) depth 20

pub Prepared-field-sync : IsSync (Prepared.the_field).row
Prepared-field-sync = search (action, expressions.crosses, modules.crosses, tasks.crosses, maps.crosses, own.crosses, sendable) depth 20

pub Prepared-send : IsSend Prepared.the_row
Prepared-send = search (Prepared-field-send, sendable)

pub Prepared-sync : IsSync Prepared.the_row
Prepared-sync = search (Prepared-field-sync, sendable)

pub ruleset prepared = (Prepared-field-send, Prepared-field-sync, Prepared-send, Prepared-sync)

pub RunPlay-field-send : IsSend (RunPlay.the_field).row
RunPlay-field-send = search (play_steps, prepared, maps.crosses, own.crosses, sendable) depth 20

pub RunPlay-field-sync : IsSync (RunPlay.the_field).row
RunPlay-field-sync = search (play_steps, prepared, maps.crosses, own.crosses, sendable) depth 20

pub RunPlay-send : IsSend RunPlay.the_row
RunPlay-send = search (RunPlay-field-send, sendable)

pub RunPlay-sync : IsSync RunPlay.the_row
RunPlay-sync = search (RunPlay-field-sync, sendable)

pub ruleset run_play = (RunPlay-field-send, RunPlay-field-sync, RunPlay-send, RunPlay-sync)

pub Batch-field-send : IsSend (Batch.the_field).row
Batch-field-send = search (maps.crosses, own.crosses, sendable) depth 20

pub Batch-field-sync : IsSync (Batch.the_field).row
Batch-field-sync = search (maps.crosses, own.crosses, sendable) depth 20

pub Batch-send : IsSend Batch.the_row
Batch-send = search (Batch-field-send, sendable)

pub Batch-sync : IsSync Batch.the_row
Batch-sync = search (Batch-field-sync, sendable)

pub ruleset batch = (Batch-field-send, Batch-field-sync, Batch-send, Batch-sync)

pub Schedule-field-send : IsSend (Schedule.the_field).row
Schedule-field-send = search (run_play, batch, maps.crosses, own.crosses, sendable) depth 20

pub Schedule-field-sync : IsSync (Schedule.the_field).row
Schedule-field-sync = search (run_play, batch, maps.crosses, own.crosses, sendable) depth 20

pub Schedule-send : IsSend Schedule.the_row
Schedule-send = search (Schedule-field-send, sendable)

pub Schedule-sync : IsSync Schedule.the_row
Schedule-sync = search (Schedule-field-sync, sendable)

pub ruleset schedule = (Schedule-field-send, Schedule-field-sync, Schedule-send, Schedule-sync)

pub ruleset crosses = (move, target, step, play_steps, action, prepared, run_play, batch, schedule)
