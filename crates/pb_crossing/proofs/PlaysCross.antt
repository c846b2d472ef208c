-- Plays may go to another thread, and be shared with one.
use denote.Param.Send.{IsSend, IsSync, sendable}
use Rattle.std.proofs.Crossing as own
use Rattle.pb_play.specs.contracts.play.BlockHead as BlockHead
use Rattle.pb_play.specs.contracts.play.Step as Step
use Rattle.pb_play.proofs.play.Step.TheLaws.TheKnot as step-knot
use Rattle.pb_play.specs.contracts.play.Handler as Handler
use Rattle.pb_play.specs.contracts.play.Play as Play
use Rattle.pb_crossing.proofs.ExpressionsCross as expressions
use Rattle.pb_crossing.proofs.EntriesCross as entries
use Rattle.pb_crossing.proofs.TasksCross as tasks

pub BlockHead-field-send : IsSend (BlockHead.the_field).row
BlockHead-field-send = search (expressions.crosses, entries.crosses, tasks.crosses, own.crosses, sendable) depth 20

pub BlockHead-field-sync : IsSync (BlockHead.the_field).row
BlockHead-field-sync = search (expressions.crosses, entries.crosses, tasks.crosses, own.crosses, sendable) depth 20

pub BlockHead-send : IsSend BlockHead.the_row
BlockHead-send = search (BlockHead-field-send, sendable)

pub BlockHead-sync : IsSync BlockHead.the_row
BlockHead-sync = search (BlockHead-field-sync, sendable)

pub ruleset block_head = (BlockHead-field-send, BlockHead-field-sync, BlockHead-send, BlockHead-sync)

pub Step-field-send : IsSend (Step.the_field).row
Step-field-send = search (block_head, expressions.crosses, entries.crosses, tasks.crosses, own.crosses, step-knot.crosses, sendable) depth 60 fits 20000

pub Step-field-sync : IsSync (Step.the_field).row
Step-field-sync = search (block_head, expressions.crosses, entries.crosses, tasks.crosses, own.crosses, step-knot.crosses, sendable) depth 60 fits 20000

pub Step-send : IsSend Step.the_row
Step-send = search (Step-field-send, sendable)

pub Step-sync : IsSync Step.the_row
Step-sync = search (Step-field-sync, sendable)

pub ruleset step = (Step-field-send, Step-field-sync, Step-send, Step-sync)

pub Handler-field-send : IsSend (Handler.the_field).row
Handler-field-send = search (expressions.crosses, entries.crosses, tasks.crosses, own.crosses, sendable) depth 20

pub Handler-field-sync : IsSync (Handler.the_field).row
Handler-field-sync = search (expressions.crosses, entries.crosses, tasks.crosses, own.crosses, sendable) depth 20

pub Handler-send : IsSend Handler.the_row
Handler-send = search (Handler-field-send, sendable)

pub Handler-sync : IsSync Handler.the_row
Handler-sync = search (Handler-field-sync, sendable)

pub ruleset handler = (Handler-field-send, Handler-field-sync, Handler-send, Handler-sync)

pub Play-field-send : IsSend (Play.the_field).row
Play-field-send = search (step, handler, expressions.crosses, entries.crosses, tasks.crosses, own.crosses, sendable) depth 20

pub Play-field-sync : IsSync (Play.the_field).row
Play-field-sync = search (step, handler, expressions.crosses, entries.crosses, tasks.crosses, own.crosses, sendable) depth 20

pub Play-send : IsSend Play.the_row
Play-send = search (Play-field-send, sendable)

pub Play-sync : IsSync Play.the_row
Play-sync = search (Play-field-sync, sendable)

pub ruleset play = (Play-field-send, Play-field-sync, Play-send, Play-sync)

pub ruleset crosses = (block_head, step, handler, play)
