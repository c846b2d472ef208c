use Rattle.std.proofs.Common.{map}
use Rattle.pb_play.specs.Plays.{handler_view}
use Rattle.pb_play.proofs.Handlers.{among-met}
use Rattle.pb_play.proofs.handler.is_taken.Goals as goal

pub loop-handler-init : goal.loop-handler-init
loop-handler-init c = among-met c.args.name.now (map handler_view c.args.handlers.now)
