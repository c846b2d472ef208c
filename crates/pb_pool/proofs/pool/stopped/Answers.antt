use Rattle.pb_executor.proofs.Turns.{stopped_over}
use Rattle.pb_pool.proofs.pool.stopped.Goals as goal

pub returns-clause-over : goal.returns-clause-over
returns-clause-over c = stopped_over c.args.left c.stop.new.self c.stop.ensures
