use Rattle.pb_run.specs.Recorded.{stop_events}
use Rattle.pb_executor.specs.States.{state_of}
use Rattle.pb_executor.proofs.Turns.{stopped_over}
use Rattle.pb_executor.proofs.drive.give_up.Goals as goal

pub returns-clause-over : goal.returns-clause-over
returns-clause-over c = stopped_over c.args.run.now c.stop.new.self c.stop.ensures

pub returns-clause-book : goal.returns-clause-book
returns-clause-book c = (stop_events (state_of c.args.run.now), c.stop.ensures)
