use Rattle.pb_machine.proofs.Machines.{same_enabled, same_step, same_run, same_history, same_next}
use Rattle.pb_machine.proofs.runs_are_same.Goals as goal

pub returns-clause-enabled : goal.returns-clause-enabled
returns-clause-enabled c = same_enabled

pub returns-clause-step : goal.returns-clause-step
returns-clause-step c = same_step

pub returns-clause-run : goal.returns-clause-run
returns-clause-run c = same_run

pub returns-clause-history : goal.returns-clause-history
returns-clause-history c = same_history

pub returns-clause-next : goal.returns-clause-next
returns-clause-next c = same_next
