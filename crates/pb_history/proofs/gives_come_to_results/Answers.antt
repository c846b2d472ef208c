use Rattle.pb_history.proofs.Starts.{gives_come_to, gives_notify}
use Rattle.pb_history.proofs.gives_come_to_results.Goals as goal

pub returns-clause-results : goal.returns-clause-results
returns-clause-results c = gives_come_to

pub returns-clause-handlers : goal.returns-clause-handlers
returns-clause-handlers c = gives_notify
