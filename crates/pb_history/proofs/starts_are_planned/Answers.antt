use Rattle.pb_history.proofs.Starts.{next_may_start, starts_are_planned}
use Rattle.pb_history.proofs.starts_are_planned.Goals as goal

pub returns-clause-next : goal.returns-clause-next
returns-clause-next c = next_may_start

pub returns-clause-planned : goal.returns-clause-planned
returns-clause-planned c = starts_are_planned
