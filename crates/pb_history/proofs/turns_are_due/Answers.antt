use Rattle.pb_history.proofs.Turns.{turns_are_due}
use Rattle.pb_history.proofs.turns_are_due.Goals as goal

pub returns : goal.returns
returns c = turns_are_due
