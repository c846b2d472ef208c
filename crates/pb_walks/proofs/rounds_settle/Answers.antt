use Rattle.pb_walks.proofs.Settles.{rounds_settle}
use Rattle.pb_walks.proofs.rounds_settle.Goals as goal

pub returns : goal.returns
returns c = rounds_settle
