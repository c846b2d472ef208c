use Rattle.pb_walks.proofs.OneRound.{one_round}
use Rattle.pb_walks.proofs.one_round_is_enough.Goals as goal

pub returns : goal.returns
returns c = one_round
