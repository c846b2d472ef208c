use Rattle.pb_others.proofs.LastRound.{read_round}
use Rattle.pb_others.proofs.read_round_is_last.Goals as goal

pub returns : goal.returns
returns c = read_round
