use Rattle.pb_walks.proofs.WalksUp.{walks_up}
use Rattle.pb_walks.proofs.walks_go_up.Goals as goal

pub returns : goal.returns
returns c = walks_up
