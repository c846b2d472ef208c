use Rattle.pb_language.proofs.Walks.{least_play}
use Rattle.pb_language.proofs.order.walk_is_least.Goals as goal

pub returns : goal.returns
returns c = least_play
