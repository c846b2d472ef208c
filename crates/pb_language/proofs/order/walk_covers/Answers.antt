use Rattle.pb_language.proofs.Walks.{covers_play}
use Rattle.pb_language.proofs.order.walk_covers.Goals as goal

pub returns : goal.returns
returns c = covers_play
