use Rattle.pb_language.proofs.Walks.{walk_visits}
use Rattle.pb_language.proofs.order.walk_visits.Goals as goal

pub returns : goal.returns
returns c = walk_visits
