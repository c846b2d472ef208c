use Rattle.pb_walks.proofs.SameVisits.{values_are_visits}
use Rattle.pb_walks.proofs.values_are_visits.Goals as goal

pub returns : goal.returns
returns c = values_are_visits
