use Rattle.pb_route.proofs.NodesVisits.{row-visits}
use Rattle.pb_route.proofs.laws.nodes_are_visits.Goals as goal

pub returns : goal.returns
returns c = λ st row val n. row-visits st val row n
