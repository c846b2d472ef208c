use Rattle.pb_flow.proofs.SameEdges.{same-graph}
use Rattle.pb_flow.proofs.laws.edges_are_those_of_the_row.Goals as goal

pub returns : goal.returns
returns c = same-graph
