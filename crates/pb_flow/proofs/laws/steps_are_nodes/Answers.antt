use Rattle.pb_flow.proofs.Sizes.{play-nodes}
use Rattle.pb_flow.proofs.laws.steps_are_nodes.Goals as goal

pub returns : goal.returns
returns c = play-nodes
