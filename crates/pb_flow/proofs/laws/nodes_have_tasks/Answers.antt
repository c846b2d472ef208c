use Rattle.pb_flow.proofs.Sizes.{row-tasks}
use Rattle.pb_flow.proofs.laws.nodes_have_tasks.Goals as goal

pub returns : goal.returns
returns c = row-tasks
