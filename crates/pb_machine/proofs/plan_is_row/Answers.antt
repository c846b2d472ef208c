use Rattle.pb_machine.proofs.Trees.{plan_is_row, nodes_are_steps}
use Rattle.pb_machine.proofs.plan_is_row.Goals as goal

pub returns-clause-begin : goal.returns-clause-begin
returns-clause-begin c = plan_is_row

pub returns-clause-nodes : goal.returns-clause-nodes
returns-clause-nodes c = nodes_are_steps
