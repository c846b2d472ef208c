use Rattle.pb_machine.proofs.Arrivals.{arrival_settles}
use Rattle.pb_machine.proofs.Nodes.{node_arrives, end_arrives}
use Rattle.pb_machine.proofs.Machines.{begin_settles, after_settles}
use Rattle.pb_machine.proofs.arrival_settles.Goals as goal

pub returns-clause-arrival : goal.returns-clause-arrival
returns-clause-arrival c = arrival_settles

pub returns-clause-begin : goal.returns-clause-begin
returns-clause-begin c = begin_settles

pub returns-clause-after : goal.returns-clause-after
returns-clause-after c = after_settles

pub returns-clause-node : goal.returns-clause-node
returns-clause-node c = node_arrives

pub returns-clause-end : goal.returns-clause-end
returns-clause-end c = end_arrives
