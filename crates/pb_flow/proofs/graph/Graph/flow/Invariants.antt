use Rattle.pb_flow.proofs.Linked.{Linked}
use Rattle.pb_flow.proofs.graph.Graph.flow.Given as goal

abbrev pub invariant-loop-index : goal.invariant-loop-index
invariant-loop-index l = Linked l.self.begin l.self.tasks.items l.index l.flow.graph l.flow.ways.items
