use Rattle.pb_lattice.proofs.Staged.{Begun}
use Rattle.pb_lattice.proofs.solution.start.Given as goal

abbrev pub invariant-loop : goal.invariant-loop
invariant-loop g l = Begun g.L.Lattice.stands g.L.Lattice.meaning g.L.Lattice.well g.L.Lattice.below l.fn.space l.fn.entry l.counter l.values.items
