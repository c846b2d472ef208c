use Rattle.pb_lattice.proofs.Staged.{Stage}
use Rattle.pb_lattice.proofs.solution.solve.Given as goal

abbrev pub invariant-loop-i : goal.invariant-loop-i
invariant-loop-i g l = Stage g.L.Lattice.stands g.L.Lattice.meaning g.L.Lattice.well g.L.Lattice.below (λ e. g.L.Lattice.carried (g.T.Transfer.step l.fn.transfer e)) l.fn.graph l.fn.space l.fn.entry l.i l.space l.values.items
