use Rattle.pb_lattice.proofs.tree.+mark_lost.Given as goal

abbrev pub decreases-mark_lost : goal.decreases-mark_lost
decreases-mark_lost l = l.before
