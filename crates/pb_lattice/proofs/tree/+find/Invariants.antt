use Rattle.pb_lattice.proofs.tree.+find.Given as goal

abbrev pub decreases-find : goal.decreases-find
decreases-find l = l.place
