use Rattle.std.proofs.Common.{◌+◌, ◌*◌, max}
use Rattle.pb_lattice.proofs.tree.+join.Given as goal

abbrev pub decreases-join_trees : goal.decreases-join_trees
decreases-join_trees l = 2 * (l.first + l.second)

abbrev pub decreases-join_halves : goal.decreases-join_halves
decreases-join_halves l = 2 * max (l.left.0 + l.left.1) (l.right.0 + l.right.1) + 1
