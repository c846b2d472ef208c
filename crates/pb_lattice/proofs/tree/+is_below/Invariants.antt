use Rattle.std.proofs.Common.{◌+◌}
use Rattle.pb_lattice.proofs.tree.+is_below.Given as goal

abbrev pub decreases-is_below : goal.decreases-is_below
decreases-is_below l = l.first + l.second
