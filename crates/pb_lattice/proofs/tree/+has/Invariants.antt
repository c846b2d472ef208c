use Rattle.std.proofs.Common.{length}
use Rattle.pb_lattice.proofs.tree.+has.Given as goal

abbrev pub decreases-has : goal.decreases-has
decreases-has l = length l.names.now
