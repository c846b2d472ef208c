use Rattle.std.proofs.Common.{length}
use Rattle.pb_lattice.proofs.tree.+put.Given as goal

abbrev pub decreases-put : goal.decreases-put
decreases-put l = length l.names.now
