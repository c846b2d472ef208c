use Rattle.std.proofs.Common.{length}
use Rattle.pb_lattice.proofs.bulk.+build.Given as goal

abbrev pub decreases-build : goal.decreases-build
decreases-build l = length l.names.now
