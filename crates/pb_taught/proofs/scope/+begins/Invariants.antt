use Rattle.std.proofs.Common.{length}
use Rattle.pb_taught.proofs.scope.+begins.Given as goal

abbrev pub decreases-begins : goal.decreases-begins
decreases-begins l = length l.few.now
