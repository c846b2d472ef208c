use Rattle.pb_semantics.proofs.Through.{through}
use Rattle.pb_semantics.proofs.laws.below_through.Goals as goal

pub returns : goal.returns
returns c = through
