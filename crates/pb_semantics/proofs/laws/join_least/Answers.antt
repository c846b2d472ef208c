use Rattle.pb_semantics.proofs.JoinLeast.{joins_least}
use Rattle.pb_semantics.proofs.laws.join_least.Goals as goal

pub returns : goal.returns
returns c = joins_least
