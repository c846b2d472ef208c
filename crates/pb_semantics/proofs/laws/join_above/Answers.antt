use Rattle.pb_semantics.proofs.JoinAbove.{joins_above}
use Rattle.pb_semantics.proofs.laws.join_above.Goals as goal

pub returns : goal.returns
returns c = joins_above
