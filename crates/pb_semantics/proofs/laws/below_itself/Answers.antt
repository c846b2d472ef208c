use Rattle.pb_semantics.proofs.Order.{own_below}
use Rattle.pb_semantics.proofs.laws.below_itself.Goals as goal

pub returns : goal.returns
returns c = own_below
