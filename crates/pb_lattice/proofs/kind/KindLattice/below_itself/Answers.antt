use Rattle.pb_semantics.proofs.Order.{own_below}
use Rattle.pb_lattice.proofs.kind.KindLattice.below_itself.Goals as goal

pub returns : goal.returns
returns c = λ k w. own_below k w
