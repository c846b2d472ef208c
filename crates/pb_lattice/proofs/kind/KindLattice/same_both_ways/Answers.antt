use Rattle.pb_semantics.proofs.KeepsUp.{same_values}
use Rattle.pb_lattice.proofs.kind.KindLattice.same_both_ways.Goals as goal

pub returns : goal.returns
returns c = λ k m _ _ h i. same_values k m h i
