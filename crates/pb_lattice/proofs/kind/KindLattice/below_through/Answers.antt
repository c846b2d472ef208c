use Rattle.pb_semantics.proofs.Through.{through}
use Rattle.pb_lattice.proofs.kind.KindLattice.below_through.Goals as goal

pub returns : goal.returns
returns c = λ j k m w _ _ h i. through j k m w h i
