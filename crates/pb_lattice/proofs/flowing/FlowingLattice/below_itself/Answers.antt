use Rattle.pb_language.proofs.Walks.{exit_own}
use Rattle.pb_lattice.proofs.flowing.FlowingLattice.below_itself.Goals as goal

pub returns : goal.returns
returns g c = λ e w. exit_own e w
