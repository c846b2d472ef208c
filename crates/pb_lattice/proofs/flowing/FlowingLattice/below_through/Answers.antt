use Rattle.pb_language.proofs.Walks.{exit_through}
use Rattle.pb_lattice.proofs.flowing.FlowingLattice.below_through.Goals as goal

pub returns : goal.returns
returns g c = λ e f h w v u x y. exit_through e f h w v u x y
