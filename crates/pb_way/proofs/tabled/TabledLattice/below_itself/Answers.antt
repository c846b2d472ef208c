use Rattle.pb_language.proofs.Walks.{exit_own}
use Rattle.pb_way.proofs.tabled.TabledLattice.below_itself.Goals as goal

pub returns : goal.returns
returns g c = λ k w. exit_own k.exit w
