use Rattle.pb_language.proofs.Walks.{exit_through}
use Rattle.pb_way.proofs.tabled.TabledLattice.below_through.Goals as goal

pub returns : goal.returns
returns g c = λ k l m w v u x y. exit_through k.exit l.exit m.exit w v u x y
