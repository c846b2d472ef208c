use Rattle.pb_lattice.proofs.Exits.{stands_well}
use Rattle.pb_way.proofs.tabled.TabledLattice.stands_well.Goals as goal

pub returns : goal.returns
returns g c = λ s e h. stands_well s e.at h
