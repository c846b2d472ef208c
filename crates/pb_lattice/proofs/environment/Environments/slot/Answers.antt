use Rattle.pb_lattice.proofs.Exits.{stands_over}
use Rattle.pb_lattice.proofs.environment.Environments.slot.Goals as goal

pub find-requires : goal.find-requires
find-requires c = stands_over c.args.self.now c.args.at c.requires
