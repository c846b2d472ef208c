use Rattle.std.proofs.Common.{◌≡◌, true, sym, subst}
use Rattle.pb_lattice.specs.Environments.{Stands, exit_of, is_dead}
use Rattle.pb_lattice.specs.declared.environment.Environment.{Environment}
use Rattle.pb_lattice.proofs.Exits.{dead_lowest}
use Rattle.pb_way.proofs.tabled.TabledLattice.bottom.Goals as goal

pub returns-clause-stands : goal.returns-clause-stands
returns-clause-stands g c = subst (λ (e : Environment). Stands c.args._space.now e) (sym c.of.ensures) (c.dead.ensures c.args._space.now).0

pub returns-clause-lowest : goal.returns-clause-lowest
returns-clause-lowest g c = λ k _.
    let none = subst (λ (e : Environment). is_dead (exit_of c.args._space.now e) ≡ true) (sym c.of.ensures) (c.dead.ensures c.args._space.now).1 in
    dead_lowest (exit_of c.args._space.now c.of.result.at) k.exit none
