use Rattle.std.proofs.Common.{◌≡◌, ◌↔◌, IsTrue, sym, subst}
use Rattle.pb_language.specs.Ordered.{ExitLe}
use Rattle.pb_lattice.specs.Arena.{names_of}
use Rattle.pb_lattice.specs.Shared.{Shared}
use Rattle.pb_lattice.specs.Environments.{Stands, exit_of}
use Rattle.pb_lattice.proofs.Exits.{below_exits}
use Rattle.pb_lattice.proofs.environment.is_below.Goals as goal

pub returns-in-Some-Some : goal.returns-in-Some-Some
returns-in-Some-Some c =
    let s : Shared = record { names = names_of c.space.inside.names.items; nodes = c.space.inside.nodes } in
    let e = c.args.first in
    let f = c.args.second in
    let same : s ≡ c.args.space.now = c.space.view_is in
    let first : Stands s e = subst (λ (u : Shared). Stands u e) (sym same) c.requires.first in
    let second : Stands s f = subst (λ (u : Shared). Stands u f) (sym same) c.requires.second in
    subst (λ (u : Shared). IsTrue c.is_below.result ↔ ExitLe (exit_of u e) (exit_of u f)) same
    (below_exits s e f c.in-Some-Some.low c.in-Some-Some.high c.in-Some-Some.is-0 c.in-Some-Some.is-1 first second c.is_below.result c.is_below.ensures)
