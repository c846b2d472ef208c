use Rattle.std.proofs.Common.{◌≡◌, length, subst}
use Rattle.pb_lattice.specs.Arena.{names_of}
use Rattle.pb_lattice.specs.Environments.{Stands, exit_of}
use Rattle.pb_lattice.specs.Lost.{lost_marks}
use Rattle.pb_lattice.specs.Shared.{Shared}
use Rattle.pb_lattice.proofs.LostThere.{all_lost, lost_there, none_there}
use Rattle.pb_lattice.proofs.environment.Environments.mark_lost.Goals as goal

pub returns-in_default : goal.returns-in_default
returns-in_default c = none_there c.args.self.now c.args.before (exit_of c.args.self.now c.args.after) c.args.mark c.args.marks.now c.in_default.is-0 c.requires.beside

pub returns-in-Some-Some : goal.returns-in-Some-Some
returns-in-Some-Some c =
    let e = c.args.before in
    let f = c.args.after in
    let ks = c.args.marks.now in
    let new = c.mark_lost.new.marks in
    let view : Shared = record { names = names_of c.self.inside.names.items; nodes = c.self.inside.nodes } in
    subst (λ (s : Shared). Stands s e → Stands s f → length ks ≡ length s.names → new ≡ lost_marks c.args.mark (exit_of s e) (exit_of s f) s.names ks) c.self.view_is
    (λ a b h. lost_there view e f c.in-Some-Some.low c.in-Some-Some.high c.args.mark ks new c.in-Some-Some.is-0 c.in-Some-Some.is-1 a b h c.mark_lost.ensures) c.requires.before c.requires.after c.requires.beside

pub returns-in-Some-None : goal.returns-in-Some-None
returns-in-Some-None c =
    let e = c.args.before in
    let f = c.args.after in
    let ks = c.args.marks.now in
    let new = c.mark_lost-in-Some-None.new.marks in
    let view : Shared = record { names = names_of c.self.inside.names.items; nodes = c.self.inside.nodes } in
    subst (λ (s : Shared). Stands s e → length ks ≡ length s.names → new ≡ lost_marks c.args.mark (exit_of s e) (exit_of s f) s.names ks) c.self.view_is
    (λ a h. all_lost view e f c.in-Some-None.low c.bare.result c.args.mark ks new c.in-Some-None.is-0 c.in-Some-None.is-1 c.bare.ensures.means a h c.mark_lost-in-Some-None.ensures) c.requires.before c.requires.beside
