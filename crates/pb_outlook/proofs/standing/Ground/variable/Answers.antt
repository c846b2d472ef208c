use Rattle.std.proofs.Common.{sym, ◌∙◌}
use Rattle.pb_lattice.specs.Environments.{exit_of}
use Rattle.pb_outlook.specs.Standing.{known_of}
use Rattle.pb_outlook.proofs.Named.{hidden, spot_known, unhidden}
use Rattle.pb_outlook.proofs.standing.Ground.variable.Goals as goal

pub returns-then-hides : goal.returns-then-hides
returns-then-hides g c =
    let s = c.args.self.now in
    c.failure.ensures ∙ hidden c.args.name.now s.depth (known_of (exit_of s.space.now s.at)) (sym c.hides.ensures ∙ c.if-hides.true)

pub returns-else-hides : goal.returns-else-hides
returns-else-hides g c =
    let s = c.args.self.now in
    let n = c.args.name.now in
    let e = exit_of s.space.now s.at in
    c.find.ensures ∙ spot_known n e ∙ unhidden n s.depth (known_of e) (sym c.hides.ensures ∙ c.if-hides.false)
