use Rattle.std.proofs.Common.{option_map, sym, ap, ◌∙◌}
use Rattle.pb_language.specs.Expansion.{expanded, trees}
use Rattle.pb_vars.specs.InScope.{in_scope}
use Rattle.pb_vars.proofs.Scopes.{whole-trees}
use Rattle.pb_outlook.proofs.Named.{mapped_twice}
use Rattle.pb_outlook.proofs.standing.StandingKnown.tree.Goals as goal

pub returns-clause-whole : goal.returns-clause-whole
returns-clause-whole g c =
    let v = c.args.self.now.ground.now.vars.now in
    let ps = in_scope v in
    whole-trees ps c.args.self.now.ground.now.short c.args.name.now ∙ ap (option_map (expanded (trees ps))) (sym c.find.ensures.given) ∙ mapped_twice (expanded (trees ps)) c.find.result
