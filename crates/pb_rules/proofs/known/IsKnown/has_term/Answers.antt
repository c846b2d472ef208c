use Rattle.std.proofs.Common.{◌∙◌, ap, sym}
use Rattle.pb_language.specs.Plays.{is_host}
use Rattle.pb_language.specs.Rules.{is_known_term}
use Rattle.pb_syntax.specs.ExprView.{term_view}
use Rattle.pb_inventory.specs.Inventory.{inventory_view}
use Rattle.pb_rules.proofs.NameSets.{set-finds}
use Rattle.pb_rules.proofs.known.IsKnown.has_term.Goals as goal

pub returns-in-Named : goal.returns-in-Named
returns-in-Named c =
    let k = c.args.self.now in
    let v = inventory_view k.inventory.now in
    let n = c.as_str.result.now in
    c.contains.ensures ∙ set-finds n k.hosts.keys ∙ k.all n ∙ ap (λ m. is_host m v.hosts) c.as_str.ensures.value ∙ ap (λ t. is_known_term v (term_view t)) (sym c.in-Named.is)
