use Rattle.std.proofs.Common.{◌≡◌, ◌∙◌, ◌||◌, ap, sym, false}
use Rattle.pb_semantics.specs.Keeps.{is_among}
use Rattle.pb_language.specs.Rules.{reserved_names}
use Rattle.pb_rules.specs.Names.{names_in}
use Rattle.pb_rules.proofs.NameSets.{set-finds}
use Rattle.pb_rules.proofs.Told.{among-both}
use Rattle.pb_rules.proofs.names.is_taken.Goals as goal

pub returns-else-is_reserved : goal.returns-else-is_reserved
returns-else-is_reserved c =
    let n = c.args.name.now in
    let given = c.args.given.now in
    let free : is_among n reserved_names ≡ false = sym c.is_reserved.ensures ∙ c.if-is_reserved.false in
    c.contains.ensures ∙ set-finds n given.keys ∙ ap (λ b. b || is_among n (names_in given)) (sym free) ∙ sym (among-both n reserved_names (names_in given))
