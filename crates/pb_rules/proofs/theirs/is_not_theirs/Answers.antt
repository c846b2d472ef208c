use Rattle.std.proofs.Common.{◌∙◌, ap, not, sym}
use Rattle.pb_semantics.specs.Keeps.{is_among}
use Rattle.pb_others.specs.Others.{is_theirs}
use Rattle.pb_syntax.specs.ExprView.{root_view}
use Rattle.pb_rules.specs.Names.{names_in}
use Rattle.pb_rules.proofs.NameSets.{set-finds}
use Rattle.pb_rules.proofs.theirs.is_not_theirs.Goals as goal

pub returns-in-Other : goal.returns-in-Other
returns-in-Other c =
    let ns = names_in c.args.names.now in
    let n = c.as_str.result.now in
    ap not (c.contains.ensures ∙ set-finds n c.args.names.now.keys ∙ ap (λ m. is_among m ns) c.as_str.ensures.value ∙ ap (λ r. is_theirs ns (root_view r)) (sym c.in-Other.is))
