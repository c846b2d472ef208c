use Rattle.std.proofs.Common.{[], ◌∷◌, cond, sym, ap, ◌∙◌}
use Rattle.pb_semantics.specs.Join.{append_cases}
use Rattle.pb_semantics.specs.Kind.{no_cases}
use Rattle.pb_kind.specs.KindView.{cases_view}
use Rattle.pb_kind.proofs.JoinLemmas.{append_none}
use Rattle.pb_judgement.proofs.status.add_of_status.Goals as goal

pub returns-else-is_of_status : goal.returns-else-is_of_status
returns-else-is_of_status c =
    let old = cases_view c.args.all.now.items in
    let one = cases_view (c.args.case.now ∷ []) in
    sym (ap (λ q. append_cases old (cond q one no_cases)) (sym c.is_of_status.ensures ∙ c.if-is_of_status.false) ∙ append_none old)
