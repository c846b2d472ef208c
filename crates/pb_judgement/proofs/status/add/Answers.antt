use Rattle.std.proofs.Common.{[], ◌∷◌, ap, ◌∙◌}
use Rattle.pb_semantics.specs.Join.{append_cases}
use Rattle.pb_kind.specs.KindView.{cases_view}
use Rattle.pb_kind.proofs.JoinLemmas.{cases_view-append}
use Rattle.pb_judgement.proofs.status.add.Goals as goal

pub returns : goal.returns
returns c =
    let old = c.args.all.now.items in
    ap cases_view c.in_ok-push.ensures.items ∙ cases_view-append old (c.in_ok-case.case ∷ []) ∙ ap (append_cases (cases_view old)) c.in_ok-case.ensures
