use Rattle.std.proofs.Common.{[], ◌∷◌, sym, ap, ◌∙◌}
use Rattle.pb_semantics.specs.Join.{append_cases}
use Rattle.pb_kind.specs.KindView.{cases_view}
use Rattle.pb_kind.proofs.JoinLemmas.{cases_view-append, case_is_new, case_is_old, append_none}
use Rattle.pb_kind.proofs.join.add_case.Goals as goal

pub returns-in_ok-push : goal.returns-in_ok-push
returns-in_ok-push c =
    let old = c.args.all.now.items in
    let new = case_is_new c.args.other.now (cases_view c.args.cases.now) (sym c.is_covered.ensures ∙ c.if-not-is_covered.true) in
    ap cases_view c.in_ok-push.ensures.items ∙ cases_view-append old (c.in_ok-copy.field-0 ∷ []) ∙ ap (append_cases (cases_view old)) (c.in_ok-copy.ensures ∙ sym new)

pub returns-else-not-is_covered : goal.returns-else-not-is_covered
returns-else-not-is_covered c =
    let old = cases_view c.args.all.now.items in
    sym (ap (append_cases old) (case_is_old c.args.other.now (cases_view c.args.cases.now) (sym c.is_covered.ensures ∙ c.if-not-is_covered.false)) ∙ append_none old)
