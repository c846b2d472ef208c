use Rattle.std.proofs.Common.{◌≡◌, length, nat_eq, arith, sym, ap, ◌∙◌}
use Rattle.pb_kind.specs.KindView.{kind_view}
use Rattle.pb_judgement.proofs.CaseSteps.{some_kind}
use Rattle.pb_judgement.proofs.ends.case_kind.Goals as goal

pub returns-in_ok-kind : goal.returns-in_ok-kind
returns-in_ok-kind c =
    let len : length c.args.cases.items ≡ c.args.cases.len = omega arith in
    some_kind c.args.cases.items (kind_view c.in_ok-kind.kind) (ap (λ n. nat_eq n 0) len ∙ sym c.is_empty.ensures ∙ c.if-is_empty.false) c.in_ok-kind.ensures
