use Rattle.std.proofs.Common.{string_bytes, true, false, ap, ◌∙◌}
use Rattle.pb_semantics.specs.Join.{append_cases}
use Rattle.pb_semantics.specs.Kind.{no_cases, one}
use Rattle.pb_kind.specs.KindView.{cases_view, kind_view, shape_view}
use Rattle.pb_kind.proofs.JoinLemmas.{append_through}
use Rattle.pb_judgement.proofs.status.add_either.Goals as goal

pub returns : goal.returns
returns c =
    let case = c.args.case.now in
    let same = one (string_bytes case.action.value) (shape_view case.shape) false (kind_view case.fields) no_cases in
    let failed = one (string_bytes case.action.value) (shape_view case.shape) true (kind_view case.fields) no_cases in
    c.in_ok-add-2.ensures ∙ ap (λ cs. append_cases cs failed) c.in_ok-add.ensures ∙ append_through (cases_view c.args.all.now.items) same failed
