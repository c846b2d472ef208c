use Rattle.std.proofs.Common.{ap, ap₂, ◌∙◌}
use Rattle.std.proofs.lemmas.Result.{IfOk-weaker}
use Rattle.pb_semantics.specs.Join.{append_cases, join}
use Rattle.pb_semantics.specs.Kind.{results}
use Rattle.pb_kind.specs.KindView.{cases_view, kind_view}
use Rattle.pb_sig.proofs.results.perhaps_skipped_kind.Goals as goal

pub returns : goal.returns
returns c =
    let cases = ap cases_view c.in_ok-cases.ensures.items ∙ ap₂ append_cases c.in_ok-skipped.ensures.case c.in_ok-ran.ensures.case in
    let known = c.in_ok-known.ensures ∙ ap (λ k. join k (kind_view c.args.ended.now)) c.in_ok-skipped.ensures.fields in
    IfOk-weaker c.of_cases.result _ _ (λ k h. h ∙ ap₂ results cases known) c.of_cases.ensures
