use Rattle.std.proofs.Common.{◌≡◌, drop}
use Rattle.pb_semantics.specs.Join.{append_cases}
use Rattle.pb_language.specs.Narrow.{answers, cases_with}
use Rattle.pb_kind.specs.KindView.{cases_view}
use Rattle.pb_syntax.specs.ExprView.{status_view}
use Rattle.pb_forms.proofs.teach.cases_answered.Given as goal

abbrev pub invariant-loop-case : goal.invariant-loop-case
invariant-loop-case l =
    let f = answers (status_view l.status) l.answer in
    cases_with f (cases_view l.cases) ≡ append_cases (cases_view l.kept.items) (cases_with f (cases_view (drop l.case-index l.cases)))
