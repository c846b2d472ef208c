use Rattle.std.proofs.Common.{◌≡◌, cond, drop, not}
use Rattle.pb_semantics.specs.Join.{append_cases}
use Rattle.pb_language.specs.Narrow.{cases_with}
use Rattle.pb_kind.specs.KindView.{cases_view}
use Rattle.pb_judgement.proofs.status.cases_of_status.Given as goal

abbrev pub invariant-loop-case : goal.invariant-loop-case
invariant-loop-case l =
    cases_with (λ sh fl k. cond l.failed fl (not fl)) (cases_view l.cases)
    ≡ append_cases (cases_view l.all.items) (cases_with (λ sh fl k. cond l.failed fl (not fl)) (cases_view (drop l.case-index l.cases)))
