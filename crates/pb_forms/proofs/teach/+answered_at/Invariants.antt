use Rattle.std.proofs.Common.{◌≡◌, ◌+◌, ◌*◌, drop, length, string_bytes}
use Rattle.pb_semantics.specs.Join.{append_cases}
use Rattle.pb_language.specs.Narrow.{answers, cases_changed, cases_with, changed_at, on_results, with_change}
use Rattle.pb_kind.specs.KindView.{cases_view}
use Rattle.pb_syntax.specs.ExprView.{names_of, status_view}
use Rattle.pb_forms.proofs.teach.+answered_at.Given as goal

abbrev pub decreases-answered_at : goal.decreases-answered_at
decreases-answered_at l = 3 * length l.steps.now

abbrev pub decreases-answered_below : goal.decreases-answered_below
decreases-answered_below l = 3 * length l.steps.now + 1

abbrev pub decreases-cases_answered_below : goal.decreases-cases_answered_below
decreases-cases_answered_below l = 3 * length l.steps.now + 2

abbrev pub invariant-cases_answered_below-loop-case : goal.invariant-cases_answered_below-loop-case
invariant-cases_answered_below-loop-case l =
    let f = with_change (string_bytes l.name) (changed_at (names_of l.steps) (on_results (cases_with (answers (status_view l.status) l.answer)))) in
    cases_changed f (cases_view l.cases) ≡ append_cases (cases_view l.all.items) (cases_changed f (cases_view (drop l.case-index l.cases)))
