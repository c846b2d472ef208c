use Rattle.std.proofs.Common.{◌≡◌, ◌+◌, ◌*◌, ◌∷◌, drop, length, string_bytes}
use Rattle.pb_semantics.specs.Join.{append_cases}
use Rattle.pb_language.specs.Narrow.{can_have, cases_stepped, defined_at, with_step}
use Rattle.pb_kind.specs.KindView.{cases_view}
use Rattle.pb_syntax.specs.ExprView.{names_of}
use Rattle.pb_forms.proofs.defined.+defined_at.Given as goal

abbrev pub decreases-defined_at : goal.decreases-defined_at
decreases-defined_at l = 4 * length l.steps.now

abbrev pub decreases-kind_there : goal.decreases-kind_there
decreases-kind_there l = 4 * length l.steps.now + 1

abbrev pub decreases-defined_below : goal.decreases-defined_below
decreases-defined_below l = 4 * length l.steps.now + 2

abbrev pub decreases-cases_defined : goal.decreases-cases_defined
decreases-cases_defined l = 4 * length l.steps.now + 3

abbrev pub invariant-cases_defined-loop-case : goal.invariant-cases_defined-loop-case
invariant-cases_defined-loop-case l =
    let p = can_have (string_bytes l.name ∷ names_of l.steps) in
    let f = with_step (string_bytes l.name) (defined_at (names_of l.steps)) in
    cases_stepped p f (cases_view l.cases) ≡ append_cases (cases_view l.kept.items) (cases_stepped p f (cases_view (drop l.case-index l.cases)))
