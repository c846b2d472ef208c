use Rattle.std.proofs.Common.{◌≡◌, drop}
use Rattle.pb_semantics.specs.Join.{append_cases, new_cases}
use Rattle.pb_kind.specs.KindView.{cases_view}
use Rattle.pb_kind.proofs.join.add_cases.Given as goal

abbrev pub invariant-loop-other : goal.invariant-loop-other
invariant-loop-other l =
    append_cases (cases_view l.cases) (new_cases (cases_view l.others) (cases_view l.cases))
    ≡ append_cases (cases_view l.all.items) (new_cases (cases_view (drop l.other-index l.others)) (cases_view l.cases))
