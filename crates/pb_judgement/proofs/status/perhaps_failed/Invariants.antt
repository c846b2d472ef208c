use Rattle.std.proofs.Common.{◌≡◌, drop}
use Rattle.pb_semantics.specs.Join.{append_cases}
use Rattle.pb_language.specs.Cases.{perhaps_failed}
use Rattle.pb_kind.specs.KindView.{cases_view}
use Rattle.pb_judgement.proofs.status.perhaps_failed.Given as goal

abbrev pub invariant-loop-case : goal.invariant-loop-case
invariant-loop-case l = perhaps_failed (cases_view l.cases) ≡ append_cases (cases_view l.all.items) (perhaps_failed (cases_view (drop l.case-index l.cases)))
