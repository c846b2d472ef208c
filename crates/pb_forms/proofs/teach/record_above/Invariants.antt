use Rattle.std.proofs.Common.{◌≡◌, drop}
use Rattle.pb_language.specs.Narrow.{least_record}
use Rattle.pb_kind.specs.Growing.{joined_onto}
use Rattle.pb_kind.specs.KindView.{cases_view}
use Rattle.pb_forms.proofs.teach.record_above.Given as goal

abbrev pub invariant-loop-case : goal.invariant-loop-case
invariant-loop-case l = least_record (cases_view l.cases) ≡ joined_onto l.records.items (least_record (cases_view (drop l.case-index l.cases)))
