use Rattle.std.proofs.Common.{◌≡◌, drop}
use Rattle.pb_language.specs.Narrow.{least_record}
use Rattle.pb_kind.specs.KindView.{cases_view, kind_view}
use Rattle.pb_judgement.proofs.ends.least_record.Given as goal

abbrev pub invariant-loop-index : goal.invariant-loop-index
invariant-loop-index l = kind_view l.known ≡ least_record (cases_view (drop l.index l.cases))
