use Rattle.std.proofs.Common.{◌≡◌, drop}
use Rattle.pb_kind.specs.KindWeight.{cases_onto}
use Rattle.pb_kind.proofs.kind.cases_weight.Given as goal

abbrev pub invariant-loop-case : goal.invariant-loop-case
invariant-loop-case l = cases_onto l.fn.known l.cases ≡ cases_onto l.total (drop l.case-index l.cases)
