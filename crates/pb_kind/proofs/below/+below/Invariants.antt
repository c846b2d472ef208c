use Rattle.std.proofs.Common.{◌≡◌, ◌&&◌, drop, string_bytes}
use Rattle.pb_semantics.specs.Below.{names_among, slots_below, all_cases, record_below, is_covered}
use Rattle.pb_kind.specs.KindView.{kind_view, slots_view, cases_view, shape_view}
use Rattle.pb_semantics.proofs.Ascents.{Ascend}
use Rattle.pb_kind.proofs.Adding.{left_view}
use Rattle.pb_kind.proofs.Merging.{Over}
use Rattle.pb_kind.proofs.below.+below.Given as goal

abbrev pub invariant-is_record_above-loop-name : goal.invariant-is_record_above-loop-name
invariant-is_record_above-loop-name l =
    Ascend (left_view l.next l.others)
    × Ascend (slots_view l.name-iterator)
    × (Over (slots_view l.few.entries) (slots_view l.many.entries) ≡ Over (left_view l.next l.others) (slots_view l.name-iterator))

abbrev pub invariant-is_above_cases-loop-case : goal.invariant-is_above_cases-loop-case
invariant-is_above_cases-loop-case l =
    all_cases (λ m sh fl k. record_below (λ ss. names_among ss (slots_view l.many.entries) && slots_below ss (slots_view l.many.entries)) k) (cases_view l.cases)
    ≡ all_cases (λ m sh fl k. record_below (λ ss. names_among ss (slots_view l.many.entries) && slots_below ss (slots_view l.many.entries)) k) (cases_view (drop l.case-index l.cases))

abbrev pub invariant-covers_all-loop-case : goal.invariant-covers_all-loop-case
invariant-covers_all-loop-case l =
    all_cases (λ m sh fl k. is_covered m sh fl k (cases_view l.many)) (cases_view l.few)
    ≡ all_cases (λ m sh fl k. is_covered m sh fl k (cases_view l.many)) (cases_view (drop l.case-index l.few))

abbrev pub invariant-is_covered-loop-other : goal.invariant-is_covered-loop-other
invariant-is_covered-loop-other l =
    is_covered (string_bytes l.case.action.value) (shape_view l.case.shape) l.case.failed (kind_view l.case.fields) (cases_view l.cases)
    ≡ is_covered (string_bytes l.case.action.value) (shape_view l.case.shape) l.case.failed (kind_view l.case.fields) (cases_view (drop l.other-index l.cases))
