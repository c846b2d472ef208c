use Rattle.std.proofs.Common.{◌≡◌, drop}
use Rattle.pb_semantics.specs.Fit.{any_slot_holds, any_case_holds}
use Rattle.pb_kind.specs.KindView.{slots_view, cases_view}
use Rattle.pb_forms.proofs.kinds.+holds_any.Given as goal

abbrev pub invariant-slots_hold_any-loop-slot : goal.invariant-slots_hold_any-loop-slot
invariant-slots_hold_any-loop-slot l = any_slot_holds (slots_view l.slots.entries) ≡ any_slot_holds (slots_view l.slot-iterator)

abbrev pub invariant-cases_hold_any-loop-case : goal.invariant-cases_hold_any-loop-case
invariant-cases_hold_any-loop-case l = any_case_holds (cases_view l.cases) ≡ any_case_holds (cases_view (drop l.case-index l.cases))
