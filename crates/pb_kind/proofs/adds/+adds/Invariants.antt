use Rattle.pb_kind.specs.KindView.{slots_view}
use Rattle.pb_semantics.proofs.Ascents.{Ascend}
use Rattle.pb_kind.proofs.Adding.{Adds, left_view}
use Rattle.pb_kind.proofs.adds.+adds.Given as goal

abbrev pub invariant-adds_no_slots-loop-name : goal.invariant-adds_no_slots-loop-name
invariant-adds_no_slots-loop-name l =
    Ascend (slots_view l.name-iterator)
    × (Adds l.leads (left_view l.next l.others) (slots_view l.name-iterator)
    → Adds l.leads (slots_view l.slots.entries) (slots_view l.joined.entries))
