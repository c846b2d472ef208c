use Rattle.std.proofs.Common.{◌≡◌}
use Rattle.pb_kind.specs.KindView.{slots_view}
use Rattle.pb_kind.proofs.same.+same.Given as goal

abbrev pub invariant-are_same_slots-loop-name : goal.invariant-are_same_slots-loop-name
invariant-are_same_slots-loop-name l =
    slots_view l.name-iterator ≡ slots_view l.left → slots_view l.slots.entries ≡ slots_view l.others.entries
