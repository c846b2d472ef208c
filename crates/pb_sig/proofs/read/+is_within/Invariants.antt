use Rattle.std.proofs.Common.{◌≡◌}
use Rattle.pb_kind.specs.KindView.{slots_view}
use Rattle.pb_sig.specs.Signatures.{are_within}
use Rattle.pb_sig.proofs.read.+is_within.Given as goal

abbrev pub invariant-are_within-loop-slot : goal.invariant-are_within-loop-slot
invariant-are_within-loop-slot l = are_within l.levels (slots_view l.slots.entries) ≡ are_within l.levels (slots_view l.slot-iterator)
