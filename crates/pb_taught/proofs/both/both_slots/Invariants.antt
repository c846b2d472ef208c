use Rattle.std.proofs.Common.{◌≡◌}
use Rattle.pb_semantics.specs.Kind.{no_slots}
use Rattle.pb_kind.specs.KindView.{slots_view}
use Rattle.pb_taught.proofs.BothTaught.{met_onto}
use Rattle.pb_taught.proofs.both.both_slots.Given as goal

abbrev pub invariant-loop-name : goal.invariant-loop-name
invariant-loop-name l =
    let ts = slots_view l.other.entries in
    met_onto (slots_view l.one.entries) ts no_slots ≡ met_onto (slots_view l.name-iterator) ts (slots_view l.all.entries)
