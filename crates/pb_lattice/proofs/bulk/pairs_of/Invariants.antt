use Rattle.std.proofs.Common.{◌≡◌}
use Rattle.pb_kind.specs.KindView.{slots_view}
use Rattle.pb_lattice.specs.Bulk.{pairs_view}
use Rattle.pb_lattice.specs.Trees.{append_slots}
use Rattle.pb_lattice.proofs.bulk.pairs_of.Given as goal

abbrev pub invariant-loop-name : goal.invariant-loop-name
invariant-loop-name l = append_slots (pairs_view l.pairs.items) (slots_view l.name-iterator) ≡ slots_view l.slots.entries
