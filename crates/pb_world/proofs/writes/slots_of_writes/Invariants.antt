use Rattle.std.proofs.Common.{◌≡◌, ◌<◌, length}
use Rattle.std.specs.List.{All}
use Rattle.std.specs.Vec.Iter.{into_iter_items, into_iter_len}
use Rattle.pb_slots.specs.Words.{names_of_slots}
use Rattle.pb_value.specs.Append.{append_fields}
use Rattle.pb_value.specs.View.{fields_view}
use Rattle.pb_world.specs.Writes.{have_slots, slot_fields}
use Rattle.pb_world.proofs.writes.slots_of_writes.Given as goal

abbrev pub invariant-loop-name : goal.invariant-loop-name
invariant-loop-name l = record {
  counted : length (into_iter_items l.name-iterator) ≡ into_iter_len l.name-iterator;
  found : have_slots (names_of_slots l.slots) (into_iter_items l.name-iterator) ≡ have_slots (names_of_slots l.slots) l.fn.writes.items;
  placed : All (λ w. w.0 < length (names_of_slots l.slots)) l.placed.items;
  named : append_fields (slot_fields (names_of_slots l.slots) l.placed.items) (fields_view (into_iter_items l.name-iterator)) ≡ fields_view l.fn.writes.items;
}
