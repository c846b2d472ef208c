use Rattle.std.proofs.Common.{◌≡◌, ◌<◌, length}
use Rattle.std.specs.List.{All}
use Rattle.std.specs.Vec.Iter.{into_iter_items, into_iter_len}
use Rattle.pb_world.specs.Writes.{with_values}
use Rattle.pb_world.proofs.writes.write_all.Given as goal

abbrev pub invariant-loop-slot : goal.invariant-loop-slot
invariant-loop-slot l = record {
  counted : length (into_iter_items l.slot-iterator) ≡ into_iter_len l.slot-iterator;
  written : with_values l.facts l.host (into_iter_items l.slot-iterator) ≡ with_values l.fn.facts l.host l.fn.writes.items;
  placed : All (λ w. w.0 < l.facts.slots) (into_iter_items l.slot-iterator);
  hosts : l.facts.hosts ≡ l.fn.facts.hosts;
  slots : l.facts.slots ≡ l.fn.facts.slots;
}
