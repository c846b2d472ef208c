use Rattle.std.proofs.Common.{◌≡◌, ◌+◌, ◌-◌, ◌≤◌, [], length, map}
use Rattle.std.specs.Str.{IsCharBoundary}
use Rattle.pb_language.specs.BookForm.{words_from}
use Rattle.pb_inventory.specs.Families.{IsMarked}
use Rattle.pb_inventory.specs.Inventory.{inventory_view}
use Rattle.pb_inventory.specs.Patterns.{hosts_found, names_at, words_left}
use Rattle.pb_inventory.proofs.pattern.add_words.Given as goal

abbrev pub invariant-loop-from : goal.invariant-loop-from
invariant-loop-from l = record {
  begins : l.from ≤ length l.text → IsCharBoundary l.text l.from;
  left : hosts_found (inventory_view l.inventory) (names_at (map (λ h. h.name) (inventory_view l.inventory).hosts) l.places.items) (words_left l.from l.text)
      ≡ hosts_found (inventory_view l.inventory) (names_at (map (λ h. h.name) (inventory_view l.inventory).hosts) l.fn.places.items) (words_from [] l.text);
  marks : IsMarked l.places.items l.seen 0;
}

abbrev pub decreases-loop-from : goal.decreases-loop-from
decreases-loop-from l = length l.text + 1 - l.from
