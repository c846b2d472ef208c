use Rattle.std.proofs.Common.{◌≡◌, [], drop, length, map}
use Rattle.pb_inventory.specs.Documents.{names_view}
use Rattle.pb_inventory.specs.Families.{IsMarked}
use Rattle.pb_inventory.specs.Inventory.{inventory_view}
use Rattle.pb_inventory.specs.Patterns.{hosts_found, names_at, patterns_words}
use Rattle.pb_inventory.proofs.inventory.Inventory.hosts_of_each.Given as goal

abbrev pub invariant-loop-pattern : goal.invariant-loop-pattern
invariant-loop-pattern l = record {
  left : hosts_found (inventory_view l.self) (names_at (map (λ h. h.name) (inventory_view l.self).hosts) l.places.items) (patterns_words (names_view (drop l.pattern-index l.patterns)))
      ≡ hosts_found (inventory_view l.self) [] (patterns_words (names_view l.patterns));
  count : length l.seen.items ≡ length (inventory_view l.self).hosts;
  marks : IsMarked l.places.items l.seen.items 0;
}
