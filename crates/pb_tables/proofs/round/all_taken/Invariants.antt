use Rattle.std.proofs.Common.{◌≡◌, List, length, take}
use Rattle.std.specs.List.{All}
use Rattle.pb_semantics.specs.Kind.{recs}
use Rattle.pb_semantics.specs.Well.{Well}
use Rattle.pb_language.specs.Program.{Program}
use Rattle.pb_language.specs.Scope.{Later, View}
use Rattle.pb_kind.specs.KindView.{slots_view}
use Rattle.pb_inventory.specs.Inventory.{inventory_view}
use Rattle.pb_tables.specs.Ends.{AreEnds}
use Rattle.pb_tables.specs.Rounds.{AreFound}
use Rattle.pb_tables.proofs.round.all_taken.Given as goal

abbrev pub invariant-loop-host : goal.invariant-loop-host
invariant-loop-host l = record {
  number : length l.found.next.items ≡ l.host;
  well : All (λ m. Well (recs (slots_view m.value.entries))) l.found.next.items;
  all : (ps : Program) (vs : List View) (ls : List (List Later)) → AreEnds (inventory_view l.inventory) ps vs ls l.ends
      → AreFound (inventory_view l.inventory) ps vs ls (take l.host (inventory_view l.inventory).hosts) l.found;
}
