use Rattle.std.proofs.Common.{◌≡◌, length, take}
use Rattle.std.specs.List.{All}
use Rattle.pb_language.specs.Program.{Program}
use Rattle.pb_lattice.specs.Arena.{names_of}
use Rattle.pb_inventory.specs.Inventory.{inventory_view}
use Rattle.pb_tables.specs.Listed.{lasting_lists}
use Rattle.pb_tables.specs.Scenes.{AreScenes}
use Rattle.pb_tables.specs.Tabled.{AreBeside}
use Rattle.pb_tables.proofs.Lasted.{AreLasting}
use Rattle.pb_tables.proofs.laters.laters_of.Given as goal

abbrev pub invariant-loop-host : goal.invariant-loop-host
invariant-loop-host l = record {
  names : l.space.names ≡ names_of l.stage.names.now;
  beside : All (AreBeside (length l.stage.names.now)) l.laters.items;
  all : (ps : Program) → AreScenes l.stage.inventory.now ps l.stage.scenes.now
      → AreLasting (names_of l.stage.names.now) (inventory_view l.stage.inventory.now) ps (take l.host (inventory_view l.stage.inventory.now).hosts) (lasting_lists l.laters.items);
}
