use Rattle.std.proofs.Common.{◌≡◌, length}
use Rattle.pb_language.specs.Program.{Program}
use Rattle.pb_inventory.specs.Inventory.{inventory_view}
use Rattle.pb_tables.specs.Ends.{AreAlike}
use Rattle.pb_tables.specs.Scenes.{AreScenes}
use Rattle.pb_tables.proofs.looks.firsts_of.Given as goal

abbrev pub invariant-loop-host : goal.invariant-loop-host
invariant-loop-host l = record {
  count : length l.firsts.items ≡ l.host;
  alike : (ps : Program) → AreScenes l.stage.inventory.now ps l.stage.scenes.now → AreAlike (inventory_view l.stage.inventory.now) ps l.firsts.items;
}
