use Rattle.std.proofs.Common.{◌≡◌, length}
use Rattle.pb_language.specs.Program.{Program}
use Rattle.pb_inventory.specs.Inventory.{inventory_view}
use Rattle.pb_hosts.specs.Shown.{views_view}
use Rattle.pb_tables.specs.Ends.{AreEnds, AreShared}
use Rattle.pb_tables.specs.Scenes.{AreScenes}
use Rattle.pb_tables.specs.Tabled.{laters_in}
use Rattle.pb_tables.proofs.ends.ends_of.Given as goal

abbrev pub invariant-loop-host : goal.invariant-loop-host
invariant-loop-host l = record {
  names : l.space.names ≡ l.fn.space.names;
  count : length l.ends.items ≡ l.host;
  ends : (ps : Program) → AreScenes l.stage.inventory.now ps l.stage.scenes.now
      → AreShared (inventory_view l.stage.inventory.now) ps (views_view l.tables.views) (laters_in l.stage l.tables.laters.items) l.firsts
      → AreEnds (inventory_view l.stage.inventory.now) ps (views_view l.tables.views) (laters_in l.stage l.tables.laters.items) l.ends.items;
}
