use Rattle.std.proofs.Common.{◌≡◌, Some, slice_get}
use Rattle.pb_semantics.specs.Kind.{recs}
use Rattle.pb_semantics.specs.Well.{Well}
use Rattle.pb_language.specs.Program.{Program}
use Rattle.pb_language.specs.World.{HostVariables}
use Rattle.pb_lattice.specs.Environments.{Stands, exit_of}
use Rattle.pb_inventory.specs.Inventory.{inventory_view}
use Rattle.pb_kind.specs.KindView.{slots_view}
use Rattle.pb_hosts.specs.Shown.{views_view}
use Rattle.pb_tables.specs.Scenes.{AreScenes}
use Rattle.pb_tables.specs.Tabled.{laters_in}
use Rattle.pb_tables.proofs.HostFinds.{Left}
use Rattle.pb_tables.proofs.host.host_found.Given as goal

abbrev pub invariant-loop-play : goal.invariant-loop-play
invariant-loop-play l = record {
  names : l.space.names ≡ l.fn.space.names;
  stands : Stands l.space l.way.at;
  next : Well (recs (slots_view l.way.found.find.next.entries));
  left : (ps : Program) (x : HostVariables) → AreScenes l.stage.inventory.now ps l.stage.scenes.now → slice_get (inventory_view l.stage.inventory.now).hosts l.host ≡ Some x
      → Left l.stage.inventory.now (views_view l.tables.views) (laters_in l.stage l.tables.laters.items) l.stage.scenes.now x ps l.play (exit_of l.space l.way.at) l.way.found;
}
