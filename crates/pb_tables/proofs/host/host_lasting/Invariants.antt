use Rattle.std.proofs.Common.{◌≡◌, Some, length, slice_get}
use Rattle.std.specs.List.{All}
use Rattle.pb_language.specs.Program.{Program}
use Rattle.pb_language.specs.World.{HostVariables}
use Rattle.pb_lattice.specs.Arena.{names_of}
use Rattle.pb_lattice.specs.Environments.{Stands, exit_of}
use Rattle.pb_inventory.specs.Inventory.{inventory_view}
use Rattle.pb_hosts.specs.Shown.{views_view}
use Rattle.pb_tables.specs.Scenes.{AreScenes}
use Rattle.pb_tables.proofs.HostLasts.{LeftLasting}
use Rattle.pb_tables.proofs.host.host_lasting.Given as goal

abbrev pub invariant-loop-play : goal.invariant-loop-play
invariant-loop-play l = record {
  names : l.space.names ≡ l.fn.space.names;
  stands : Stands l.space l.at;
  number : length l.lastings.items ≡ l.play;
  beside : All (λ x. length x.from.items ≡ length l.stage.names.now) l.lastings.items;
  left : (ps : Program) (x : HostVariables) → AreScenes l.stage.inventory.now ps l.stage.scenes.now → slice_get (inventory_view l.stage.inventory.now).hosts l.host ≡ Some x
      → LeftLasting (names_of l.stage.names.now) l.stage.inventory.now (views_view l.stage.known.now) l.stage.scenes.now x ps l.play (exit_of l.space l.at) l.lastings.items;
}
