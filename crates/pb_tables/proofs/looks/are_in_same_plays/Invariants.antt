use Rattle.std.proofs.Common.{◌≡◌, Some, slice_get}
use Rattle.pb_language.specs.Program.{Program}
use Rattle.pb_language.specs.World.{HostVariables}
use Rattle.pb_inventory.specs.Inventory.{inventory_view}
use Rattle.pb_tables.specs.Scenes.{AreScenes}
use Rattle.pb_tables.proofs.Playing.{SameLeft}
use Rattle.pb_tables.proofs.looks.are_in_same_plays.Given as goal

abbrev pub invariant-loop-play : goal.invariant-loop-play
invariant-loop-play l =
    (ps : Program) (x y : HostVariables) → AreScenes l.stage.inventory.now ps l.stage.scenes.now → slice_get (inventory_view l.stage.inventory.now).hosts l.one ≡ Some x
    → slice_get (inventory_view l.stage.inventory.now).hosts l.other ≡ Some y → SameLeft l.stage.inventory.now l.stage.scenes.now x y ps l.play
