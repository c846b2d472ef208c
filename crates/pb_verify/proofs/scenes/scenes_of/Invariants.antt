use Rattle.std.proofs.Common.{◌≡◌, map, take}
use Rattle.std.specs.List.{All}
use Rattle.pb_language.specs.Book.{Registry}
use Rattle.pb_language.specs.Plays.{program_of}
use Rattle.pb_inventory.specs.Inventory.{inventory_view}
use Rattle.pb_play.specs.Plays.{play_view}
use Rattle.pb_play.specs.Sound.{AreSound, all_tasks}
use Rattle.pb_tables.specs.Scenes.{AreScenes}
use Rattle.pb_verify.specs.Scenes.{AllGather}
use Rattle.pb_verify.proofs.scenes.scenes_of.Given as goal

abbrev pub invariant-loop-index : goal.invariant-loop-index
invariant-loop-index l =
    (All (λ s. s.cast.inventory.now ≡ l.inventory) l.scenes.items)
    × ((ms : Registry) → AreSound ms (all_tasks l.plays) → AllGather ms l.plays l.gathering
    → AreScenes l.inventory (program_of ms (inventory_view l.inventory) (map play_view (take l.index l.plays))) l.scenes.items)
