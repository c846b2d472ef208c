use Rattle.std.proofs.Common.{◌≡◌, map, take}
use Rattle.pb_tables.specs.Listed.{lasting_lists, nobody_yet}
use Rattle.pb_tables.proofs.laters.nobody_lasting.Given as goal

abbrev pub invariant-loop-scene : goal.invariant-loop-scene
invariant-loop-scene l = lasting_lists l.laters.items ≡ map nobody_yet (take l.scene-index l.scenes)
