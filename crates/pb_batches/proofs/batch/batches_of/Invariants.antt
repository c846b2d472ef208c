use Rattle.std.proofs.Common.{length, map, take}
use Rattle.std.specs.List.{All}
use Rattle.pb_language.specs.Book.{Registry}
use Rattle.pb_language.specs.Plays.{program_of}
use Rattle.pb_language.specs.Program.{all_batches}
use Rattle.pb_inventory.specs.Inventory.{inventory_view}
use Rattle.pb_play.specs.Plays.{play_view}
use Rattle.pb_batches.specs.Batches.{batch_view}
use Rattle.pb_batches.proofs.Batches.{ArePairs, IsWithin}
use Rattle.pb_batches.proofs.batch.batches_of.Given as goal

abbrev pub invariant-loop-number : goal.invariant-loop-number
invariant-loop-number l = record {
  batches : (ms : Registry) → ArePairs ms (inventory_view l.inventory) l.plays (map batch_view l.batches.items) (all_batches (program_of ms (inventory_view l.inventory) (map play_view (take l.number l.plays))));
  within : All (IsWithin (length l.plays) (length (inventory_view l.inventory).hosts)) (map batch_view l.batches.items);
}
