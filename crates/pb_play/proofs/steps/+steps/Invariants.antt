use Rattle.std.proofs.Common.{◌≡◌, ◌+◌, ◌-◌, ◌*◌, map, drop}
use Rattle.pb_language.specs.BookForm.{changed, most_block_nesting, steps_in}
use Rattle.pb_sig.specs.Modules.{modules_of}
use Rattle.pb_value.specs.View.{items_view}
use Rattle.pb_play.specs.Plays.{step_view}
use Rattle.pb_play.specs.Sound.{AreSound, tasks_in}
use Rattle.pb_play.proofs.Blocks.{onto}
use Rattle.pb_play.proofs.steps.+steps.Given as goal

-- the blocks that may still stand in one another come first, then the calls down to the next block
abbrev pub decreases-block_in : goal.decreases-block_in
decreases-block_in l = 5 * (most_block_nesting - l.depth)

abbrev pub decreases-step_of : goal.decreases-step_of
decreases-step_of l = 5 * (most_block_nesting - l.depth) + 1

abbrev pub decreases-step_in : goal.decreases-step_in
decreases-step_in l = 5 * (most_block_nesting - l.depth) + 2

abbrev pub decreases-steps_in : goal.decreases-steps_in
decreases-steps_in l = 5 * (most_block_nesting - l.depth) + 3

abbrev pub decreases-steps_at : goal.decreases-steps_at
decreases-steps_at l = 5 * (most_block_nesting - l.depth) + 4

abbrev pub invariant-steps_in-loop-item : goal.invariant-steps_in-loop-item
invariant-steps_in-loop-item l = record {
  given : steps_in (modules_of l.registry) l.depth l.line (items_view l.items) ≡ changed (onto (map step_view l.steps.items)) (steps_in (modules_of l.registry) l.depth l.next (items_view (drop l.item-index l.items)));
  sound : AreSound (modules_of l.registry) (tasks_in l.steps.items);
}
