use Rattle.std.proofs.Common.{◌+◌, ◌*◌, ◌≡◌, drop, length}
use Rattle.pb_language.specs.Book.{Registry, no_steps}
use Rattle.pb_language.specs.Expression.{Parts}
use Rattle.pb_language.specs.Plays.{places_in}
use Rattle.pb_language.specs.Sites.{steps_in}
use Rattle.pb_play.specs.Plays.{step_view, steps_view}
use Rattle.pb_play.specs.Sound.{tasks_in}
use Rattle.pb_flow.specs.Build.{IsPut, StaySound, block_alone, steps_row}
use Rattle.pb_flow.specs.Nodes.{target_view}
use Rattle.pb_flow.proofs.Counts.{weight}
use Rattle.pb_flow.proofs.build.+put.Given as goal

abbrev pub invariant-put_steps-loop-index : goal.invariant-put_steps-loop-index
invariant-put_steps-loop-index l = record {
  front : l.tail.front + steps_in (length l.scene.handlers.now) 0 (steps_view (drop l.index l.steps)) ≡ l.initial.tail.front;
  place : l.tail.place + places_in (length l.scene.handlers.now) (steps_view (drop l.index l.steps)) ≡ l.initial.tail.place;
  put : (ms : Registry) (vars : Parts) → IsPut ms vars (steps_row ms vars l.scene l.part.around.value l.tail.place (steps_view (drop l.index l.steps))) l.part.held (target_view l.ok) (target_view l.failed) l.initial.tail l.tail (target_view l.next);
  sound : StaySound l.scene.handlers.now (tasks_in (drop l.index l.steps)) l.initial.tail l.tail;
}

abbrev pub decreases-put_steps : goal.decreases-put_steps
decreases-put_steps l = 3 * weight (steps_view l.steps.now) + 2

abbrev pub decreases-put_step : goal.decreases-put_step
decreases-put_step l = 3 * weight (step_view l.step.now no_steps) + 1

abbrev pub decreases-put_block : goal.decreases-put_block
decreases-put_block l = 3 * weight (block_alone l.block.now)
