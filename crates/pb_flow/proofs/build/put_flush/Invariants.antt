use Rattle.std.proofs.Common.{◌+◌, ◌≡◌, ℕ, drop, length, map, []}
use Rattle.pb_language.specs.Book.{Registry}
use Rattle.pb_language.specs.Expression.{Parts}
use Rattle.pb_language.specs.Plays.{handlers_at}
use Rattle.pb_language.specs.Task.{end, flush}
use Rattle.pb_play.specs.Plays.{handler_view}
use Rattle.pb_flow.specs.Build.{IsPut, StaySound}
use Rattle.pb_flow.specs.Nodes.{around_view, target_view}
use Rattle.pb_machine.specs.Steps.{Target}
use Rattle.pb_flow.proofs.build.put_flush.Given as goal

abbrev pub invariant-loop-index : goal.invariant-loop-index
invariant-loop-index l = record {
  front : l.tail.front + length l.handlers ≡ l.initial.tail.front + l.index;
  place : l.tail.place + length l.handlers ≡ l.initial.tail.place + l.index;
  put : (ms : Registry) (vars : Parts) (m : ℕ) (hurt : Target) → IsPut ms vars (flush (handlers_at (around_view ms vars l.scene.part.around.value) l.index l.tail.place (map handler_view (drop l.index l.handlers))) end) m (target_view l.fn.after) hurt
      l.initial.tail l.tail (target_view l.next);
  sound : StaySound (drop l.index l.handlers) [] l.initial.tail l.tail;
}
