use Rattle.std.proofs.Common.{◌≡◌, ◌++◌, [], map, drop}
use Rattle.pb_language.specs.BookForm.{changed}
use Rattle.pb_sig.specs.Modules.{modules_of}
use Rattle.pb_value.specs.View.{items_view}
use Rattle.pb_play.specs.Plays.{handler_view}
use Rattle.pb_play.specs.Sound.{AreSound, handler_tasks}
use Rattle.pb_play.proofs.Handlers.{behind_these}
use Rattle.pb_play.proofs.handler.handlers_in.Given as goal

abbrev pub invariant-loop-item : goal.invariant-loop-item
invariant-loop-item l = record {
  given : behind_these (modules_of l.registry) l.line [] (items_view l.items) ≡ changed (λ xs. map handler_view l.handlers.items ++ xs) (behind_these (modules_of l.registry) l.next (map handler_view l.handlers.items) (items_view (drop l.item-index l.items)));
  sound : AreSound (modules_of l.registry) (handler_tasks l.handlers.items);
}
