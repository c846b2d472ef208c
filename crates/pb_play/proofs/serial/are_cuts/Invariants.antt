use Rattle.std.proofs.Common.{◌≡◌, drop}
use Rattle.pb_language.specs.BookForm.{cuts_in}
use Rattle.pb_language.specs.TaskForm.{is_missing}
use Rattle.pb_value.specs.View.{items_view}
use Rattle.pb_play.proofs.serial.are_cuts.Given as goal

abbrev pub invariant-loop-item : goal.invariant-loop-item
invariant-loop-item l = is_missing (cuts_in (items_view l.items)) ≡ is_missing (cuts_in (items_view (drop l.item-index l.items)))
