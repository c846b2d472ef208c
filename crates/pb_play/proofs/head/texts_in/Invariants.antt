use Rattle.std.proofs.Common.{◌≡◌, ◌++◌, drop}
use Rattle.pb_language.specs.BookForm.{words_of_each}
use Rattle.pb_task.specs.Tasks.{names_view}
use Rattle.pb_value.specs.View.{items_view}
use Rattle.pb_play.specs.Plays.{words_in}
use Rattle.pb_play.proofs.head.texts_in.Given as goal

abbrev pub invariant-loop-item : goal.invariant-loop-item
invariant-loop-item l = words_of_each (items_view l.items) ≡ words_in (names_view l.texts.items) ++ words_of_each (items_view (drop l.item-index l.items))
