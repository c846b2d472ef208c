use Rattle.std.proofs.Common.{◌≡◌, ◌++◌, map, drop}
use Rattle.pb_language.specs.BookForm.{book_read, changed, plays_in}
use Rattle.pb_sig.specs.Modules.{modules_of}
use Rattle.pb_value.specs.View.{items_view}
use Rattle.pb_play.specs.Plays.{play_view}
use Rattle.pb_play.specs.Sections.{plays_from}
use Rattle.pb_play.specs.Sound.{AreSound, all_tasks}
use Rattle.pb_play.proofs.read.plays_in.Given as goal

abbrev pub invariant-loop-earlier : goal.invariant-loop-earlier
invariant-loop-earlier l = record {
  given : plays_from (modules_of l.registry) (items_view l.items) ≡ book_read (changed (λ xs. map play_view l.plays.items ++ xs) (plays_in (modules_of l.registry) l.earlier l.line (items_view (drop l.earlier l.items))));
  sound : AreSound (modules_of l.registry) (all_tasks l.plays.items);
}
