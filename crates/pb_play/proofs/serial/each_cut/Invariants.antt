use Rattle.std.proofs.Common.{◌≡◌, ◌++◌, map, drop, option_map}
use Rattle.pb_language.specs.BookForm.{cuts_in}
use Rattle.pb_value.specs.View.{items_view}
use Rattle.pb_play.specs.Plays.{cut_view}
use Rattle.pb_play.proofs.serial.each_cut.Given as goal

abbrev pub invariant-loop-item : goal.invariant-loop-item
invariant-loop-item l = cuts_in (items_view l.items) ≡ option_map (λ cs. map cut_view l.cuts.items ++ cs) (cuts_in (items_view (drop l.item-index l.items)))
