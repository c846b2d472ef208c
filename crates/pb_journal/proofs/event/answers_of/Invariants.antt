use Rattle.std.proofs.Common.{◌≡◌, ◌++◌, drop, map, option_map}
use Rattle.pb_value.specs.View.{items_view}
use Rattle.pb_journal.specs.Said.{all_told, told_by}
use Rattle.pb_journal.proofs.event.answers_of.Given as goal

abbrev pub invariant-loop-item : goal.invariant-loop-item
invariant-loop-item l =
    option_map (λ ts. map told_by l.found.items ++ ts) (all_told (items_view (drop l.item-index l.items))) ≡ all_told (items_view l.items)
