use Rattle.std.proofs.Common.{◌≡◌, map, take}
use Rattle.pb_semantics.specs.Data.{rec}
use Rattle.pb_value.specs.View.{view}
use Rattle.pb_finish.specs.Endings.{final_view}
use Rattle.pb_finish.proofs.outcome.items_of.Given as goal

abbrev pub invariant-loop-item : goal.invariant-loop-item
invariant-loop-item l = map view l.items.items ≡ map (λ e. rec (final_view e).fields) (take l.item-index l.results)
