use Rattle.std.proofs.Common.{◌≡◌, drop}
use Rattle.pb_language.specs.Written.{names_in}
use Rattle.pb_value.specs.View.{items_view}
use Rattle.pb_inventory.specs.Documents.{names_view}
use Rattle.pb_inventory.proofs.Formed.{before}
use Rattle.pb_inventory.proofs.document.names_in.Given as goal

abbrev pub invariant-loop-item : goal.invariant-loop-item
invariant-loop-item l = names_in (items_view l.items) ≡ before (names_view l.names.items) (names_in (items_view (drop l.item-index l.items)))
