use Rattle.std.proofs.Common.{◌≡◌, ◌∙◌, ap, false, map, subst₂, sym, true}
use Rattle.pb_semantics.proofs.Bools.{untrue}
use Rattle.pb_language.specs.Plays.{program_of}
use Rattle.pb_language.specs.Program.{all_batches}
use Rattle.pb_inventory.specs.Inventory.{inventory_view}
use Rattle.pb_play.specs.Plays.{play_view}
use Rattle.pb_book.specs.Books.{plays_of}
use Rattle.pb_batches.specs.Batches.{AreBatchesOf, are_known}
use Rattle.pb_schedule.proofs.Known.{accepted_known}
use Rattle.pb_schedule.proofs.planned.batches_in.Goals as goal

pub unreachable-requires : goal.unreachable-requires
unreachable-requires c =
    let a = c.args.checked.now in
    let known : are_known (inventory_view a.inventory) (plays_of a.book) ≡ true = accepted_known a c.budget-budget.ensures.accepted in
    let seen = subst₂ (λ i ps. are_known (inventory_view i) ps ≡ false) c.inventory.ensures (c.plays-plays.ensures ∙ ap plays_of c.book.ensures.value) (c.in-Err-Unknown.ensures.unknown c.in-Err-Unknown.field-0-is) in
    untrue (sym seen ∙ known)

pub returns-in-Ok-clause-batches : goal.returns-in-Ok-clause-batches
returns-in-Ok-clause-batches c = λ ms.
    subst₂ (λ i ps. AreBatchesOf ms (inventory_view i) ps c.in-Ok.batches.items (all_batches (program_of ms (inventory_view i) (map play_view ps)))) c.inventory.ensures (c.plays-plays.ensures ∙ ap plays_of c.book.ensures.value) (c.in-Ok.ensures.batches ms)
