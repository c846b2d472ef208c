use Rattle.std.proofs.Common.{◌≡◌, map, ap, ◌∙◌, arith, take_all}
use Rattle.pb_language.specs.Give.{result_items}
use Rattle.pb_value.specs.View.{items_of, items_view}
use Rattle.pb_finish.specs.Endings.{final_view}
use Rattle.pb_finish.proofs.Written.{items_of-results}
use Rattle.pb_finish.proofs.outcome.items_of.Goals as goal

pub returns : goal.returns
returns c =
    let all = take_all c.loop-item.item-index c.args.results.now (omega arith) in
    let same : items_view c.loop-item.items.items ≡ result_items (map final_view c.args.results.now) = ap items_of (rw all at c.loop-item.invariant) ∙ items_of-results c.args.results.now in
    rw same at c.of_items.ensures
