use Rattle.std.proofs.Common.{◌∙◌, map, sym}
use Rattle.pb_inventory.specs.Documents.{written_view}
use Rattle.pb_inventory.proofs.Built.{cycle-told}
use Rattle.pb_inventory.proofs.NamedCycles.{has_cycle-all}
use Rattle.pb_inventory.proofs.build.order_of.Goals as goal

pub returns-then-has_all_below-clause-cycle : goal.returns-then-has_all_below-clause-cycle
returns-then-has_all_below-clause-cycle c = has_cycle-all (map written_view c.args.groups.now) (sym c.has_all_below.ensures ∙ c.if-has_all_below.true)

pub returns-clause-cycle : goal.returns-clause-cycle
returns-clause-cycle c =
    let told = rw c.as_slice.ensures.value at c.parents_first.ensures.order in
    cycle-told c.requires c.parents_first.result (sym c.has_all_below.ensures ∙ c.if-has_all_below.false) told
