use Rattle.std.proofs.Common.{sym, subst}
use Rattle.pb_inventory.specs.Inventory.{inventory_view}
use Rattle.pb_hosts.specs.Shown.{views_view}
use Rattle.pb_tables.specs.Ends.{AreEnds}
use Rattle.pb_tables.specs.Tabled.{laters_in}
use Rattle.pb_tables.proofs.round.round_of.Goals as goal

pub returns-clause-round : goal.returns-clause-round
returns-clause-round c = λ ps scenes shared.
    let stage = c.args.stage.now in
    let tables = c.args.tables.now in
    let i = inventory_view stage.inventory.now in
    let vs = views_view tables.views in
    let ls = laters_in stage tables.laters.items in
    c.all_found.ensures.round ps tables.views ls c.requires.tables.inventory
    (c.in_ok-found.ensures.found ps vs ls (subst (AreEnds i ps vs ls) (sym c.deref.ensures.value) (c.in_ok-ends.ensures.ends ps scenes shared)))
