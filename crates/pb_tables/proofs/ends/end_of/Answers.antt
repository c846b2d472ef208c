use Rattle.std.proofs.Common.{sym, subst}
use Rattle.pb_inventory.specs.Inventory.{inventory_view}
use Rattle.pb_hosts.specs.Shown.{views_view}
use Rattle.pb_tables.specs.Found.{HostFinds}
use Rattle.pb_tables.specs.Tabled.{laters_in}
use Rattle.pb_tables.specs.declared.host.HostFound.{HostFound}
use Rattle.pb_tables.proofs.ends.end_of.Goals as goal

pub returns-clause-walked : goal.returns-clause-walked
returns-clause-walked c = λ none ps x scenes at.
    let stage = c.args.stage.now in
    let tables = c.args.tables.now in
    subst (λ (f : HostFound). HostFinds (inventory_view stage.inventory.now) ps (views_view tables.views) (laters_in stage tables.laters.items) x f) (sym c.in_ok-of.ensures) (c.in_ok-found.ensures.found ps x scenes at)
