use Rattle.std.proofs.Common.{◌∙◌, ap, sym}
use Rattle.pb_inventory.specs.Inventory.{inventory_view}
use Rattle.pb_hosts.specs.Tables.{shared_slots}
use Rattle.pb_hosts.proofs.Known.{each_known, known_well, slots_known, views_known}
use Rattle.pb_hosts.proofs.views.Views.of.Goals as goal

pub invariant_of-result : goal.invariant_of-result
invariant_of-result c =
    let v = inventory_view c.args.inventory.now in
    let ms = c.in_ok-hosts.hosts.items in
    record { each = each_known v ms c.in_ok-hosts.ensures.known; well = known_well v ms c.in_ok-hosts.ensures.known }

pub returns-clause-views : goal.returns-clause-views
returns-clause-views c = views_known (inventory_view c.args.inventory.now) c.in_ok-hosts.hosts.items c.in_ok-hosts.ensures.known

pub returns-clause-firsts : goal.returns-clause-firsts
returns-clause-firsts c =
    let same = slots_known (inventory_view c.args.inventory.now) c.in_ok-hosts.hosts.items c.in_ok-hosts.ensures.known in
    ap (λ ss. shared_slots ss c.in_ok-hosts.firsts.items) same ∙ c.in_ok-hosts.ensures.firsts ∙ sym same
