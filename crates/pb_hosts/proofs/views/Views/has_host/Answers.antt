use Rattle.std.proofs.Common.{sym, ◌∙◌}
use Rattle.std.proofs.lemmas.List.{length-map}
use Rattle.pb_inventory.specs.Inventory.{inventory_view}
use Rattle.pb_kind.specs.KindView.{slots_view}
use Rattle.pb_hosts.specs.Tables.{host_names, slots_of_each}
use Rattle.pb_hosts.proofs.Places.{host_among, view_there}
use Rattle.pb_hosts.proofs.views.Views.has_host.Goals as goal

pub returns : goal.returns
returns c =
    let v = c.args.self.now in
    let xs = (inventory_view v.inventory.now).hosts in
    c.is_some.ensures ∙ c.place_of.ensures.known ∙ host_among c.args.host.now xs
    ∙ view_there (host_names (inventory_view v.inventory.now)) (slots_of_each v.hosts.items) c.args.host.now
    (length-map v.hosts.items (λ m. slots_view m.value.entries) ∙ v.each ∙ sym (length-map xs (λ h. h.name)))
