use Rattle.std.proofs.Common.{◌∙◌, ap, sym, arith}
use Rattle.std.proofs.lemmas.List.{length-map}
use Rattle.pb_semantics.specs.Kind.{slot_at}
use Rattle.pb_inventory.specs.Inventory.{inventory_view}
use Rattle.pb_kind.specs.KindView.{slots_view}
use Rattle.pb_hosts.specs.Tables.{host_names, slots_of_each}
use Rattle.pb_hosts.proofs.Places.{apart_hosts, host_among, no_view, view_read}
use Rattle.pb_hosts.proofs.views.Views.other.Goals as goal

pub returns-in-Some : goal.returns-in-Some
returns-in-Some c =
    let v = c.args.self.now in
    let i = inventory_view v.inventory.now in
    let size = length-map i.hosts (λ h. h.name) in
    c.find.ensures ∙ ap (slot_at c.args.name.now)
    (ap (λ m. slots_view m.entries) c.deref.ensures
    ∙ view_read (host_names i) v.hosts.items c.in-Some.place c.args.host.now c.index.result.now (apart_hosts v.inventory.now) (v.each ∙ sym size) (omega (arith, size, c.in-Some.ensures.placed)) c.in-Some.ensures.named c.index.ensures)

pub returns-in-None : goal.returns-in-None
returns-in-None c =
    let v = c.args.self.now in
    let i = inventory_view v.inventory.now in
    sym (ap (slot_at c.args.name.now) (no_view (host_names i) (slots_of_each v.hosts.items) c.args.host.now (sym (host_among c.args.host.now i.hosts) ∙ sym c.in-None.ensures.known)))
