use Rattle.std.proofs.Common.{◌∙◌, ap, sym, arith, Some, subst}
use Rattle.std.proofs.lemmas.List.{length-map}
use Rattle.pb_semantics.specs.Kind.{Slots, recs}
use Rattle.pb_semantics.specs.Well.{Well}
use Rattle.pb_language.specs.Scope.{view_of}
use Rattle.pb_inventory.specs.Inventory.{inventory_view}
use Rattle.pb_inventory.specs.Numbered.{name_of}
use Rattle.pb_kind.specs.KindView.{slots_view}
use Rattle.pb_hosts.specs.Shown.{views_view}
use Rattle.pb_hosts.specs.Tables.{host_names, slots_of_each}
use Rattle.pb_hosts.proofs.Places.{apart_hosts, host_there, slots_at, view_read, view_slots_at}
use Rattle.pb_hosts.proofs.views.Views.slots.Goals as goal
use Rattle.std.proofs.Common.{refl}

pub returns-clause-slots : goal.returns-clause-slots
returns-clause-slots c =
    let v = c.args.self.now in
    let i = inventory_view v.inventory.now in
    let size = length-map i.hosts (λ h. h.name) in
    let few = length-map v.hosts.items (λ m. slots_view m.value.entries) in
    view_slots_at (host_names i) (slots_of_each v.hosts.items) c.args.host (few ∙ v.each ∙ sym size) (omega (arith, size, c.requires)) ∙ slots_at v.hosts.items c.args.host c.index.result.now (omega (arith, v.each, c.requires)) c.index.ensures
    ∙ ap (λ m. Some (slots_view m.entries)) (sym c.deref.ensures)

pub returns-clause-named : goal.returns-clause-named
returns-clause-named c =
    let v = c.args.self.now in
    let i = inventory_view v.inventory.now in
    let size = length-map i.hosts (λ h. h.name) in
    host_there (λ n. view_of n (views_view v)) i.hosts c.args.host c.requires
    ∙ ap Some (sym (view_read (host_names i) v.hosts.items c.args.host _ c.index.result.now (apart_hosts v.inventory.now) (v.each ∙ sym size) (omega (arith, size, c.requires)) refl c.index.ensures))
    ∙ ap (λ m. Some (slots_view m.entries)) (sym c.deref.ensures)

pub returns-clause-well : goal.returns-clause-well
returns-clause-well c =
    let v = c.args.self.now in
    let i = inventory_view v.inventory.now in
    let size = length-map i.hosts (λ h. h.name) in
    let n = name_of (host_names i) c.args.host in
    let same = view_read (host_names i) v.hosts.items c.args.host n c.index.result.now (apart_hosts v.inventory.now) (v.each ∙ sym size) (omega (arith, size, c.requires)) refl c.index.ensures in
    subst (λ (ss : Slots). Well (recs ss)) (sym (ap (λ m. slots_view m.entries) c.deref.ensures ∙ same)) (v.well n)
