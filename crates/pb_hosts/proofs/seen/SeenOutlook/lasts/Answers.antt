use Rattle.std.proofs.Common.{◌∙◌, ap, length, sym, arith}
use Rattle.std.proofs.lemmas.Bool.{ltb-false, ltb-true}
use Rattle.std.proofs.lemmas.List.{length-map}
use Rattle.pb_language.specs.Scope.{is_later, later_of}
use Rattle.pb_lattice.specs.Arena.{names_of}
use Rattle.pb_inventory.specs.Inventory.{inventory_view}
use Rattle.pb_hosts.specs.Sights.{laters_view}
use Rattle.pb_hosts.specs.Tables.{host_names, since_view}
use Rattle.pb_hosts.proofs.Places.{apart_hosts, host_among, later_past, later_read, no_later}
use Rattle.pb_hosts.proofs.seen.SeenOutlook.lasts.Goals as goal

pub returns-in_default-place_of : goal.returns-in_default-place_of
returns-in_default-place_of c =
    let i = inventory_view c.args.self.now.cast.now.inventory.now in
    sym (ap (λ l. is_later (later_of c.args.host.now (laters_view i l)) c.args.place c.args.name.now) c.in-Some.is
    ∙ ap (λ l. is_later l c.args.place c.args.name.now) (no_later (host_names i) _ c.args.host.now (sym (host_among c.args.host.now i.hosts) ∙ sym c.in_default-place_of.ensures.known)))

pub returns-in-Some-get : goal.returns-in-Some-get
returns-in-Some-get c =
    let i = inventory_view c.args.self.now.cast.now.inventory.now in
    let l = c.in-Some.laters.now in
    let size = length-map i.hosts (λ h. h.name) in
    let at = c.in-Some-place_of.at in
    c.has.ensures ∙ ap (λ x. is_later (since_view (names_of l.names.now) x) c.args.place c.args.name.now) c.deref.ensures
    ∙ sym (ap (λ x. is_later (later_of c.args.host.now (laters_view i x)) c.args.place c.args.name.now) c.in-Some.is
    ∙ ap (λ x. is_later x c.args.place c.args.name.now)
    (later_read (host_names i) (names_of l.names.now) l.hosts.now at c.args.host.now c.in-Some-get.lasting.now (apart_hosts c.args.self.now.cast.now.inventory.now)
    (ltb-true at (length l.hosts.now) (sym c.in-Some-get.ensures.lookup.0)) (omega (arith, size, c.in-Some-place_of.ensures.placed)) c.in-Some-place_of.ensures.named c.in-Some-get.ensures.lookup.1))

pub returns-in-None : goal.returns-in-None
returns-in-None c =
    let i = inventory_view c.args.self.now.cast.now.inventory.now in
    let l = c.in-Some.laters.now in
    let size = length-map i.hosts (λ h. h.name) in
    let at = c.in-Some-place_of.at in
    sym (ap (λ x. is_later (later_of c.args.host.now (laters_view i x)) c.args.place c.args.name.now) c.in-Some.is
    ∙ ap (λ x. is_later x c.args.place c.args.name.now)
    (later_past (host_names i) (names_of l.names.now) l.hosts.now at c.args.host.now (apart_hosts c.args.self.now.cast.now.inventory.now)
    (ltb-false at (length l.hosts.now) (sym c.in-None.ensures.lookup.0)) (omega (arith, size, c.in-Some-place_of.ensures.placed)) c.in-Some-place_of.ensures.named))
