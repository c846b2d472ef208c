use Rattle.std.proofs.Common.{◌∙◌, length, refl, sym, ap, Some, option_map}
use Rattle.std.proofs.lemmas.Bool.{ltb-false, ltb-true}
use Rattle.std.proofs.lemmas.Option.{slice_get-map, slice_get_past, slice_get_read}
use Rattle.pb_inventory.specs.Inventory.{inventory_view}
use Rattle.pb_inventory.specs.Numbered.{name_of, named}
use Rattle.pb_hosts.specs.Tables.{host_names}
use Rattle.pb_hosts.proofs.Groups.{name_got}
use Rattle.pb_hosts.proofs.Places.{name_there}
use Rattle.pb_hosts.proofs.seen.name_among.Goals as goal

pub returns-in-Some : goal.returns-in-Some
returns-in-Some c =
    let i = inventory_view c.args.inventory.now in
    let hs = host_names i in
    let ps = c.args.members.now in
    ap Some (sym (name_there i.hosts c.in-Some.host.now c.host_name.result.now c.host_name.ensures))
    ∙ ap (option_map (name_of hs)) (sym (slice_get_read ps (length ps) c.args.place c.in-Some.host.now refl (ltb-true c.args.place (length ps) (sym c.in-Some.ensures.lookup.0)) c.in-Some.ensures.lookup.1))
    ∙ sym (slice_get-map (name_of hs) ps c.args.place) ∙ sym (name_got c.args.place (named hs ps))

pub returns-in-None : goal.returns-in-None
returns-in-None c =
    let i = inventory_view c.args.inventory.now in
    let hs = host_names i in
    let ps = c.args.members.now in
    ap (option_map (name_of hs)) (sym (slice_get_past ps c.args.place (ltb-false c.args.place (length ps) (sym c.in-None.ensures.lookup.0))))
    ∙ sym (slice_get-map (name_of hs) ps c.args.place) ∙ sym (name_got c.args.place (named hs ps))
