use Rattle.std.proofs.Common.{◌∙◌, ◌<◌, ◌++◌, ◌∷◌, [], length, map, sym, ap, ap₂, arith}
use Rattle.std.proofs.lemmas.List.{map_push}
use Rattle.pb_value.specs.View.{fields_view, view}
use Rattle.pb_inventory.specs.Inventory.{inventory_view}
use Rattle.pb_probe.specs.Told.{host_told}
use Rattle.pb_probe.proofs.Tellings.{told-more}
use Rattle.pb_probe.proofs.inventory.hosts_told.Goals as goal

pub loop-host-preserved : goal.loop-host-preserved
loop-host-preserved c =
    let l = c.loop-host in
    let i = inventory_view c.args.inventory.now in
    let lt : l.host < length i.hosts = omega (arith, c.loop-host-test.true, c.hosts-host-end.ensures) in
    ap (map view) c.in_ok-push.ensures.items ∙ map_push view l.hosts.items c.in_ok-of_fields.field-0
    ∙ ap₂ (λ vs v. vs ++ v ∷ []) l.invariant c.in_ok-of_fields.ensures
    ∙ sym (told-more (host_told i.groups) i.hosts l.host (fields_view c.in_ok-told.told.entries) lt c.in_ok-told.ensures)
