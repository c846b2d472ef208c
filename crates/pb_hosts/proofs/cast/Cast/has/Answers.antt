use Rattle.std.proofs.Common.{◌∙◌, ◌<◌, false, length, sym, subst}
use Rattle.std.proofs.lemmas.List.{get_or_read}
use Rattle.pb_inventory.specs.Inventory.{inventory_view}
use Rattle.pb_hosts.proofs.Casting.{cast_has}
use Rattle.pb_hosts.proofs.Places.{apart_hosts}
use Rattle.pb_hosts.proofs.cast.Cast.has.Goals as goal

pub returns : goal.returns
returns c =
    let p = c.args.self.now in
    let within : c.args.host < length p.flags.items = subst (λ n. c.args.host < n) (sym p.count) c.requires in
    cast_has (inventory_view p.inventory.now).hosts p.places.items c.args.host c.index.result.now (apart_hosts p.inventory.now) p.placed c.requires
    (sym (get_or_read p.flags.items c.args.host c.index.result.now within c.index.ensures false ∙ p.flagged c.args.host within))
