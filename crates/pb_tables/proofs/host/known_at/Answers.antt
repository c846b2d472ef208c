use Rattle.std.proofs.Common.{◌∙◌, ◌<◌, List, ap, length, option_map, slice_get, subst, sym}
use Rattle.pb_language.specs.Scope.{View}
use Rattle.pb_inventory.specs.Inventory.{inventory_view}
use Rattle.pb_inventory.specs.declared.inventory.Inventory as read
use Rattle.pb_tables.proofs.HostSeen.{known_there}
use Rattle.pb_tables.proofs.host.known_at.Goals as goal

pub slots-requires : goal.slots-requires
slots-requires c =
    let stage = c.args.stage.now in
    subst (λ (j : read.Inventory). c.args.host < length (inventory_view j).hosts) (sym stage.same) c.requires.host

pub returns-clause-known : goal.returns-clause-known
returns-clause-known c =
    let stage = c.args.stage.now in
    let host = c.args.host in
    sym (known_there (inventory_view stage.inventory.now).hosts host)
    ∙ ap (λ (vs : List View). option_map (λ v. v.slots) (slice_get vs host)) (sym stage.said) ∙ c.slots.ensures.slots
