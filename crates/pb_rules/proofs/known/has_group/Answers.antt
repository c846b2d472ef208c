use Rattle.std.proofs.Common.{◌∙◌, ap, map}
use Rattle.pb_language.specs.Rules.{is_group}
use Rattle.pb_language.specs.World.{HostVariables}
use Rattle.pb_inventory.specs.Inventory.{inventory_view}
use Rattle.pb_rules.proofs.InventoryNames.{group-there}
use Rattle.pb_rules.proofs.known.has_group.Goals as goal

pub returns : goal.returns
returns c =
    let n = c.args.name.now in
    let hs = map (λ (h : HostVariables). h.name) (inventory_view c.args.inventory.now).hosts in
    c.contains_key.ensures ∙ group-there hs n c.groups.result.now.entries ∙ ap (is_group n) c.groups.ensures.groups
