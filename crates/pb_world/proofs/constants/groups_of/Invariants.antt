use Rattle.std.proofs.Common.{◌≡◌, drop}
use Rattle.pb_inventory.specs.Inventory.{inventory_view}
use Rattle.pb_language.specs.Setting.{group_fields}
use Rattle.pb_value.specs.View.{fields_view}
use Rattle.pb_world.proofs.constants.groups_of.Given as goal

abbrev pub invariant-loop-group : goal.invariant-loop-group
invariant-loop-group l = fields_view l.fields.entries ≡ group_fields (drop l.group (inventory_view l.inventory).groups)
