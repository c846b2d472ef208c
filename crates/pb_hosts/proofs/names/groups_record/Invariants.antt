use Rattle.std.proofs.Common.{◌≡◌, drop}
use Rattle.pb_language.specs.Setting.{group_slots}
use Rattle.pb_kind.specs.KindView.{slots_view}
use Rattle.pb_inventory.specs.Inventory.{inventory_view}
use Rattle.pb_hosts.proofs.names.groups_record.Given as goal

abbrev pub invariant-loop-group : goal.invariant-loop-group
invariant-loop-group l = slots_view l.slots.entries ≡ group_slots (drop l.group (inventory_view l.inventory).groups)
