use Rattle.std.proofs.Common.{◌≡◌, fold, length, map, true}
use Rattle.pb_value.specs.View.{fields_view}
use Rattle.pb_inventory.specs.Inventory.{inventory_view}
use Rattle.pb_inventory.specs.Views.{are_placed, group_view}
use Rattle.pb_probe.specs.Told.{groups_told, with_group}
use Rattle.pb_probe.proofs.inventory.groups_told.Given as goal

abbrev pub invariant-loop-name : goal.invariant-loop-name
invariant-loop-name l = record {
  placed : are_placed (length (inventory_view l.inventory).hosts) l.name-iterator ≡ true;
  told : fold with_group (fields_view l.told.entries) (map (group_view (map (λ h. h.name) (inventory_view l.inventory).hosts)) l.name-iterator) ≡ groups_told (inventory_view l.inventory).groups;
}
