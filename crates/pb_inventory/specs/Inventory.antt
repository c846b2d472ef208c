-- What an inventory means.
use Rattle.std.specs.Prelude.{List, map}
use Rattle.pb_semantics.specs.Data.{Fields}
use Rattle.pb_language.specs.Program as program
use Rattle.pb_inventory.specs.Views.{base_lists, group_view, host_names, host_view}
use Rattle.pb_inventory.specs.declared.inventory.Inventory.{Inventory}

abbrev pub inventory_view : Inventory → program.Inventory
inventory_view i = record {
  hosts = map host_view i.hosts.entries;
  groups = map (group_view (host_names i.hosts.entries)) i.groups.entries;
}

-- the lists of layers that groups give hosts
abbrev pub bases_view : Inventory → List (List Fields)
bases_view i = base_lists i.bases.items
