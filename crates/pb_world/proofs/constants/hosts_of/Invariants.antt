use Rattle.std.proofs.Common.{◌≡◌, map, take}
use Rattle.pb_inventory.specs.Inventory.{inventory_view}
use Rattle.pb_language.specs.Program.{memberships_of}
use Rattle.pb_language.specs.Setting.{names_list}
use Rattle.pb_semantics.specs.Data.{list, text}
use Rattle.pb_world.specs.Constants.{host_groups, host_names}
use Rattle.pb_world.specs.Hosts.{names_of_hosts}
use Rattle.pb_world.proofs.constants.hosts_of.Given as goal

abbrev pub invariant-loop-host : goal.invariant-loop-host
invariant-loop-host l = record {
  names : host_names l.hosts.items ≡ map text (names_of_hosts (take l.host (inventory_view l.inventory).hosts));
  group_names : host_groups l.hosts.items
      ≡ map (λ n. list (names_list (memberships_of n (inventory_view l.inventory).groups))) (names_of_hosts (take l.host (inventory_view l.inventory).hosts));
}
