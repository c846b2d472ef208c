use Rattle.std.proofs.Common.{◌≡◌, [], drop, map, string_bytes}
use Rattle.pb_semantics.specs.Join.{add_names}
use Rattle.pb_inventory.specs.Inventory.{inventory_view}
use Rattle.pb_inventory.specs.Numbered.{named}
use Rattle.pb_hosts.specs.Tables.{host_names}
use Rattle.pb_hosts.proofs.names.hosts_list.Given as goal

abbrev pub invariant-loop-place : goal.invariant-loop-place
invariant-loop-place l =
    add_names (named (host_names (inventory_view l.inventory)) (drop l.place-index l.places)) (map (λ n. string_bytes n) l.names.keys)
    ≡ add_names (named (host_names (inventory_view l.inventory)) l.places) []
