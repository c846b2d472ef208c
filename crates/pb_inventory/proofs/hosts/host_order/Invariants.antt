use Rattle.std.proofs.Common.{◌≡◌, map, drop}
use Rattle.pb_language.specs.Families.{host_order}
use Rattle.pb_language.specs.Plays.{add_hosts}
use Rattle.pb_language.specs.Written.{listed_hosts}
use Rattle.pb_inventory.specs.Documents.{key_names, written_view}
use Rattle.pb_inventory.proofs.hosts.host_order.Given as goal

abbrev pub invariant-loop-group : goal.invariant-loop-group
invariant-loop-group l = add_hosts (key_names l.hosts.keys) (listed_hosts (map written_view (drop l.group-index l.groups))) ≡ host_order (map written_view l.groups)
