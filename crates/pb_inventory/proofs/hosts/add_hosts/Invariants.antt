use Rattle.std.proofs.Common.{◌≡◌, drop}
use Rattle.pb_language.specs.Plays.{add_hosts}
use Rattle.pb_inventory.specs.Documents.{key_names, names_view}
use Rattle.pb_inventory.proofs.hosts.add_hosts.Given as goal

abbrev pub invariant-loop-name : goal.invariant-loop-name
invariant-loop-name l = add_hosts (key_names l.hosts.keys) (names_view (drop l.name-index l.names)) ≡ add_hosts (key_names l.fn.hosts.keys) (names_view l.names)
