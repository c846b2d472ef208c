use Rattle.std.proofs.Common.{◌≡◌, drop}
use Rattle.std.specs.List.{list_all}
use Rattle.pb_language.specs.Written.{is_host_name}
use Rattle.pb_inventory.specs.Documents.{key_names}
use Rattle.pb_inventory.proofs.form.are_host_names.Given as goal

abbrev pub invariant-loop-name : goal.invariant-loop-name
invariant-loop-name l = list_all is_host_name (key_names l.hosts.keys) ≡ list_all is_host_name (key_names (drop l.name-index l.name-items))
