use Rattle.std.proofs.Common.{◌≡◌}
use Rattle.pb_language.specs.Written.{are_hostvars}
use Rattle.pb_value.specs.View.{fields_view}
use Rattle.pb_inventory.specs.Documents.{key_names}
use Rattle.pb_inventory.proofs.form.are_records.Given as goal

abbrev pub invariant-loop-name : goal.invariant-loop-name
invariant-loop-name l = are_hostvars (key_names l.hosts.keys) (fields_view l.fields.entries) ≡ are_hostvars (key_names l.hosts.keys) (fields_view l.name-iterator)
