use Rattle.std.proofs.Common.{◌≡◌, drop}
use Rattle.std.specs.List.{list_all}
use Rattle.pb_semantics.specs.Data.{field_value}
use Rattle.pb_language.specs.Inventories.{are_variables_within, record_fields}
use Rattle.pb_inventory.specs.Documents.{key_names, variables_view}
use Rattle.pb_inventory.proofs.limits.are_hostvars_within.Given as goal

abbrev pub invariant-loop-name : goal.invariant-loop-name
invariant-loop-name l = list_all (λ h. are_variables_within (record_fields (field_value h (variables_view l.hostvars)))) (key_names l.hosts.keys)
    ≡ list_all (λ h. are_variables_within (record_fields (field_value h (variables_view l.hostvars)))) (key_names (drop l.name-index l.name-items))
