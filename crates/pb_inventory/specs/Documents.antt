-- What is read of an inventory's value means.
use Rattle.std.specs.Prelude.{List, map, Bool, ◌||◌, Option, Some, None, Result, Ok, Err, codes}
use Rattle.std.specs.Prelude.{String, string_bytes}
use denote.Ref.{Bor}
use Rattle.std.specs.BTreeMap.{BTreeMap}
use Rattle.std.specs.declared.alloc.Global.{Global}
use Rattle.std.specs.declared.sync.Arc.{Arc}
use Rattle.pb_semantics.specs.Data.{Fields, field_value, no_fields}
use Rattle.pb_language.specs.Expression.{Name}
use Rattle.pb_language.specs.Inventories.{wrong_form}
use Rattle.pb_language.specs.Written as language
use Rattle.pb_language.specs.Written.{is_there}
use Rattle.pb_value.specs.View.{fields_view}
use Rattle.pb_value.specs.declared.value.Value.{Value}
use Rattle.pb_value.specs.declared.weight.Weighed.{Weighed}
use Rattle.pb_inventory.specs.Offences.{FileOffence, refused}
use Rattle.pb_inventory.specs.declared.document.Document.{Document}
use Rattle.pb_inventory.specs.declared.document.Written.{Written}

-- what a value says, or that it is malformed
abbrev pub formed : {D : Type 0} → Option D → Result D FileOffence
formed None = Err (refused wrong_form)
formed (Some d) = Ok d

abbrev pub names_view : List (Arc (String Global) Global) → List Name
names_view ns = map (λ n. string_bytes n.value) ns

abbrev pub key_names : List (String Global) → List Name
key_names ns = map (λ n. string_bytes n) ns

abbrev pub variables_view : Option (Arc (Weighed (BTreeMap (String Global) Value)) Global) → Fields
variables_view None = no_fields
variables_view (Some fields) = fields_view fields.value.parts.entries

abbrev pub written_view : Written → language.Written
written_view w = record {
  name = string_bytes w.name.value;
  hosts = names_view w.hosts.items;
  variables = variables_view w.variables;
  children = names_view w.children.items;
}

abbrev pub document_view : Document → language.Document
document_view d =
    record { groups = map written_view d.groups.items; hostvars = variables_view d.hostvars }

-- one of the keys of a group is there
abbrev pub has_group_key : Fields → Bool
has_group_key fs = is_there (field_value (codes "hosts") fs)
    || (is_there (field_value (codes "vars") fs) || is_there (field_value (codes "children") fs))

-- the fields of a record, where there is one
abbrev pub own_view : Option (Bor (BTreeMap (String Global) Value)) → Fields
own_view None = no_fields
own_view (Some fields) = fields_view fields.now.entries
