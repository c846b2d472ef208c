-- What a JSON value writes down as an inventory: groups with their hosts, variables and children,
-- and the variables of hosts (Ansible's pages on inventory scripts and on `ansible-inventory`).
use Rattle.std.specs.Prelude.{ℕ, List, [], ◌∷◌, length, Bool, true, false, not, ◌&&◌, ◌||◌, ◌==◌}
use Rattle.std.specs.Prelude.{nat_le, cond, Option, Some, None, codes}
use Rattle.std.specs.List.{flat_map, list_all}
use Rattle.std.specs.Str.{bytes_eq}
use Rattle.pb_semantics.specs.Data.{Data, Items, Fields, text, list, rec, no_items, item, no_fields}
use Rattle.pb_semantics.specs.Data.{field, field_value}
use Rattle.pb_semantics.specs.Keeps.{is_among}
use Rattle.pb_semantics.specs.Limits.{most_host_name_bytes}
use Rattle.pb_language.specs.Expression.{Name}
use Rattle.pb_language.specs.Rules.{is_digit, is_letter}

-- the bytes of a group's name
abbrev pub most_group_name_bytes : ℕ
most_group_name_bytes = 100

abbrev pub all_group : Name
all_group = codes "all"

abbrev pub ungrouped_group : Name
ungrouped_group = codes "ungrouped"

-- a group as it is written: its own hosts, its variables, and the names of its children
pub record Written : Type 0 where
  pub name : Name
  pub hosts : List Name
  pub variables : Fields
  pub children : List Name

-- groups in the order of their names' bytes, and the variables that `_meta` gives to hosts
pub record Document : Type 0 where
  pub groups : List Written
  pub hostvars : Fields

-- an ASCII letter or digit, `.`, `_` or `-`
abbrev pub is_host_byte : ℕ → Bool
is_host_byte b = is_letter b || (is_digit b || ((b == 46) || (b == 45)))

abbrev pub are_host_bytes : Name → Bool
are_host_bytes n = list_all is_host_byte n

abbrev pub is_host_name : Name → Bool
is_host_name n =
    nat_le 1 (length n) && (nat_le (length n) most_host_name_bytes && are_host_bytes n)

abbrev pub begins_as_group : Name → Bool
begins_as_group [] = false
begins_as_group (b ∷ bs) = is_letter b

abbrev pub is_group_name : Name → Bool
is_group_name n =
    begins_as_group n && (nat_le (length n) most_group_name_bytes && are_host_bytes n)

abbrev pub name_before : Data → Option (List Name) → Option (List Name)
name_before (text s) (Some ns) = Some (s ∷ ns)
name_before d ns = None

-- names := [text, ..]
abbrev pub names_in : Items → Option (List Name)
names_in no_items = Some []
names_in (item d ds) = name_before d (names_in ds)

-- the names, or the fields, of a key that may be left out
abbrev pub names_of : Option Data → Option (List Name)
names_of None = Some []
names_of (Some (list ds)) = names_in ds
names_of (Some d) = None

abbrev pub fields_of : Option Data → Option Fields
fields_of None = Some no_fields
fields_of (Some (rec fs)) = Some fs
fields_of (Some d) = None

abbrev pub written : Name → Option (List Name) → Option Fields → Option (List Name)
    → Option Written
written n (Some hs) (Some vs) (Some cs) =
    Some (record { name = n; hosts = hs; variables = vs; children = cs })
written n hs vs cs = None

abbrev pub is_there : Option Data → Bool
is_there None = false
is_there (Some d) = true

-- nothing, or at least one of the keys of a group; other keys beside it are passed over
abbrev pub is_group_form : Fields → Bool
is_group_form no_fields = true
is_group_form fs = is_there (field_value (codes "hosts") fs)
    || (is_there (field_value (codes "vars") fs) || is_there (field_value (codes "children") fs))

-- group := names | {"hosts": names, "vars": fields, "children": names}
abbrev pub group_in : Name → Data → Option Written
group_in n (list ds) = written n (names_in ds) (Some no_fields) (Some [])
group_in n (rec fs) = cond (is_group_form fs)
    (written n (names_of (field_value (codes "hosts") fs))
    (fields_of (field_value (codes "vars") fs)) (names_of (field_value (codes "children") fs)))
    None
group_in n d = None

abbrev pub named_group : Name → Data → Option Written
named_group n d = cond (is_group_name n) (group_in n d) None

abbrev pub group_before : Option Written → Option (List Written) → Option (List Written)
group_before (Some w) (Some ws) = Some (w ∷ ws)
group_before w ws = None

abbrev pub groups_in : Fields → Option (List Written)
groups_in no_fields = Some []
groups_in (field n d fs) = cond (bytes_eq n (codes "_meta")) (groups_in fs)
    (group_before (named_group n d) (groups_in fs))

-- meta := {"hostvars": fields}; other keys are passed over
abbrev pub hostvars_in : Option Data → Option Fields
hostvars_in None = Some no_fields
hostvars_in (Some (rec fs)) = fields_of (field_value (codes "hostvars") fs)
hostvars_in (Some d) = None

abbrev pub document : Option (List Written) → Option Fields → Option Document
document (Some ws) (Some vs) = Some (record { groups = ws; hostvars = vs })
document ws vs = None

-- inventory := {"_meta": meta, name: group, ..}
abbrev pub document_in : Data → Option Document
document_in (rec fs) =
    document (groups_in fs) (hostvars_in (field_value (codes "_meta") fs))
document_in d = None

-- every host that some group lists, as often as it is listed
abbrev pub listed_hosts : List Written → List Name
listed_hosts ws = flat_map (λ w. w.hosts) ws

abbrev pub is_empty : List Name → Bool
is_empty [] = true
is_empty (n ∷ ns) = false

-- `ungrouped` has no children, and is a child of no group but `all`
abbrev pub leaves_ungrouped : Written → Bool
leaves_ungrouped w = cond (bytes_eq w.name ungrouped_group) (is_empty w.children)
    (bytes_eq w.name all_group || not (is_among ungrouped_group w.children))

abbrev pub is_well_named : Written → Bool
is_well_named w = list_all is_group_name w.children && leaves_ungrouped w

abbrev pub is_record : Data → Bool
is_record (rec fs) = true
is_record d = false

-- the variables of a host of some group are an object; others are passed over
abbrev pub are_hostvars : List Name → Fields → Bool
are_hostvars hs no_fields = true
are_hostvars hs (field n d fs) = (not (is_among n hs) || is_record d) && are_hostvars hs fs

abbrev pub is_well_formed : Document → Bool
is_well_formed d =
    list_all is_well_named d.groups && are_hostvars (listed_hosts d.groups) d.hostvars
