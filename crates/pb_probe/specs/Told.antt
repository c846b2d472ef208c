-- What is told of an inventory.
use Rattle.std.specs.Prelude.{ℕ, List, [], codes, get_or, map, Result, Ok, Err}
use Rattle.std.specs.List.{fold}
use Rattle.pb_semantics.specs.Data.{Fields, Items, field, list, no_fields, put_field, rec, text}
use Rattle.pb_language.specs.Expression.{Name}
use Rattle.pb_language.specs.Inventories.{cyclic, over_limit, wrong_form, wrong_host_name}
use Rattle.pb_language.specs.Program.{Inventory, memberships_of}
use Rattle.pb_language.specs.Setting.{names_list}
use Rattle.pb_language.specs.World.{Group, HostVariables}
use Rattle.pb_value.specs.View.{items_of}
use Rattle.pb_inventory.specs.Words.{FileOffence, not_json, refused}

-- why a text is no inventory
abbrev pub offence_told : FileOffence → List ℕ
offence_told not_json = codes "not_json"
offence_told (refused wrong_form) = codes "form"
offence_told (refused wrong_host_name) = codes "host_name"
offence_told (refused cyclic) = codes "cycle"
offence_told (refused over_limit) = codes "limit"

-- a host with its groups but `all`
abbrev pub host_told : List Group → HostVariables → Fields
host_told gs h = field (codes "groups") (list (names_list (memberships_of h.name gs)))
    (field (codes "name") (text h.name) (field (codes "vars") (rec h.variables) no_fields))

abbrev pub hosts_told : Inventory → Items
hosts_told i = items_of (map (λ h. rec (host_told i.groups h)) i.hosts)

abbrev pub with_group : Fields → Group → Fields
with_group fs g = put_field g.name (list (names_list g.hosts)) fs

abbrev pub groups_told : List Group → Fields
groups_told gs = fold with_group no_fields gs

abbrev pub inventory_told : Inventory → Fields
inventory_told i = field (codes "groups") (rec (groups_told i.groups))
    (field (codes "hosts") (list (hosts_told i)) no_fields)

-- the names of the hosts at these places
abbrev pub names_at : List HostVariables → List ℕ → List Name
names_at hs places = map (λ place. get_or (map (λ h. h.name) hs) place []) places

abbrev pub told_of : Result Inventory FileOffence → Fields
told_of (Ok i) = inventory_told i
told_of (Err o) = field (codes "fault") (text (offence_told o)) no_fields
