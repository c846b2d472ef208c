-- The inventory that a JSON value is, or why it is refused (Ansible's page on how variables are
-- merged; the limits are this project's own).
use Rattle.std.specs.Prelude.{ℕ, zero, suc, List, [], ◌∷◌, length, map, Bool, true, false}
use Rattle.std.specs.Prelude.{◌&&◌, ◌||◌, ◌==◌, nat_le, cond, Option, Some, None, Result, Ok, Err}
use Rattle.std.specs.List.{filter, fold, list_all}
use Rattle.pb_semantics.specs.Data.{Data, Items, Fields, text, list, rec, opaque, no_items, item}
use Rattle.pb_semantics.specs.Data.{no_fields, field, field_value, put_field, count_of}
use Rattle.pb_semantics.specs.Keeps.{is_among}
use Rattle.pb_semantics.specs.Limits.{most_hosts, most_levels}
use Rattle.pb_language.specs.Expression.{Name}
use Rattle.pb_language.specs.Families.{depth, group_names, groups_of, has_cycle, host_order}
use Rattle.pb_language.specs.Families.{members, own_variables}
use Rattle.pb_language.specs.Grammar.{opens_here}
use Rattle.pb_language.specs.Program.{Inventory}
use Rattle.pb_language.specs.Rules.{reserved_names}
use Rattle.pb_language.specs.Nesting.{is_within}
use Rattle.pb_language.specs.World.{HostVariables}
use Rattle.pb_language.specs.Written.{Document, Written, document_in, is_host_name, is_well_formed}
use Rattle.pb_language.specs.Written.{listed_hosts}

-- of the groups, `all` and `ungrouped` among them, and of each list of hosts, of children and of
-- variables
abbrev pub most_groups : ℕ
most_groups = 1024

abbrev pub most_list_length : ℕ
most_list_length = 65536

-- why an inventory is refused, the first that applies
pub data Offence : Type 0 where
  wrong_form : Offence
  wrong_host_name : Offence
  cyclic : Offence
  over_limit : Offence

abbrev pub is_short_list : Data → Bool
is_short_list (list ds) = nat_le (count_of ds) most_list_length
is_short_list d = true

-- reserved names are passed over unread
abbrev pub are_variables_within : Fields → Bool
are_variables_within no_fields = true
are_variables_within (field n d fs) =
    (is_among n reserved_names || is_within is_short_list most_levels d) && are_variables_within fs

abbrev pub record_fields : Option Data → Fields
record_fields (Some (rec fs)) = fs
record_fields d = no_fields

-- what `_meta` gives to that host
abbrev pub hostvars_of : Document → Name → Fields
hostvars_of d h = record_fields (field_value h d.hostvars)

abbrev pub is_group_within : Written → Bool
is_group_within w = nat_le (length w.hosts) most_list_length
    && (nat_le (length w.children) most_list_length && are_variables_within w.variables)

abbrev pub is_document_within : Document → Bool
is_document_within d = nat_le (length (host_order d.groups)) most_hosts
    && (nat_le (length (group_names d.groups)) most_groups
    && (list_all is_group_within d.groups
    && list_all (λ h. are_variables_within (hostvars_of d h)) (host_order d.groups)))

-- `{{`, `{%` or `{#` stands in the text
abbrev pub has_opening : List ℕ → Bool
has_opening [] = false
has_opening (b ∷ bs) = opens_here b bs || has_opening bs

abbrev mutual
  -- a text that would be a template may stand and may not be read
  pub variable_of : Data → Data
  variable_of (text s) = cond (has_opening s) opaque (text s)
  variable_of (list ds) = list (items_of ds)
  variable_of (rec fs) = rec (fields_of fs)
  variable_of d = d

  pub items_of : Items → Items
  items_of no_items = no_items
  items_of (item d ds) = item (variable_of d) (items_of ds)

  pub fields_of : Fields → Fields
  fields_of no_fields = no_fields
  fields_of (field n d fs) = field n (variable_of d) (fields_of fs)

-- the later variables win whole, and reserved names are passed over
abbrev pub overlaid : Fields → Fields → Fields
overlaid vs no_fields = vs
overlaid vs (field n d fs) =
    overlaid (cond (is_among n reserved_names) vs (put_field n (variable_of d) vs)) fs

-- the host's groups of that depth, in the order of their names' bytes
abbrev pub groups_at : List Written → Name → ℕ → List Name
groups_at ws h k =
    filter (λ n. (depth ws n == k) && is_among h (members ws n)) (group_names ws)

-- those of groups that lie less deep than that, deeper groups winning
abbrev pub group_variables : List Written → Name → ℕ → Fields
group_variables ws h zero = no_fields
group_variables ws h (suc k) = fold (λ vs n. overlaid vs (own_variables n ws))
    (group_variables ws h k) (groups_at ws h k)

-- no group lies deeper than there are groups
abbrev pub host_variables : Document → Name → HostVariables
host_variables d h = record {
  name = h;
  variables = overlaid (group_variables d.groups h (suc (length (group_names d.groups))))
      (hostvars_of d h);
}

abbrev pub inventory_of : Document → Inventory
inventory_of d = record {
  hosts = map (host_variables d) (host_order d.groups);
  groups = groups_of d.groups;
}

abbrev pub judged_document : Document → Result Inventory Offence
judged_document d = cond (is_well_formed d)
    (cond (list_all is_host_name (listed_hosts d.groups))
    (cond (has_cycle d.groups) (Err cyclic)
    (cond (is_document_within d) (Ok (inventory_of d)) (Err over_limit)))
    (Err wrong_host_name)) (Err wrong_form)

abbrev pub inventory_found : Option Document → Result Inventory Offence
inventory_found None = Err wrong_form
inventory_found (Some d) = judged_document d

-- the inventory that the value is
abbrev pub inventory_from : Data → Result Inventory Offence
inventory_from d = inventory_found (document_in d)
