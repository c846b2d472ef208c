-- What the values mean that stay the same in a whole run.
use Rattle.std.specs.Prelude.{◌≡◌, ℕ, List, map, Option, Some, None}
use Rattle.pb_semantics.specs.Data.{Data, text, list, rec}
use Rattle.pb_language.specs.Program.{Inventory, memberships_of}
use Rattle.pb_language.specs.Setting.{group_fields, names_list}
use Rattle.pb_inventory.specs.Numbered.{named}
use Rattle.pb_value.specs.View.{view}
use Rattle.pb_world.specs.Hosts.{names_of_hosts}
use Rattle.pb_world.specs.declared.constants.Constants.{Constants}
use Rattle.pb_world.specs.declared.constants.HostConstants.{HostConstants}

abbrev pub host_names : List HostConstants → List Data
host_names hs = map (λ h. view h.name) hs

-- the text that a value is, where it is one
abbrev pub text_in : Data → Option (List ℕ)
text_in (text s) = Some s
text_in d = None

abbrev pub host_groups : List HostConstants → List Data
host_groups hs = map (λ h. view h.group_names) hs

-- of the hosts by their numbers
abbrev pub names_data : Inventory → List ℕ → Data
names_data i ks = list (names_list (named (names_of_hosts i.hosts) ks))

-- they are those of the inventory
pub record AreConstants (i : Inventory) (c : Constants) : Type 0 where
  pub groups : view c.groups ≡ rec (group_fields i.groups)
  pub names : host_names c.hosts.items ≡ map text (names_of_hosts i.hosts)
  pub group_names : host_groups c.hosts.items
      ≡ map (λ n. list (names_list (memberships_of n i.groups))) (names_of_hosts i.hosts)
