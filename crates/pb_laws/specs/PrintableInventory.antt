-- The inventories that have a print: their names can be used and stand in their order, each group
-- has the hosts that are due to it, variables are read as they are, and the limits are kept.
use Rattle.std.specs.Prelude.{◌≡◌, List, [], ◌∷◌, map, Bool, true, false, not, ◌&&◌, ◌||◌, cond, Ok}
use Rattle.std.specs.List.{filter, flat_map, list_all, list_any}
use Rattle.std.specs.Str.{bytes_eq}
use Rattle.std.specs.Ordering.{is_lt, nat_cmp}
use Rattle.std.specs.Cmp.Lexicographic.{slice_cmp}
use Rattle.pb_semantics.specs.Data.{Data, text}
use Rattle.pb_semantics.specs.Keeps.{is_among}
use Rattle.pb_language.specs.Expression.{Name}
use Rattle.pb_language.specs.Families.{once}
use Rattle.pb_language.specs.Inventories.{has_opening, inventory_from, is_document_within}
use Rattle.pb_language.specs.Nesting.{some_field_holds}
use Rattle.pb_language.specs.Program.{Inventory}
use Rattle.pb_language.specs.Rules.{reserved_names}
use Rattle.pb_language.specs.Theorem.{host_names}
use Rattle.pb_language.specs.TaskForm.{keys_of}
use Rattle.pb_language.specs.World.{Group, HostVariables}
use Rattle.pb_language.specs.Printed.{meta_key}
use Rattle.pb_language.specs.Written.{all_group, is_group_name, is_host_name, ungrouped_group}
use Rattle.pb_laws.specs.PrintedInventory.{flat_document, printed_inventory}

abbrev pub is_before : Name → Name → Bool
is_before n m = is_lt (slice_cmp nat_cmp n m)

-- in the order of their bytes, each once
abbrev pub are_ordered : List Name → Bool
are_ordered [] = true
are_ordered (n ∷ ns) = list_all (is_before n) ns && are_ordered ns

-- the names of groups, of which two are always there
abbrev pub is_usable : Name → Bool
is_usable n = is_group_name n && not (bytes_eq n meta_key)

abbrev pub names_of : List Group → List Name
names_of gs = map (λ g. g.name) gs

pub record AreNames (ns : List Name) : Type 0 where
  pub usable : list_all is_usable ns ≡ true
  pub ordered : are_ordered ns ≡ true
  pub all : is_among all_group ns ≡ true
  pub ungrouped : is_among ungrouped_group ns ≡ true

-- the host stands in a group other than those two
abbrev pub is_grouped : List Group → Name → Bool
is_grouped gs h = list_any (λ g. not (bytes_eq g.name all_group
    || bytes_eq g.name ungrouped_group) && is_among h g.hosts) gs

-- `all` has all hosts, `ungrouped` those that stand in no other group, and any other group has each
-- of its hosts once
abbrev pub due_hosts : Inventory → Group → List Name
due_hosts i g = cond (bytes_eq g.name all_group) (host_names i.hosts)
    (cond (bytes_eq g.name ungrouped_group)
    (filter (λ h. not (is_grouped i.groups h)) (host_names i.hosts)) (once g.hosts))

abbrev pub AreGroups : Inventory → List Group → Type 0
AreGroups i [] = Unit {0}
AreGroups i (g ∷ gs) = (g.hosts ≡ due_hosts i g) × AreGroups i gs

-- a text that would be a template is not read as it stands
abbrev pub is_template : Data → Bool
is_template (text s) = has_opening s
is_template d = false

pub record IsHost (x : HostVariables) : Type 0 where
  pub name : is_host_name x.name ≡ true
  pub ordered : are_ordered (keys_of x.variables) ≡ true
  pub own : list_any (λ n. is_among n reserved_names) (keys_of x.variables) ≡ false
  pub plain : some_field_holds is_template x.variables ≡ false

abbrev pub AreHosts : List HostVariables → Type 0
AreHosts [] = Unit {0}
AreHosts (x ∷ xs) = IsHost x × AreHosts xs

-- the hosts stand in the order in which the groups list them
pub record IsPrintableInventory (i : Inventory) : Type 0 where
  pub names : AreNames (names_of i.groups)
  pub groups : AreGroups i i.groups
  pub order : once (flat_map (λ g. g.hosts) i.groups) ≡ host_names i.hosts
  pub hosts : AreHosts i.hosts
  pub within : is_document_within (flat_document i) ≡ true

abbrev pub InventoriesAreReadBack : Type 0
InventoriesAreReadBack = (i : Inventory) → IsPrintableInventory i
    → inventory_from (printed_inventory i) ≡ Ok i
