-- What a table of groups says.
use Rattle.std.specs.Prelude.{◌≡◌, ℕ, List, length, map, String, Vec, string_bytes}
use Rattle.std.specs.declared.alloc.Global.{Global}
use Rattle.pb_semantics.specs.Data.{Fields}
use Rattle.pb_language.specs.Expression.{Name}
use Rattle.pb_language.specs.Written.{Document}
use Rattle.pb_inventory.specs.Documents.{names_view}
use Rattle.pb_inventory.specs.HostGroups.{by_depth, flags_of, layer_views, picked, row_of}
use Rattle.pb_inventory.specs.Numbered.{AreFamilies}
use Rattle.pb_inventory.specs.declared.assembly.Table.{Table}
use Rattle.pb_inventory.specs.declared.bases.Base.{Base}

-- of groups with these names, layers, members and depths, and of so many hosts
pub record IsTable (t : Table) (ns : List Name) (ls : List Fields) (ms : List (List ℕ))
    (ds : List ℕ) (hosts : ℕ) : Type 0 where
  pub names : names_view t.names.items ≡ ns
  pub layers : layer_views t.layers.items ≡ ls
  pub rows : flags_of t.rows.items ≡ map (row_of hosts) ms
  pub order : t.order.items ≡ by_depth ds

-- of the groups that are written down
pub record IsTableOf (t : Table) (d : Document) (hs : List Name) : Type 0 where
  pub ns : List Name
  pub ms : List (List ℕ)
  pub ds : List ℕ
  pub ls : List Fields
  pub families : AreFamilies d hs ns ms ds ls
  pub table : IsTable t ns ls ms ds (length hs)

-- the groups of these names, each with that list
pub record HaveMembers (ns : List Name) (ms : List (List ℕ))
    (gs : List (String Global × Vec ℕ Global)) : Type 0 where
  pub names : map (λ g. string_bytes g.0) gs ≡ ns
  pub members : map (λ g. g.1.items) gs ≡ ms

-- the layers of its groups
abbrev pub IsBase : Table → Base → Type 0
IsBase t b = layer_views b.layers.items ≡ picked b.groups.items (layer_views t.layers.items)
