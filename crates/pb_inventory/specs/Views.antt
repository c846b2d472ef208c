-- What the hosts and groups of an inventory mean.
use Rattle.std.specs.Prelude.{◌≡◌, ℕ, List, [], ◌∷◌, Bool, true, ◌&&◌, get_or, length, map}
use Rattle.std.specs.Prelude.{nat_lt}
use Rattle.std.specs.Prelude.{String, Vec, string_bytes}
use Rattle.std.specs.List.{fold, list_all}
use Rattle.std.specs.declared.alloc.Global.{Global}
use Rattle.pb_semantics.specs.Data.{Fields, no_fields, field, put_field}
use Rattle.pb_language.specs.Expression.{Name}
use Rattle.pb_language.specs.World.{Group, HostVariables}
use Rattle.pb_value.specs.View.{fields_view}
use Rattle.pb_inventory.specs.declared.bases.Base.{Base}
use Rattle.pb_inventory.specs.declared.inventory.Host.{Host}

-- the later of two layers of variables wins whole
abbrev pub laid : Fields → Fields → Fields
laid vs no_fields = vs
laid vs (field n d fs) = laid (put_field n d vs) fs

-- the layers from the lowest on
abbrev pub layered : List Fields → Fields
layered ls = fold laid no_fields ls

abbrev pub host_view : String Global × Host → HostVariables
host_view h = record {
  name = string_bytes h.0;
  variables = layered (map (λ layer. fields_view layer.value.entries)
      h.1.layers.items);
}

-- the members by their names, where their places in host order are given
abbrev pub group_view : List Name → String Global × Vec ℕ Global → Group
group_view hs g = record {
  name = string_bytes g.0;
  hosts = map (λ n. get_or hs n [])
      g.1.items;
}

-- the lists of layers that groups give hosts
abbrev pub base_lists : List Base → List (List Fields)
base_lists bs = map (λ b. map (λ layer. fields_view layer.value.entries) b.layers.items) bs

abbrev pub base_at : List (List Fields) → ℕ → List Fields
base_at ls i = get_or ls i []

-- the bases of hosts are among so many
abbrev pub are_numbered : ℕ → List (String Global × Host) → Bool
are_numbered n hs = list_all (λ h. nat_lt h.1.base n) hs

-- of each host what its base says, and its own over it
abbrev pub laid_layers : List (List Fields) → List (String Global × Host) → List Fields
laid_layers ls hs = map (λ h. laid (layered (base_at ls h.1.base))
    (fields_view h.1.own.value.entries)) hs

abbrev pub kept_layers : List (String Global × Host) → List Fields
kept_layers hs = map (λ h. layered (map (λ layer. fields_view layer.value.entries)
    h.1.layers.items)) hs

-- each host has what its base says, and its own over it
pub record AreBased (ls : List (List Fields)) (hs : List (String Global × Host)) : Type 0 where
  pub numbered : are_numbered (length ls) hs ≡ true
  pub laid : laid_layers ls hs ≡ kept_layers hs

abbrev pub host_names : List (String Global × Host) → List Name
host_names hs = map (λ h. string_bytes h.0) hs

abbrev pub group_keys : List (String Global × Vec ℕ Global) → List Name
group_keys gs = map (λ g. string_bytes g.0) gs

-- the places are those of so many hosts
abbrev pub are_placed : ℕ → List (String Global × Vec ℕ Global) → Bool
are_placed n [] = true
are_placed n (g ∷ gs) = list_all (λ i. nat_lt i n) g.1.items && are_placed n gs

-- the names of each host's groups but `all`, as they are kept
abbrev pub kept_groups : List (String Global × Host) → List (List Name)
kept_groups hs = map (λ h. map (λ g. string_bytes g.value) h.1.groups.items) hs
