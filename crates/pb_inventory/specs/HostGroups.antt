-- The groups of each host, by their numbers, and what it has of them.
use Rattle.std.specs.Prelude.{ℕ, zero, suc, List, [], ◌++◌, length, get_or, map, Bool, false, not}
use Rattle.std.specs.Prelude.{◌&&◌, ◌==◌, Vec, String}
use Rattle.std.specs.List.{filter, range_with_len}
use Rattle.std.specs.Str.{bytes_eq}
use Rattle.std.specs.BTreeMap.{BTreeMap}
use Rattle.std.specs.declared.alloc.Global.{Global}
use Rattle.std.specs.declared.sync.Arc.{Arc}
use Rattle.pb_semantics.specs.Data.{Fields, no_fields}
use Rattle.pb_language.specs.Expression.{Name}
use Rattle.pb_language.specs.Written.{all_group}
use Rattle.pb_value.specs.View.{fields_view}
use Rattle.pb_value.specs.declared.value.Value.{Value}
use Rattle.pb_inventory.specs.Graph.{is_in}
use Rattle.pb_inventory.specs.Numbered.{name_of, named}

abbrev pub has_host : List (List ℕ) → ℕ → ℕ → Bool
has_host ms h i = is_in h (get_or ms i [])

-- the numbers below a limit that pass a test
abbrev pub numbers_where : (ℕ → Bool) → ℕ → List ℕ
numbers_where f n = filter f (range_with_len 0 n)

-- the names of those groups but `all`
abbrev pub names_where : (ℕ → Bool) → List Name → List Name
names_where f ns =
    named ns (numbers_where (λ i. f i && not (bytes_eq (name_of ns i) all_group)) (length ns))

-- the groups that lie less deep than that: by depth, of one depth in their order
abbrev pub groups_above : List ℕ → ℕ → List ℕ
groups_above ds zero = []
groups_above ds (suc k) =
    groups_above ds k ++ numbers_where (λ i. get_or ds i 0 == k) (length ds)

-- no group lies deeper than there are groups
abbrev pub by_depth : List ℕ → List ℕ
by_depth ds = groups_above ds (suc (length ds))

-- the layers of the groups of these numbers
abbrev pub picked : List ℕ → List Fields → List Fields
picked is ls = map (λ i. get_or ls i no_fields) is

-- the layers of those among the groups
abbrev pub layers_where : (ℕ → Bool) → List ℕ → List Fields → List Fields
layers_where f is ls = picked (filter f is) ls

abbrev pub layer_views : List (Arc (BTreeMap (String Global) Value) Global) → List Fields
layer_views ls = map (λ layer. fields_view layer.value.entries) ls

-- which of so many hosts are members
abbrev pub row_of : ℕ → List ℕ → List Bool
row_of hosts members = map (λ h. is_in h members) (range_with_len 0 hosts)

abbrev pub flags_of : List (Vec Bool Global) → List (List Bool)
flags_of rows = map (λ row. row.items) rows

abbrev pub flag_at : List (Vec Bool Global) → ℕ → ℕ → Bool
flag_at rows h i = get_or (get_or (flags_of rows) i []) h false
