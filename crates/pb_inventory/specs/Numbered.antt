-- Groups by numbers: the names of all groups in their order, and of each, by its number, the places
-- of its own hosts and the numbers of its children.
use Rattle.std.specs.Prelude.{◌≡◌, ℕ, ◌<◌, List, [], ◌∷◌, get_or, length, map, Bool, true, not}
use Rattle.std.specs.Prelude.{◌&&◌}
use Rattle.pb_semantics.specs.Data.{Fields, no_fields}
use Rattle.pb_semantics.specs.Keeps.{is_among}
use Rattle.pb_language.specs.Expression.{Name}
use Rattle.pb_language.specs.Families.{depth, group_names, host_order, members, own_children}
use Rattle.pb_language.specs.Families.{own_hosts, own_variables}
use Rattle.pb_language.specs.Inventories.{overlaid}
use Rattle.pb_language.specs.Written.{Document, Written}
use Rattle.pb_inventory.specs.Graph.{IsGraph, children_at, is_in}
use Rattle.pb_inventory.specs.Views.{laid}

abbrev pub name_of : List Name → ℕ → Name
name_of ns i = get_or ns i []

abbrev pub named : List Name → List ℕ → List Name
named ns is = map (name_of ns) is

-- each name once
abbrev pub are_apart : List Name → Bool
are_apart [] = true
are_apart (n ∷ ns) = not (is_among n ns) && are_apart ns

abbrev pub written_names : List Written → List Name
written_names ws = map (λ w. w.name) ws

pub record AreNumbered (ws : List Written) (hs ns : List Name) (os cs : List (List ℕ))
    : Type 0 where
  pub hosts : hs ≡ host_order ws
  pub names : ns ≡ group_names ws
  pub apart : are_apart (written_names ws) ≡ true
  pub owned : length os ≡ length ns
  pub counted : length cs ≡ length ns
  pub placed : (i h : ℕ) → is_in h (get_or os i []) ≡ true → h < length hs
  pub graph : IsGraph cs
  pub own : (i : ℕ) → i < length ns → named hs (get_or os i []) ≡ own_hosts (name_of ns i) ws
  pub children : (i : ℕ) → i < length ns
      → named ns (children_at cs i) ≡ own_children (name_of ns i) ws

-- of the groups by their numbers: the places of their members, how deep they lie, and the variables
-- that they give, each list in the order of the groups' names
pub record AreFamilies (d : Document) (hs ns : List Name) (ms : List (List ℕ))
    (ds : List ℕ) (ls : List Fields) : Type 0 where
  pub hosts : hs ≡ host_order d.groups
  pub names : ns ≡ group_names d.groups
  pub counted : (length ms ≡ length ns) × (length ds ≡ length ns) × (length ls ≡ length ns)
  pub placed : (i h : ℕ) → is_in h (get_or ms i []) ≡ true → h < length hs
  pub members : (i : ℕ) → i < length ns
      → named hs (get_or ms i []) ≡ members d.groups (name_of ns i)
  pub depths : 0 < length hs → (i : ℕ) → i < length ns
      → get_or ds i 0 ≡ depth d.groups (name_of ns i)
  pub layers : (i : ℕ) → i < length ns → (vs : Fields)
      → laid vs (get_or ls i no_fields) ≡ overlaid vs (own_variables (name_of ns i) d.groups)
