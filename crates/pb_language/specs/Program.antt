-- Inventories, and books as they run: plays with their rows, their handlers and their batches
-- (Ansible's pages on inventories and on plays).
use Rattle.std.specs.Prelude.{ℕ, List, [], ◌∷◌, ◌++◌, Bool, not, ◌&&◌, cond, codes}
use Rattle.std.specs.Str.{bytes_eq}
use Rattle.pb_semantics.specs.Keeps.{is_among}
use Rattle.pb_language.specs.Expression.{Name}
use Rattle.pb_language.specs.World.{Group, HostVariables}
use Rattle.pb_language.specs.Scope.{View, Later}
use Rattle.pb_language.specs.Notify.{HandlerNames}
use Rattle.pb_language.specs.Setting.{Setting}
use Rattle.pb_language.specs.Task.{Row}

-- the hosts in host order with their variables, and the groups by the bytes of their names
pub record Inventory : Type 0 where
  pub hosts : List HostVariables
  pub groups : List Group

pub record Play : Type 0 where
  pub line : ℕ
  pub row : Row
  pub hosts : List Name
  pub is_linear : Bool
  pub handlers : List HandlerNames
  pub batches : List (List Name)

-- the plays in their order
abbrev pub Program : Type 0
Program = List Play

pub record Batch : Type 0 where
  pub play : Play
  pub members : List Name

abbrev pub batches_of : Play → List (List Name) → List Batch
batches_of p [] = []
batches_of p (b ∷ bs) = record { play = p; members = b } ∷ batches_of p bs

abbrev pub all_batches : Program → List Batch
all_batches [] = []
all_batches (p ∷ ps) = batches_of p p.batches ++ all_batches ps

-- the groups of a host, but for the one of all hosts
abbrev pub memberships_of : Name → List Group → List Name
memberships_of h [] = []
memberships_of h (g ∷ gs) = cond (is_among h g.hosts && not (bytes_eq g.name (codes "all")))
    (g.name ∷ memberships_of h gs) (memberships_of h gs)

abbrev pub setting_of : Inventory → Play → List View → List Later → Name → Setting
setting_of inventory p views laters h = record {
  this = h;
  groups = inventory.groups;
  memberships = memberships_of h inventory.groups;
  play_hosts = p.hosts;
  handlers = p.handlers;
  views = views;
  laters = laters;
}
