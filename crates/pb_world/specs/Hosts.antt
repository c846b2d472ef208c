-- Hosts by their names, with variables by their numbers.
use Rattle.std.specs.Prelude.{◌≡◌, ◌<◌, ℕ, suc, List, [], ◌∷◌, length, map}
use Rattle.pb_semantics.specs.Data.{Fields}
use Rattle.pb_language.specs.Expression.{Name}
use Rattle.pb_language.specs.World.{HostVariables}
use Rattle.pb_inventory.specs.Words.{name_of}

abbrev pub names_of_hosts : List HostVariables → List Name
names_of_hosts hs = map (λ h. h.name) hs

-- those are the names of the hosts, by their numbers
abbrev pub AreNamed : (ℕ → Name) → List HostVariables → Type 0
AreNamed name hs = (k : ℕ) → k < length hs → name k ≡ name_of (names_of_hosts hs) k

-- the hosts, the first of which has that number, each with its variables
abbrev pub hosts_from : (ℕ → Fields) → ℕ → List HostVariables → List HostVariables
hosts_from f k [] = []
hosts_from f k (h ∷ hs) = record { name = h.name; variables = f k } ∷ hosts_from f (suc k) hs
