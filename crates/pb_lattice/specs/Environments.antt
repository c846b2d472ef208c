-- What an environment means in the table that it stands in.
use Rattle.std.specs.Prelude.{◌≡◌, ◌&&◌, ℕ, ◌<◌, nat_lt, length, Bool, true, false, Option}
use Rattle.std.specs.Prelude.{Some, None}
use Rattle.pb_semantics.specs.Kind.{KindData, Spot, nowhere, slot_at, put_slot}
use Rattle.pb_language.specs.Expression.{Name}
use Rattle.pb_language.specs.Judgement.{Exit, dead, live}
use Rattle.pb_lattice.specs.Trees.{IsAscending, WellTree, fits, slots_over}
use Rattle.pb_lattice.specs.Arena.{tree_at}
use Rattle.pb_lattice.specs.Shared.{Shared}
use Rattle.pb_lattice.specs.declared.environment.Environment.{Environment}

-- the tree at the place is over the names, and its kinds are well formed
pub record IsRooted (s : Shared) (i : ℕ) : Type 0 where
  pub within : i < length s.nodes
  pub ascending : IsAscending s.names
  pub fitting : fits (tree_at s.nodes i) s.names ≡ true
  pub well : WellTree (tree_at s.nodes i)

abbrev pub StandsAt : Shared → Option ℕ → Type 0
StandsAt s None = Unit {0}
StandsAt s (Some i) = IsRooted s i

abbrev pub exit_at : Shared → Option ℕ → Exit
exit_at s None = dead
exit_at s (Some i) = live (slots_over (tree_at s.nodes i) s.names)

-- the environment stands in the table
abbrev pub Stands : Shared → Environment → Type 0
Stands s e = StandsAt s e.root

-- what is known there, if a way leads there
abbrev pub exit_of : Shared → Environment → Exit
exit_of s e = exit_at s e.root

-- the tree at the place is over the names
abbrev pub is_over_at : Shared → Option ℕ → Bool
is_over_at s None = true
is_over_at s (Some i) = nat_lt i (length s.nodes) && fits (tree_at s.nodes i) s.names

-- what is known there can be looked up
abbrev pub is_over : Shared → Environment → Bool
is_over s e = is_over_at s e.root

-- the names are the same, and what stood stands and means what it meant
pub record IsKept (s u : Shared) : Type 0 where
  pub names : u.names ≡ s.names
  pub stays : (e : Environment) → Stands s e → Stands u e × (exit_of u e ≡ exit_of s e)

abbrev pub is_dead : Exit → Bool
is_dead dead = true
is_dead (live ss) = false

-- what is known of a name
abbrev pub spot_in : Name → Exit → Spot
spot_in n dead = nowhere
spot_in n (live ss) = slot_at n ss

-- the exit with that slot, if a way leads there
abbrev pub put_in : Name → Bool → KindData → Exit → Exit
put_in n a k dead = dead
put_in n a k (live ss) = live (put_slot n a k ss)
