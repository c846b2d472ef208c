-- What the values stand for that the run's caller hands in.
use Rattle.std.specs.Prelude.{◌≡◌, ℕ, List, nat_eq, cond, IfSome, length, slice_get}
use Rattle.std.specs.Str.{bytes_eq}
use Rattle.pb_semantics.specs.Data.{Fields}
use Rattle.pb_language.specs.Expression.{Name}
use Rattle.pb_language.specs.Start.{Pass}
use Rattle.pb_language.specs.World.{HostVariables}

-- the hosts' variables by their numbers, what a task does item by item, and the hosts' names by
-- their numbers, no two of which are the same (numbers past the last host's have any others)
pub record Reading (P : Type 0) : Type 0 where
  pub variables : ℕ → Fields
  pub passes : P → List Pass
  pub name : ℕ → Name
  pub distinct : (i j : ℕ) → bytes_eq (name i) (name j) ≡ nat_eq i j

module _ {P : Type 0} where
  -- with other variables of one host
  abbrev pub with_variables : ℕ → Fields → Reading P → Reading P
  with_variables k fs r = record r { variables = λ j. cond (nat_eq j k) fs (r.variables j) }

  -- they read the same
  pub record Agree (a b : Reading P) : Type 0 where
    pub variables : (k : ℕ) → a.variables k ≡ b.variables k
    pub passes : (p : P) → a.passes p ≡ b.passes p
    pub name : (k : ℕ) → a.name k ≡ b.name k

  -- the hosts of an inventory, so many
  pub record AreGiven (reading : Reading P) (n : ℕ) (hs : List HostVariables) : Type 0 where
    pub count : length hs ≡ n
    pub each : (k : ℕ) → IfSome (slice_get hs k)
        (λ h. (h.name ≡ reading.name k) × (h.variables ≡ reading.variables k))
