-- Scopes, settings and environments in order: the second of two knows less of variables, and the
-- same of all else; and what goes up with them (this project's own).
use Rattle.std.specs.Prelude.{◌≡◌, ℕ, Bool, true, false, not, ◌||◌, Option, Some, None}
use Rattle.pb_semantics.specs.Kind.{KindData, Slots, Spot, recs, nowhere, spot, slot_at}
use Rattle.pb_semantics.specs.Below.{below}
use Rattle.pb_semantics.specs.Well.{Well}
use Rattle.pb_language.specs.Expression.{Name, Expression}
use Rattle.pb_language.specs.Scope.{Scope, spot_kind, is_certain, view_of, has_view, later_of}
use Rattle.pb_language.specs.Scope.{is_later, learned_kind}
use Rattle.pb_language.specs.Kinds.{kind_of}
use Rattle.pb_language.specs.Narrow.{narrow}
use Rattle.pb_language.specs.Knows.{WellScope}
use Rattle.pb_language.specs.Task.{Task}
use Rattle.pb_language.specs.Cases.{Sets, no_sets, sets}
use Rattle.pb_language.specs.Setting.{Setting}
use Rattle.pb_language.specs.Judgement.{Exit, dead, live, going_exit, failing_exit, task_writes}
use Rattle.pb_language.specs.Wells.{WellViews}

-- what is known of a name
abbrev pub SpotLe : Spot → Spot → Type 0
SpotLe nowhere nowhere = Unit {0}
SpotLe nowhere (spot b m) = not b ≡ true
SpotLe (spot a k) nowhere = false ≡ true
SpotLe (spot a k) (spot b m) = (a || not b ≡ true) × (below k m ≡ true)

-- of an environment, name by name
pub record SlotsLe (ss ts : Slots) : Type 0 where
  pub at : (n : Name) → SpotLe (slot_at n ss) (slot_at n ts)

-- what is known at the end of a path: one that isn't there is of no kind
abbrev pub PathLe : Spot → Spot → Type 0
PathLe s t =
    (below (spot_kind s) (spot_kind t) ≡ true) × (is_certain s || not (is_certain t) ≡ true)

-- both were taught, or none
abbrev pub TaughtLe : Spot → Spot → Type 0
TaughtLe nowhere nowhere = Unit {0}
TaughtLe nowhere (spot b m) = false ≡ true
TaughtLe (spot a k) nowhere = false ≡ true
TaughtLe (spot a k) (spot b m) = (a || not b ≡ true) × (below k m ≡ true)

abbrev pub KnownLe : Option KindData → Option KindData → Type 0
KnownLe None None = Unit {0}
KnownLe None (Some m) = false ≡ true
KnownLe (Some k) None = false ≡ true
KnownLe (Some k) (Some m) = below k m ≡ true

-- the first with what the second knows of variables and of later places
abbrev pub moved : Scope → Scope → Scope
moved c d = record c {
  own = d.own;
  table = d.table;
  laters = d.laters;
  own_slots = d.own_slots;
  views = d.views;
  learned = d.learned;
  item_slots = d.item_slots;
}

-- the second scope knows less of variables, and the same of all else; of later places the two say
-- the same, however they list it
pub record ScopeLe (c d : Scope) : Type 0 where
  pub same : d ≡ moved c d
  pub own : SlotsLe c.own d.own
  pub table : (g : Name) → SlotsLe (view_of g c.table) (view_of g d.table)
  pub hosts : (g : Name) → has_view g c.table ≡ has_view g d.table
  pub own_slots : (x : Name) → TaughtLe (slot_at x c.own_slots) (slot_at x d.own_slots)
  pub views : (g x : Name)
      → TaughtLe (slot_at x (view_of g c.views)) (slot_at x (view_of g d.views))
  pub learned : (n : Name) (e : Expression)
      → KnownLe (learned_kind n e c.learned) (learned_kind n e d.learned)
  pub item_slots : (x : Name) → TaughtLe (slot_at x c.item_slots) (slot_at x d.item_slots)
  pub laters : (g x : Name)
      → is_later (later_of g c.laters) c.place x ≡ is_later (later_of g d.laters) d.place x

-- the kind of an expression goes up with the scope
abbrev pub KindsGoUp : Type 0
KindsGoUp = (c d : Scope) (e : Expression) → WellScope c → WellScope d → ScopeLe c d
    → below (kind_of c e) (kind_of d e) ≡ true

-- and so does what a test teaches
abbrev pub NarrowGoesUp : Type 0
NarrowGoesUp = (c d : Scope) (e : Expression) (b : Bool) → WellScope c → WellScope d → ScopeLe c d
    → ScopeLe (narrow c e b) (narrow d e b)

-- the first with what the second knows of hosts' variables and of later places
abbrev pub seen : Setting → Setting → Setting
seen st su = record st { views = su.views; laters = su.laters }

-- the second setting knows less of what hosts' variables look like to others
pub record SettingLe (st su : Setting) : Type 0 where
  pub same : su ≡ seen st su
  pub views : (g : Name) → SlotsLe (view_of g st.views) (view_of g su.views)
  pub hosts : (g : Name) → has_view g st.views ≡ has_view g su.views
  pub laters : (p : ℕ) (g x : Name)
      → is_later (later_of g st.laters) p x ≡ is_later (later_of g su.laters) p x

-- an exit that isn't there is the lowest
abbrev pub ExitLe : Exit → Exit → Type 0
ExitLe dead e = Unit {0}
ExitLe (live ss) dead = false ≡ true
ExitLe (live ss) (live ts) = SlotsLe ss ts

-- the same names with the same presence, each of a lower kind
abbrev pub SetsLe : Sets → Sets → Type 0
SetsLe no_sets no_sets = Unit {0}
SetsLe no_sets (sets n a k r) = false ≡ true
SetsLe (sets n a k r) no_sets = false ≡ true
SetsLe (sets n a k r) (sets m b j s) =
    (n ≡ m) × (a ≡ b) × (below k j ≡ true) × SetsLe r s

-- what is known after a task goes up with what is known before it, and so does what it writes
abbrev pub ExitsGoUp : Type 0
ExitsGoUp = (st su : Setting) (t : Task) (low high : Slots) → WellViews st.views
    → WellViews su.views → Well (recs low) → Well (recs high) → SettingLe st su → SlotsLe low high
    → ExitLe (going_exit st t low) (going_exit su t high)
    × ExitLe (failing_exit st t low) (failing_exit su t high)
    × SetsLe (task_writes st t low) (task_writes su t high)
