-- What a world has of a scope.
use Rattle.std.specs.Prelude.{◌≡◌, List, Bool, true, Some, None, is_some, codes}
use Rattle.pb_semantics.specs.Data.{Data, Fields, text, boolean, field_value}
use Rattle.pb_semantics.specs.Kind.{KindData, Slots, recs, spot, slot_at}
use Rattle.pb_semantics.specs.Keeps.{keeps, is_among, spot_ok, Models}
use Rattle.pb_semantics.specs.Well.{Well}
use Rattle.pb_language.specs.Expression.{Name, Expression, Root}
use Rattle.pb_language.specs.World.{World, variables_of}
use Rattle.pb_language.specs.Evaluation.{value, eval, look, is_there}
use Rattle.pb_language.specs.Scope.{Scope, is_present_path, view_of, later_of, is_later}
use Rattle.pb_language.specs.Scope.{learned_kind}
use Rattle.pb_language.specs.Kinds.{kind_of}
use Rattle.pb_language.specs.Narrow.{narrow}
use Rattle.pb_language.specs.Fit.{fault}

-- each kind of the scope is well formed
pub record WellScope (c : Scope) : Type 0 where
  pub own : Well (recs c.own)
  pub table : (g : Name) → Well (recs (view_of g c.table))
  pub own_slots : Well (recs c.own_slots)
  pub views : (g : Name) → Well (recs (view_of g c.views))
  pub learned : (n : Name) (e : Expression) (k : KindData) → learned_kind n e c.learned ≡ Some k
      → Well k
  pub item_slots : Well (recs c.item_slots)

-- what tests taught of variables is so
abbrev pub AreTaught : Fields → Slots → Type 0
AreTaught fs ss = (x : Name) (a : Bool) (k : KindData) → slot_at x ss ≡ spot a k
    → spot_ok (field_value x fs) (spot a k) ≡ true

pub record Knows (w : World) (c : Scope) : Type 0 where
  pub well : WellScope c
  pub this : w.this ≡ c.this
  pub groups : w.groups ≡ c.groups
  -- the host's own names, and the variables of each host, are those that are known
  pub own : Models w.mine c.own
  pub table : (g : Name) → Models (variables_of g w.hosts) (view_of g c.table)
  -- what tests taught is so
  pub own_slots : AreTaught w.mine c.own_slots
  pub views : (g : Name) → AreTaught (variables_of g w.hosts) (view_of g c.views)
  pub learned : (n : Name) (e : Expression) (k : KindData) (d : Data)
      → learned_kind n e c.learned ≡ Some k → eval w e ≡ value d → keeps d k ≡ true
  pub present : (r : Root) (ns : List Name) → is_present_path r ns c.present ≡ true
      → is_there ns (look w r) ≡ value (boolean true)
  pub active : (g : Name) → is_among g c.active ≡ true → is_among g w.batch ≡ true
  pub item_slots : (g : Name) → field_value (codes "item") w.mine ≡ Some (text g)
      → AreTaught (variables_of g w.hosts) c.item_slots
  pub item_active : c.item_active ≡ true → (g : Name)
      → field_value (codes "item") w.mine ≡ Some (text g) → is_among g w.batch ≡ true
  -- an active host has what it has at its later places
  pub later : (g : Name) → is_among g w.batch ≡ true → (x : Name)
      → is_later (later_of g c.laters) c.place x ≡ true
      → is_some (field_value x (variables_of g w.hosts)) ≡ true

-- an expression that is fit has a value, and it keeps the expression's kind
abbrev pub FitHasValue : Type 0
FitHasValue = (w : World) (c : Scope) (e : Expression) → Knows w c → fault c e ≡ None
    → (d : Data) × (eval w e ≡ value d) × (keeps d (kind_of c e) ≡ true)

-- a value keeps the kind of its expression, fit or not
abbrev pub ValueKeepsKind : Type 0
ValueKeepsKind = (w : World) (c : Scope) (e : Expression) (d : Data) → Knows w c
    → eval w e ≡ value d → keeps d (kind_of c e) ≡ true

-- what a test teaches is so in each world in which it has that answer
abbrev pub TestTeaches : Type 0
TestTeaches = (w : World) (c : Scope) (e : Expression) (b : Bool) → Knows w c
    → eval w e ≡ value (boolean b) → Knows w (narrow c e b)

-- kinds stay well formed
abbrev pub KindsAreWell : Type 0
KindsAreWell = (c : Scope) (e : Expression) → WellScope c → Well (kind_of c e)
