-- Kinds: which values are meant.
use Rattle.std.specs.Prelude.{ℕ, List, Bool, true, false, cond}
use Rattle.std.specs.Str.{bytes_eq}
use Rattle.std.specs.Ordering.{nat_cmp, match_ordering}
use Rattle.std.specs.Cmp.Lexicographic.{slice_cmp}

-- how a task ended, as far as the fields of its result go
pub data Shape : Type 0 where
  ok_shape : Shape
  failure_shape : Shape
  skipped_shape : Shape

mutual
  pub data KindData : Type 0 where
    never : KindData
    nulls : KindData
    booleans : KindData
    ints : KindData
    texts : KindData
    -- a text that is one of these
    hosts : List (List ℕ) → KindData
    -- a list of at most so many items of that kind
    lists : KindData → ℕ → KindData
    recs : Slots → KindData
    -- a result of one of these cases, and what is known of all of them at once: the least record
    -- above each
    results : Cases → KindData → KindData
    anything : KindData

  -- the fields of a record, each certainly there or not; also the variables of a host
  pub data Slots : Type 0 where
    no_slots : Slots
    slot : List ℕ → Bool → KindData → Slots → Slots

  -- the cases of a result: the module, the shape, the final failed status and the record
  pub data Cases : Type 0 where
    no_cases : Cases
    one : List ℕ → Shape → Bool → KindData → Cases → Cases

-- what is known of a name
pub data Spot : Type 0 where
  nowhere : Spot
  spot : Bool → KindData → Spot

-- whether something is known
abbrev pub is_there : Spot → Bool
is_there nowhere = false
is_there (spot a k) = true

abbrev pub slot_at : List ℕ → Slots → Spot
slot_at n no_slots = nowhere
slot_at n (slot m a k ss) = cond (bytes_eq n m) (spot a k) (slot_at n ss)

abbrev pub is_listed : List ℕ → Slots → Bool
is_listed n no_slots = false
is_listed n (slot m a k ss) = cond (bytes_eq n m) true (is_listed n ss)

-- the slots with that one, at its place in the order of the names' bytes
abbrev pub put_slot : List ℕ → Bool → KindData → Slots → Slots
put_slot n a k no_slots = slot n a k no_slots
put_slot n a k (slot m b j ss) = match_ordering (slice_cmp nat_cmp n m) (slot n a k (slot m b j ss))
    (slot m a k ss) (slot m b j (put_slot n a k ss))

abbrev pub is_skipped : Shape → Bool
is_skipped ok_shape = false
is_skipped failure_shape = false
is_skipped skipped_shape = true

abbrev pub shape_eq : Shape → Shape → Bool
shape_eq ok_shape ok_shape = true
shape_eq failure_shape failure_shape = true
shape_eq skipped_shape skipped_shape = true
shape_eq s t = false
