-- Writes that were joined to a view stand there: each is below it, and joining them once more changes nothing.
use Rattle.std.proofs.Common.{◌≡◌, Bool, true, false, cond, bytes_eq, refl}
use Rattle.pb_semantics.specs.Kind.{KindData, Slots, Spot, recs, nowhere, spot, slot_at}
use Rattle.pb_semantics.specs.Below.{below}
use Rattle.pb_semantics.specs.Join.{join}
use Rattle.pb_semantics.specs.Well.{Well}
use Rattle.pb_semantics.proofs.Bools.{untrue, and-both, own_presence, presence_through, weak_presence}
use Rattle.pb_semantics.proofs.Names.{same_name, own_name}
use Rattle.pb_semantics.proofs.JoinAbove.{joins_above}
use Rattle.pb_semantics.proofs.JoinLeast.{joins_least}
use Rattle.pb_semantics.proofs.Order.{own_below}
use Rattle.pb_semantics.proofs.Through.{through}
use Rattle.pb_language.specs.Expression.{Name}
use Rattle.pb_language.specs.Scope.{spot_kind, with_spot}
use Rattle.pb_language.specs.Cases.{Sets, no_sets, sets}
use Rattle.pb_language.specs.Judgement.{live}
use Rattle.pb_language.specs.Tables.{written_spot, with_writes, writes_below}
use Rattle.pb_language.specs.Ordered.{SpotLe, SlotsLe}
use Rattle.pb_language.specs.Wells.{WellSets, WellSpot}
use Rattle.pb_language.proofs.WithSlot.{at_with}
use Rattle.pb_language.proofs.WellKinds.{well_slot}
use Rattle.pb_language.proofs.Rounds.{writes_well}
use Rattle.pb_language.proofs.Walks.{exit_own, exit_through}
use Rattle.pb_walks.specs.Agree.{SlotsAgree}

-- what is known of a name is in order
spot_own : (s : Spot) → WellSpot s → SpotLe s s
spot_own nowhere w = tt
spot_own (spot a k) w = (own_presence a, own_below k w)

spot_through : (s t u : Spot) → WellSpot s → SpotLe s t → SpotLe t u → SpotLe s u
spot_through nowhere nowhere u w x y = y
spot_through nowhere (spot b j) nowhere w x y = tt
spot_through nowhere (spot b j) (spot c m) w x y = weak_presence b c y.0 x
spot_through (spot a k) nowhere u w x y = untrue x
spot_through (spot a k) (spot b j) nowhere w x y = untrue y
spot_through (spot a k) (spot b j) (spot c m) w x y = (presence_through a b c x.0 y.0, through k j m w x.1 y.1)

-- each name that is written is there, of a kind that the write is below
abbrev pub Stands : Sets → Slots → Type 0
Stands no_sets ss = Unit {0}
Stands (sets n a k r) ss = SpotLe (spot true k) (slot_at n ss) × Stands r ss

-- what was there is below what it becomes, and so is the write
written_above : (s : Spot) (k : KindData) → WellSpot s → Well k → SpotLe s (written_spot s k) × SpotLe (spot true k) (written_spot s k)
written_above nowhere k v w = (refl, (refl, own_below k w))
written_above (spot a j) k v w = let up = joins_above j k v w in ((own_presence a, up.0), (refl, up.1))

-- and what a write is below becomes no more by it
written_again : (s : Spot) (k : KindData) → WellSpot s → Well k → SpotLe (spot true k) s → SpotLe (written_spot s k) s
written_again nowhere k v w x = untrue x
written_again (spot a j) k v w x = (own_presence a, joins_least j k j v w (own_below j v) x.1)

at_written : (p n : Name) (s : Spot) (k : KindData) (ss : Slots) → slot_at p (with_spot n (written_spot s k) ss) ≡ cond (bytes_eq p n) (written_spot s k) (slot_at p ss)
at_written p n nowhere k ss = at_with p n false k ss
at_written p n (spot a j) k ss = at_with p n a (join j k) ss

-- one write
module _ (n : Name) (k : KindData) (ss : Slots) (u : Well k) (v : Well (recs ss)) where
  abbrev next : Slots
  next = with_spot n (written_spot (slot_at n ss) k) ss

  next_well : Well (recs next)
  next_well = writes_well (sets n true k no_sets) ss (u, tt) v

  either_above : (p : Name) (q : Bool) → bytes_eq p n ≡ q → SpotLe (slot_at p ss) (cond q (written_spot (slot_at n ss) k) (slot_at p ss))
  either_above p true e = rw (same_name p n e) (written_above (slot_at n ss) k (well_slot n ss v.1) u).0
  either_above p false e = spot_own (slot_at p ss) (well_slot p ss v.1)

  next_above : SlotsLe ss next
  next_above = record { at = λ p. rw (at_written p n (slot_at n ss) k ss) (either_above p (bytes_eq p n) refl) }

  next_stands : SpotLe (spot true k) (slot_at n next)
  next_stands = rw (at_written n n (slot_at n ss) k ss, own_name n) (written_above (slot_at n ss) k (well_slot n ss v.1) u).1

  either_again : (p : Name) (q : Bool) → bytes_eq p n ≡ q → SpotLe (spot true k) (slot_at n ss) → SpotLe (cond q (written_spot (slot_at n ss) k) (slot_at p ss)) (slot_at p ss)
  either_again p true e x = rw (same_name p n e) (written_again (slot_at n ss) k (well_slot n ss v.1) u x)
  either_again p false e x = spot_own (slot_at p ss) (well_slot p ss v.1)

  next_below : SpotLe (spot true k) (slot_at n ss) → SlotsLe next ss
  next_below x = record { at = λ p. rw (at_written p n (slot_at n ss) k ss) (either_again p (bytes_eq p n) refl x) }

-- what was there stays below what is there after more writes
pub writes_above : (w : Sets) (ss : Slots) → WellSets w → Well (recs ss) → SlotsLe ss (with_writes w ss)
writes_above no_sets ss u v = exit_own (live ss) v
writes_above (sets n a k r) ss u v =
    let then = next n k ss u.0 v in
    let w = next_well n k ss u.0 v in
    exit_through (live ss) (live then) (live (with_writes r then)) v w (writes_well r then u.1 w) (next_above n k ss u.0 v) (writes_above r then u.1 w)

-- what stands there stands in all that is above it
pub still_stands : (w : Sets) (ss ts : Slots) → WellSets w → SlotsLe ss ts → Stands w ss → Stands w ts
still_stands no_sets ss ts u l x = tt
still_stands (sets n a k r) ss ts u l x = (spot_through (spot true k) (slot_at n ss) (slot_at n ts) u.0 x.0 (l.at n), still_stands r ss ts u.1 l x.1)

pub writes_stand : (w : Sets) (ss : Slots) → WellSets w → Well (recs ss) → Stands w (with_writes w ss)
writes_stand no_sets ss u v = tt
writes_stand (sets n a k r) ss u v =
    let then = next n k ss u.0 v in
    let w = next_well n k ss u.0 v in
    (spot_through (spot true k) (slot_at n then) (slot_at n (with_writes r then)) u.0 (next_stands n k ss u.0 v) ((writes_above r then u.1 w).at n), writes_stand r then u.1 w)

-- what stands there adds nothing
pub standing_adds_nothing : (w : Sets) (ss : Slots) → WellSets w → Well (recs ss) → Stands w ss → SlotsLe (with_writes w ss) ss
standing_adds_nothing no_sets ss u v x = exit_own (live ss) v
standing_adds_nothing (sets n a k r) ss u v x =
    let then = next n k ss u.0 v in
    let w = next_well n k ss u.0 v in
    let more = standing_adds_nothing r then u.1 w (still_stands r ss then u.1 (next_above n k ss u.0 v) x.1) in
    exit_through (live (with_writes r then)) (live then) (live ss) (writes_well r then u.1 w) w v more (next_below n k ss u.0 v x.0)

-- and is below
stands_below : (k : KindData) (s : Spot) → SpotLe (spot true k) s → below k (spot_kind s) ≡ true
stands_below k nowhere x = untrue x
stands_below k (spot b j) x = x.1

pub standing_is_below : (w : Sets) (ss : Slots) → Stands w ss → writes_below w ss ≡ true
standing_is_below no_sets ss x = refl
standing_is_below (sets n a k r) ss x = and-both (below k (spot_kind (slot_at n ss))) (writes_below r ss) (stands_below k (slot_at n ss) x.0) (standing_is_below r ss x.1)

-- so once is enough
pub writes_settled : (w : Sets) (ss : Slots) → WellSets w → Well (recs ss) → writes_below w (with_writes w ss) ≡ true
writes_settled w ss u v = standing_is_below w (with_writes w ss) (writes_stand w ss u v)

pub writes_again : (w : Sets) (ss : Slots) → WellSets w → Well (recs ss) → SlotsAgree (with_writes w ss) (with_writes w (with_writes w ss))
writes_again w ss u v =
    let after = with_writes w ss in
    let then = writes_well w ss u v in
    (writes_above w after u then, standing_adds_nothing w after u then (writes_stand w ss u v))
