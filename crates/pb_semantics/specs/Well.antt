-- Well formed kinds: names stand once, and what is known of all cases of a result is the least
-- above each.
use Rattle.std.specs.Prelude.{◌≡◌, Bool, true, false, not, ◌&&◌}
use Rattle.pb_semantics.specs.Kind.{KindData, Slots, Cases, never, lists, recs, results, no_slots}
use Rattle.pb_semantics.specs.Kind.{slot, no_cases, one, is_listed}
use Rattle.pb_semantics.specs.Below.{below, all_cases}

-- no name stands twice
abbrev pub are_once : Slots → Bool
are_once no_slots = true
are_once (slot n a k ss) = not (is_listed n ss) && are_once ss

abbrev pub is_record : KindData → Bool
is_record (recs ss) = true
is_record k = false

-- a record, or nothing
abbrev pub is_record_or_never : KindData → Bool
is_record_or_never never = true
is_record_or_never (recs ss) = true
is_record_or_never k = false

-- the kind is above each case's record, and below each other kind that is
pub record LeastAbove (cs : Cases) (r : KindData) : Type 0 where
  pub known : is_record_or_never r ≡ true
  pub above : all_cases (λ m sh fl k. below k r) cs ≡ true
  pub least : (h : KindData) → all_cases (λ m sh fl k. below k h) cs ≡ true → below r h ≡ true

abbrev mutual
  pub Well : KindData → Type 0
  Well (lists k n) = Well k
  Well (recs ss) = (are_once ss ≡ true) × WellSlots ss
  Well (results cs r) = WellCases cs × Well r × LeastAbove cs r
  Well k = Unit {0}

  pub WellSlots : Slots → Type 0
  WellSlots no_slots = Unit {0}
  WellSlots (slot n a k ss) = Well k × WellSlots ss

  -- each case is a well formed record
  pub WellCases : Cases → Type 0
  WellCases no_cases = Unit {0}
  WellCases (one m sh fl k cs) = (is_record k ≡ true) × Well k × WellCases cs
