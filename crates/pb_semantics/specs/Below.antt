-- Which kinds have fewer values, by recursion over the second.
use Rattle.std.specs.Prelude.{ℕ, List, [], ◌∷◌, Bool, true, false, not, ◌&&◌, ◌||◌, nat_le}
use Rattle.std.specs.Str.{bytes_eq}
use Rattle.pb_semantics.specs.Data.{bool_eq}
use Rattle.pb_semantics.specs.Kind.{KindData, Slots, Cases, Spot, Shape, never, nulls, booleans}
use Rattle.pb_semantics.specs.Kind.{ints, texts, hosts, lists, recs, results, anything, no_slots}
use Rattle.pb_semantics.specs.Kind.{slot, no_cases, one, nowhere, spot, slot_at, is_listed}
use Rattle.pb_semantics.specs.Kind.{shape_eq}
use Rattle.pb_semantics.specs.Keeps.{is_among}

-- each name of the first is one of the second
abbrev pub are_among : List (List ℕ) → List (List ℕ) → Bool
are_among [] ms = true
are_among (n ∷ ns) ms = is_among n ms && are_among ns ms

-- each field of the first is a field of the second
abbrev pub names_among : Slots → Slots → Bool
names_among no_slots ts = true
names_among (slot n a k ss) ts = is_listed n ts && names_among ss ts

-- a field that is certain in the second is certain in the first, and its kind is below
abbrev pub spot_below : (KindData → Bool) → Bool → Spot → Bool
spot_below f b nowhere = not b
spot_below f b (spot a k) = (a || not b) && f k

abbrev pub all_cases : (List ℕ → Shape → Bool → KindData → Bool) → Cases → Bool
all_cases f no_cases = true
all_cases f (one m sh fl k cs) = f m sh fl k && all_cases f cs

-- the test of the slots of a case's record
abbrev pub record_below : (Slots → Bool) → KindData → Bool
record_below f never = true
record_below f (recs ss) = f ss
record_below f k = false

-- the same module, shape and failed status
abbrev pub same_case : List ℕ → Shape → Bool → List ℕ → Shape → Bool → Bool
same_case m sh fl n sj fm = bytes_eq m n && (shape_eq sh sj && bool_eq fl fm)

abbrev mutual
  pub below : KindData → KindData → Bool
  below k anything = true
  below never m = true
  below nulls nulls = true
  below booleans booleans = true
  below ints ints = true
  below texts texts = true
  below (hosts ns) texts = true
  below (hosts ns) (hosts ms) = are_among ns ms
  below (lists k n) (lists m o) = nat_le n o && below k m
  below (recs ss) (recs ts) = names_among ss ts && slots_below ss ts
  below (results cs r) (recs ts) =
      all_cases (λ m sh fl k. record_below (λ ss. names_among ss ts && slots_below ss ts) k) cs
  below (results cs r) (results ds q) = all_cases (λ m sh fl k. is_covered m sh fl k ds) cs
  below k m = false

  pub slots_below : Slots → Slots → Bool
  slots_below ss no_slots = true
  slots_below ss (slot n b m ts) = spot_below (λ k. below k m) b (slot_at n ss) && slots_below ss ts

  -- a case is one of the others
  pub is_covered : List ℕ → Shape → Bool → KindData → Cases → Bool
  is_covered m sh fl k no_cases = false
  is_covered m sh fl k (one n sj fm j ds) =
      (same_case m sh fl n sj fm && below k j) || is_covered m sh fl k ds
