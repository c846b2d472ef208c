-- Kinds are in order: each is below itself, and below what is above a kind above it.
use Rattle.std.proofs.Common.{◌≡◌, ℕ, List, Bool, true, not, ◌&&◌, ◌||◌, nat_le, ⊎_elim, refl, arith}
use Rattle.std.proofs.lemmas.Bool.Decides.{nat_tests}
use Rattle.pb_semantics.specs.Kind.{KindData, Slots, Cases, Shape, never, nulls, booleans, ints, texts, hosts, lists, recs, results, anything, no_cases, one, no_slots, slot, spot, slot_at}
use Rattle.pb_semantics.specs.Below.{names_among, spot_below, all_cases, same_case, below, slots_below, is_covered}
use Rattle.pb_semantics.specs.Well.{Well, WellSlots, WellCases, are_once}
use Rattle.pb_semantics.proofs.Bools.{untrue, and-left, and-right, and-both, or-left, or-right, or-cases, own_presence}
use Rattle.pb_semantics.proofs.Names.{own_case}
use Rattle.pb_semantics.proofs.Hosts.{own_among}
use Rattle.pb_semantics.proofs.Slots.{Each, each_at, from_among, from_slots}

pub le_own : (n : ℕ) → nat_le n n ≡ true
le_own n = grind (arith, nat_tests)

-- a test that holds of each case
pub all_from : (f g : List ℕ → Shape → Bool → KindData → Bool) (cs : Cases) → ((m : List ℕ) (sh : Shape) (fl : Bool) (k : KindData) → f m sh fl k ≡ true → g m sh fl k ≡ true)
    → all_cases f cs ≡ true → all_cases g cs ≡ true
all_from f g no_cases u h = refl
all_from f g (one m sh fl k cs) u h =
    and-both (g m sh fl k) (all_cases g cs) (u m sh fl k (and-left (f m sh fl k) (all_cases f cs) h)) (all_from f g cs u (and-right (f m sh fl k) (all_cases f cs) h))

-- a case that is covered, and the one that covers it
pub covered_from : (m : List ℕ) (sh : Shape) (fl : Bool) (k : KindData) (f : List ℕ → Shape → Bool → KindData → Bool) (b : Bool) (ds : Cases)
    → ((n : List ℕ) (sj : Shape) (fm : Bool) (j : KindData) → same_case m sh fl n sj fm ≡ true → below k j ≡ true → f n sj fm j ≡ true → b ≡ true)
    → all_cases f ds ≡ true → is_covered m sh fl k ds ≡ true → b ≡ true
covered_from m sh fl k f b no_cases u a h = untrue h
covered_from m sh fl k f b (one n sj fm j ds) u a h =
    let same = same_case m sh fl n sj fm in
    ⊎_elim (λ x. u n sj fm j (and-left same (below k j) x) (and-right same (below k j) x) (and-left (f n sj fm j) (all_cases f ds) a))
    (λ y. covered_from m sh fl k f b ds u (and-right (f n sj fm j) (all_cases f ds) a) y) (or-cases (same && below k j) (is_covered m sh fl k ds) h)

-- each kind is below itself
abbrev OwnBelow : KindData → Type 0
OwnBelow k = Well k → below k k ≡ true

own_spot : (n : List ℕ) (ss : Slots) (b : Bool) (m : KindData) → below m m ≡ true → slot_at n ss ≡ spot b m → spot_below (λ k. below k m) b (slot_at n ss) ≡ true
own_spot n ss b m h e = rw e (and-both (b || not b) (below m m) (own_presence b) h)

pub well_each : (ss : Slots) → WellSlots ss → Each (λ k. Well k) ss
well_each no_slots w = tt
well_each (slot n a k ss) w = (w.0, well_each ss w.1)

own_record : (ss : Slots) → Each OwnBelow ss → are_once ss ≡ true → WellSlots ss → names_among ss ss && slots_below ss ss ≡ true
own_record ss e o w =
    and-both (names_among ss ss) (slots_below ss ss) (from_among ss ss (λ n h. h))
    (from_slots ss ss o (λ n b m i. own_spot n ss b m (each_at OwnBelow n ss b m e i (each_at (λ k. Well k) n ss b m (well_each ss w) i)) i))

-- each case of the first is one of the second
pub all_own : (cs ds : Cases) → ((m : List ℕ) (sh : Shape) (fl : Bool) (k : KindData) → is_covered m sh fl k cs ≡ true → is_covered m sh fl k ds ≡ true) → all_cases (λ m sh fl k. below k k) cs ≡ true
    → all_cases (λ m sh fl k. is_covered m sh fl k ds) cs ≡ true
all_own no_cases ds u h = refl
all_own (one m sh fl k cs) ds u h =
    let rest = all_cases (λ m sh fl k. below k k) cs in
    let here = same_case m sh fl m sh fl && below k k in
    and-both (is_covered m sh fl k ds) (all_cases (λ m sh fl k. is_covered m sh fl k ds) cs)
    (u m sh fl k (or-left here (is_covered m sh fl k cs) (and-both (same_case m sh fl m sh fl) (below k k) (own_case m sh fl) (and-left (below k k) rest h))))
    (all_own cs ds (λ n sj fm j i. u n sj fm j (or-right (same_case n sj fm m sh fl && below j k) (is_covered n sj fm j cs) i)) (and-right (below k k) rest h))

pub own_covered : (cs : Cases) → all_cases (λ m sh fl k. below k k) cs ≡ true → all_cases (λ m sh fl k. is_covered m sh fl k cs) cs ≡ true
own_covered cs h = all_own cs cs (λ m sh fl k i. i) h

mutual
  pub own_below : (k : KindData) → Well k → below k k ≡ true
  own_below never w = refl
  own_below nulls w = refl
  own_below booleans w = refl
  own_below ints w = refl
  own_below texts w = refl
  own_below (hosts ns) w = own_among ns
  own_below (lists k n) w = and-both (nat_le n n) (below k k) (le_own n) (own_below k w)
  own_below (recs ss) w = own_record ss (own_each ss) w.0 w.1
  own_below (results cs r) w = own_covered cs (own_cases cs w.0)
  own_below anything w = refl

  own_each : (ss : Slots) → Each OwnBelow ss
  own_each no_slots = tt
  own_each (slot n a k ss) = (λ w. own_below k w, own_each ss)

  pub own_cases : (cs : Cases) → WellCases cs → all_cases (λ m sh fl k. below k k) cs ≡ true
  own_cases no_cases w = refl
  own_cases (one m sh fl k cs) w = and-both (below k k) (all_cases (λ m sh fl k. below k k) cs) (own_below k w.1) (own_cases cs w.2)
