-- What is below a kind is below each kind above that one, by recursion over the highest.
use Rattle.std.proofs.Common.{◌≡◌, ℕ, List, Bool, true, not, ◌&&◌, ◌||◌, nat_le, ⊎_elim, refl}
use Rattle.pb_semantics.specs.Kind.{KindData, Slots, Spot, Cases, Shape, never, nulls, booleans, ints, texts, hosts, lists, recs, results, anything, no_cases, one, no_slots, slot, nowhere, spot, slot_at, is_there}
use Rattle.pb_semantics.specs.Below.{names_among, spot_below, all_cases, record_below, same_case, below, slots_below, is_covered}
use Rattle.pb_semantics.specs.Well.{Well, WellSlots, WellCases, is_record}
use Rattle.pb_semantics.proofs.Bools.{untrue, and-left, and-right, and-both, or-left, or-right, or-cases, weak_presence, presence_through}
use Rattle.pb_semantics.proofs.Names.{case_action, case_shape, case_flag}
use Rattle.pb_semantics.proofs.Hosts.{among_through}
use Rattle.pb_semantics.proofs.Slots.{each_at, among, from_among, slot_below, listed_is_there}
use Rattle.pb_semantics.proofs.KeepsUp.{le_through}
use Rattle.pb_semantics.proofs.Order.{well_each, covered_from}

pub never_below : (m : KindData) → below never m ≡ true
never_below anything = refl
never_below m = refl

never_up : (j m : KindData) → below j never ≡ true → below j m ≡ true
never_up never m h = never_below m
never_up j m h = untrue h

-- a test that holds of each case's record
pub all_well : (f g : List ℕ → Shape → Bool → KindData → Bool) (cs : Cases) → WellCases cs
    → ((m : List ℕ) (sh : Shape) (fl : Bool) (k : KindData) → is_record k ≡ true → Well k → f m sh fl k ≡ true → g m sh fl k ≡ true) → all_cases f cs ≡ true → all_cases g cs ≡ true
all_well f g no_cases w u h = refl
all_well f g (one m sh fl k cs) w u h =
    and-both (g m sh fl k) (all_cases g cs) (u m sh fl k w.0 w.1 (and-left (f m sh fl k) (all_cases f cs) h)) (all_well f g cs w.2 u (and-right (f m sh fl k) (all_cases f cs) h))

-- kinds below this one are below what is above it
abbrev Through : KindData → Type 0
Through m = (j k : KindData) → Well j → below j k ≡ true → below k m ≡ true → below j m ≡ true

spot_through : (s t : Spot) (b : Bool) (m : KindData) → Through m → ((c : Bool) (j : KindData) → s ≡ spot c j → Well j) → (is_there s ≡ true → is_there t ≡ true)
    → ((a : Bool) (k : KindData) → t ≡ spot a k → spot_below (λ j. below j k) a s ≡ true) → spot_below (λ k. below k m) b t ≡ true → spot_below (λ j. below j m) b s ≡ true
spot_through nowhere nowhere b m f w g u i = i
spot_through nowhere (spot a k) b m f w g u i = weak_presence a b (and-left (a || not b) (below k m) i) (u a k refl)
spot_through (spot c j) nowhere b m f w g u i = untrue (g refl)
spot_through (spot c j) (spot a k) b m f w g u i =
    and-both (c || not b) (below j m) (presence_through c a b (and-left (c || not a) (below j k) (u a k refl)) (and-left (a || not b) (below k m) i))
    (f j k (w c j refl) (and-right (c || not a) (below j k) (u a k refl)) (and-right (a || not b) (below k m) i))

there_up : (n : List ℕ) (ss ts : Slots) → names_among ss ts ≡ true → is_there (slot_at n ss) ≡ true → is_there (slot_at n ts) ≡ true
there_up n ss ts h i = rw (← listed_is_there n ts) (among n ss ts h (rw (listed_is_there n ss) i))

record_through : (ss ts us : Slots) → (slots_below ts us ≡ true → slots_below ss us ≡ true) → names_among ss ts ≡ true → names_among ts us && slots_below ts us ≡ true → names_among ss us && slots_below ss us ≡ true
record_through ss ts us f h i =
    and-both (names_among ss us) (slots_below ss us)
    (from_among ss us (λ n x. among n ts us (and-left (names_among ts us) (slots_below ts us) i) (among n ss ts h x)))
    (f (and-right (names_among ts us) (slots_below ts us) i))

-- a record of a case
case_through : (k : KindData) (f g : Slots → Bool) → is_record k ≡ true → Well k → ((ss : Slots) → WellSlots ss → f ss ≡ true → g ss ≡ true) → record_below f k ≡ true → record_below g k ≡ true
case_through (recs ss) f g r w u h = u ss w.1 h
case_through k f g r w u h = untrue r

-- a case that is below a case's record
cover_through : (k j : KindData) (us : Slots) → is_record k ≡ true → Well k → below k j ≡ true → record_below (λ ts. names_among ts us && slots_below ts us) j ≡ true
    → ((ss ts : Slots) → WellSlots ss → names_among ss ts ≡ true → slots_below ss ts ≡ true → slots_below ts us ≡ true → slots_below ss us ≡ true)
    → record_below (λ ts. names_among ts us && slots_below ts us) k ≡ true
cover_through (recs ss) (recs ts) us r w h i f =
    record_through ss ts us (λ x. f ss ts w.1 (and-left (names_among ss ts) (slots_below ss ts) h) (and-right (names_among ss ts) (slots_below ss ts) h) x) (and-left (names_among ss ts) (slots_below ss ts) h) i
cover_through (recs ss) never us r w h i f = untrue h
cover_through (recs ss) j us r w h i f = untrue i
cover_through k j us r w h i f = untrue r

same_covered : (m : List ℕ) (sh : Shape) (fl : Bool) (n : List ℕ) (sj : Shape) (fm : Bool) (j : KindData) (es : Cases) → same_case m sh fl n sj fm ≡ true → is_covered n sj fm j es ≡ true → is_covered m sh fl j es ≡ true
same_covered m sh fl n sj fm j es e h = rw (case_action m sh fl n sj fm e, case_shape m sh fl n sj fm e, case_flag m sh fl n sj fm e) h

mutual
  pub through : (j k m : KindData) → Well j → below j k ≡ true → below k m ≡ true → below j m ≡ true
  through j k anything w h i = refl
  through j never m w h i = never_up j m h
  through never k m w h i = never_below m
  through nulls nulls nulls w h i = refl
  through booleans booleans booleans w h i = refl
  through ints ints ints w h i = refl
  through texts texts texts w h i = refl
  through (hosts ns) texts texts w h i = refl
  through (hosts ns) (hosts ms) texts w h i = refl
  through (hosts ns) (hosts ms) (hosts os) w h i = among_through ns ms os h i
  through (lists j n) (lists k o) (lists m p) w h i =
      and-both (nat_le n p) (below j m) (le_through n o p (and-left (nat_le n o) (below j k) h) (and-left (nat_le o p) (below k m) i))
      (through j k m w (and-right (nat_le n o) (below j k) h) (and-right (nat_le o p) (below k m) i))
  through (recs ss) (recs ts) (recs us) w h i =
      let names = and-left (names_among ss ts) (slots_below ss ts) h in
      record_through ss ts us (λ x. slots_through us ss ts w.1 names (and-right (names_among ss ts) (slots_below ss ts) h) x) names i
  through (results cs r) (recs ts) (recs us) w h i =
      all_well (λ m sh fl k. record_below (λ ss. names_among ss ts && slots_below ss ts) k) (λ m sh fl k. record_below (λ ss. names_among ss us && slots_below ss us) k) cs w.0
      (λ m sh fl k c v x. case_through k (λ ss. names_among ss ts && slots_below ss ts) (λ ss. names_among ss us && slots_below ss us) c v
      (λ ss y z. record_through ss ts us (λ q. slots_through us ss ts y (and-left (names_among ss ts) (slots_below ss ts) z) (and-right (names_among ss ts) (slots_below ss ts) z) q)
      (and-left (names_among ss ts) (slots_below ss ts) z) i) x) h
  through (results cs r) (results ds q) (recs us) w h i =
      all_well (λ m sh fl k. is_covered m sh fl k ds) (λ m sh fl k. record_below (λ ss. names_among ss us && slots_below ss us) k) cs w.0
      (λ m sh fl k c v x. covered_from m sh fl k (λ n sj fm j. record_below (λ ss. names_among ss us && slots_below ss us) j) (record_below (λ ss. names_among ss us && slots_below ss us) k) ds
      (λ n sj fm j s b y. cover_through k j us c v b y (λ ss ts z e f g. slots_through us ss ts z e f g)) i x) h
  through (results cs r) (results ds q) (results es p) w h i =
      all_well (λ m sh fl k. is_covered m sh fl k ds) (λ m sh fl k. is_covered m sh fl k es) cs w.0
      (λ m sh fl k c v x. covered_from m sh fl k (λ n sj fm j. is_covered n sj fm j es) (is_covered m sh fl k es) ds
      (λ n sj fm j s b y. covered_through m sh fl k j es v b (same_covered m sh fl n sj fm j es s y)) i x) h
  through j k m w h i = cc

  slots_through : (us ss ts : Slots) → WellSlots ss → names_among ss ts ≡ true → slots_below ss ts ≡ true → slots_below ts us ≡ true → slots_below ss us ≡ true
  slots_through no_slots ss ts w g h i = refl
  slots_through (slot n b m us) ss ts w g h i =
      let here = spot_below (λ k. below k m) b (slot_at n ts) in
      and-both (spot_below (λ k. below k m) b (slot_at n ss)) (slots_below ss us)
      (spot_through (slot_at n ss) (slot_at n ts) b m (λ j k v x y. through j k m v x y) (λ c j e. each_at (λ k. Well k) n ss c j (well_each ss w) e) (there_up n ss ts g)
      (λ a k e. slot_below n ss ts a k h e) (and-left here (slots_below ts us) i))
      (slots_through us ss ts w g h (and-right here (slots_below ts us) i))

  covered_through : (m : List ℕ) (sh : Shape) (fl : Bool) (k j : KindData) (es : Cases) → Well k → below k j ≡ true → is_covered m sh fl j es ≡ true → is_covered m sh fl k es ≡ true
  covered_through m sh fl k j no_cases w h i = untrue i
  covered_through m sh fl k j (one n sj fm e es) w h i =
      let same = same_case m sh fl n sj fm in
      ⊎_elim (λ x. or-left (same && below k e) (is_covered m sh fl k es) (and-both same (below k e) (and-left same (below j e) x) (through k j e w h (and-right same (below j e) x))))
      (λ y. or-right (same && below k e) (is_covered m sh fl k es) (covered_through m sh fl k j es w h y)) (or-cases (same && below j e) (is_covered m sh fl j es) i)
