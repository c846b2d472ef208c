-- A join is above both.
use Rattle.std.proofs.Common.{◌≡◌, ℕ, List, Bool, true, false, not, ◌&&◌, ◌||◌, nat_le, max, refl, sym, ap, ◌∙◌, arith}
use Rattle.std.proofs.lemmas.Bool.Decides.{nat_tests}
use Rattle.std.proofs.Math.Nat.{le-max_left, le-max_right}
use Rattle.pb_semantics.specs.Kind.{KindData, Slots, Spot, Cases, never, nulls, booleans, ints, texts, hosts, lists, recs, results, no_slots, slot, nowhere, spot, slot_at, is_there}
use Rattle.pb_semantics.specs.Below.{names_among, spot_below, all_cases, record_below, below, slots_below}
use Rattle.pb_semantics.specs.Join.{join, join_slots, join_spot}
use Rattle.pb_semantics.specs.Well.{Well, WellCases, LeastAbove, is_record}
use Rattle.pb_semantics.proofs.Bools.{untrue, and-both, or-right}
use Rattle.pb_semantics.proofs.Hosts.{own_among}
use Rattle.pb_semantics.proofs.Slots.{Each, each_at, from_among, from_slots, listed_is_there}
use Rattle.pb_semantics.proofs.PutSlots.{first_names, second_names}
use Rattle.pb_semantics.proofs.JoinSlots.{at_join, once_join}
use Rattle.pb_semantics.proofs.JoinCases.{first_cases, second_cases}
use Rattle.pb_semantics.proofs.Order.{own_below, own_cases, well_each, all_from}
use Rattle.pb_semantics.proofs.Through.{through, never_below, all_well}

-- a result is below a record that each case's record is below
pub result_below : (cs : Cases) (r : KindData) (us : Slots) → WellCases cs → all_cases (λ m sh fl k. below k (recs us)) cs ≡ true → below (results cs r) (recs us) ≡ true
result_below cs r us w h =
    all_well (λ m sh fl k. below k (recs us)) (λ m sh fl k. record_below (λ ss. names_among ss us && slots_below ss us) k) cs w (λ m sh fl k c v x. a_record k us c x) h where
      a_record : (k : KindData) (us : Slots) → is_record k ≡ true → below k (recs us) ≡ true → record_below (λ ss. names_among ss us && slots_below ss us) k ≡ true
      a_record (recs ss) us c x = x
      a_record k us c x = untrue c

-- and each case's record is below what the result is below
pub cases_below : (cs : Cases) (r : KindData) (us : Slots) → below (results cs r) (recs us) ≡ true → all_cases (λ m sh fl k. below k (recs us)) cs ≡ true
cases_below cs r us h =
    all_from (λ m sh fl k. record_below (λ ss. names_among ss us && slots_below ss us) k) (λ m sh fl k. below k (recs us)) cs (λ m sh fl k x. a_record k us x) h where
      a_record : (k : KindData) (us : Slots) → record_below (λ ss. names_among ss us && slots_below ss us) k ≡ true → below k (recs us) ≡ true
      a_record never us x = refl
      a_record (recs ss) us x = x
      a_record k us x = untrue x

pub below_all : (cs : Cases) (r h : KindData) → WellCases cs → all_cases (λ m sh fl k. below k r) cs ≡ true → below r h ≡ true → all_cases (λ m sh fl k. below k h) cs ≡ true
below_all cs r h w a b = all_well (λ m sh fl k. below k r) (λ m sh fl k. below k h) cs w (λ m sh fl k c v x. through k r h v x b) a

abbrev pub JoinsAbove : KindData → Type 0
JoinsAbove k = Well k → (m : KindData) → Well m → (below k (join k m) ≡ true) × (below m (join k m) ≡ true)

left_presence : (a b : Bool) → a || not (a && b) ≡ true
left_presence true b = refl
left_presence false b = refl

right_presence : (a b : Bool) → b || not (a && b) ≡ true
right_presence true true = refl
right_presence true false = refl
right_presence false true = refl
right_presence false false = refl

-- what is known of a name, below what else is known
abbrev spot_under : Spot → Spot → Bool
spot_under s nowhere = true
spot_under s (spot b m) = spot_below (λ j. below j m) b s

first_spot : (s t : Spot) → ((c : Bool) (j : KindData) → s ≡ spot c j → Well j) → ((c : Bool) (j : KindData) → t ≡ spot c j → Well j) → ((c : Bool) (j : KindData) → s ≡ spot c j → JoinsAbove j)
    → spot_under s (join_spot s t) ≡ true
first_spot nowhere nowhere w v f = refl
first_spot nowhere (spot b m) w v f = refl
first_spot (spot a k) nowhere w v f = and-both (a || not false) (below k k) (or-right a (not false) refl) (own_below k (w a k refl))
first_spot (spot a k) (spot b m) w v f = and-both (a || not (a && b)) (below k (join k m)) (left_presence a b) (f a k refl (w a k refl) m (v b m refl)).0

second_spot : (s t : Spot) → ((c : Bool) (j : KindData) → s ≡ spot c j → Well j) → ((c : Bool) (j : KindData) → t ≡ spot c j → Well j) → ((c : Bool) (j : KindData) → s ≡ spot c j → JoinsAbove j)
    → spot_under t (join_spot s t) ≡ true
second_spot nowhere nowhere w v f = refl
second_spot nowhere (spot b m) w v f = and-both (b || not false) (below m m) (or-right b (not false) refl) (own_below m (v b m refl))
second_spot (spot a k) nowhere w v f = refl
second_spot (spot a k) (spot b m) w v f = and-both (b || not (a && b)) (below m (join k m)) (right_presence a b) (f a k refl (w a k refl) m (v b m refl)).1

there_first : (s t : Spot) → is_there s ≡ true → is_there (join_spot s t) ≡ true
there_first nowhere t h = untrue h
there_first (spot a k) nowhere h = refl
there_first (spot a k) (spot b m) h = refl

there_second : (s t : Spot) → is_there t ≡ true → is_there (join_spot s t) ≡ true
there_second s nowhere h = untrue h
there_second nowhere (spot b m) h = refl
there_second (spot a k) (spot b m) h = refl

pub records_above : (ss ts : Slots) → Each JoinsAbove ss → Well (recs ss) → Well (recs ts) → (below (recs ss) (recs (join_slots ss ts)) ≡ true) × (below (recs ts) (recs (join_slots ss ts)) ≡ true)
records_above ss ts e w v =
    let us = join_slots ss ts in
    let once = once_join ss ts w.0 v.0 in
    let wells = λ (n : List ℕ) (c : Bool) (j : KindData) (i : slot_at n ss ≡ spot c j). each_at (λ k. Well k) n ss c j (well_each ss w.1) i in
    let others = λ (n : List ℕ) (c : Bool) (j : KindData) (i : slot_at n ts ≡ spot c j). each_at (λ k. Well k) n ts c j (well_each ts v.1) i in
    let joins = λ (n : List ℕ) (c : Bool) (j : KindData) (i : slot_at n ss ≡ spot c j). each_at JoinsAbove n ss c j e i in (
      and-both (names_among ss us) (slots_below ss us)
          (from_among ss us (λ n h. listed_is_there n us ∙ ap is_there (at_join n ss ts v.0) ∙ there_first (slot_at n ss) (slot_at n ts) (sym (listed_is_there n ss) ∙ h)))
          (from_slots ss us once (λ n b m i. rw (sym (at_join n ss ts v.0) ∙ i) at (first_spot (slot_at n ss) (slot_at n ts) (wells n) (others n) (joins n)))),
      and-both (names_among ts us) (slots_below ts us)
          (from_among ts us (λ n h. listed_is_there n us ∙ ap is_there (at_join n ss ts v.0) ∙ there_second (slot_at n ss) (slot_at n ts) (sym (listed_is_there n ts) ∙ h)))
          (from_slots ts us once (λ n b m i. rw (sym (at_join n ss ts v.0) ∙ i) at (second_spot (slot_at n ss) (slot_at n ts) (wells n) (others n) (joins n)))),
    )

-- a record and a result
record_result : (ss : Slots) (ds : Cases) (q : KindData) → Each JoinsAbove ss → Well (recs ss) → WellCases ds → Well q → LeastAbove ds q
    → (below (recs ss) (join (recs ss) (results ds q)) ≡ true) × (below (results ds q) (join (recs ss) (results ds q)) ≡ true)
record_result ss ds never e w c v l = (own_below (recs ss) w, result_below ds never ss c (below_all ds never (recs ss) c l.above refl))
record_result ss ds (recs ts) e w c v l =
    let both = records_above ss ts e w v in
    (both.0, result_below ds (recs ts) (join_slots ss ts) c (below_all ds (recs ts) (recs (join_slots ss ts)) c l.above both.1))
record_result ss ds q e w c v l = untrue l.known

result_record : (cs : Cases) (r : KindData) (ts : Slots) → JoinsAbove r → WellCases cs → Well r → LeastAbove cs r → Well (recs ts)
    → (below (results cs r) (join r (recs ts)) ≡ true) × (below (recs ts) (join r (recs ts)) ≡ true)
result_record cs never ts f c w l v = (result_below cs never ts c (below_all cs never (recs ts) c l.above refl), own_below (recs ts) v)
result_record cs (recs ss) ts f c w l v =
    let both = f w (recs ts) v in
    (result_below cs (recs ss) (join_slots ss ts) c (below_all cs (recs ss) (recs (join_slots ss ts)) c l.above both.0), both.1)
result_record cs r ts f c w l v = untrue l.known

le_first : (n o : ℕ) → nat_le n (max n o) ≡ true
le_first n o = grind (arith, nat_tests, le-max_left)

le_second : (n o : ℕ) → nat_le o (max n o) ≡ true
le_second n o = grind (arith, nat_tests, le-max_right)

mutual
  pub above_join : (k : KindData) → Well k → (m : KindData) → Well m → (below k (join k m) ≡ true) × (below m (join k m) ≡ true)
  above_join never w m v = (never_below m, own_below m v)
  above_join nulls w never v = (refl, refl)
  above_join nulls w nulls v = (refl, refl)
  above_join booleans w never v = (refl, refl)
  above_join booleans w booleans v = (refl, refl)
  above_join ints w never v = (refl, refl)
  above_join ints w ints v = (refl, refl)
  above_join texts w never v = (refl, refl)
  above_join texts w texts v = (refl, refl)
  above_join texts w (hosts ms) v = (refl, refl)
  above_join (hosts ns) w never v = (own_among ns, refl)
  above_join (hosts ns) w texts v = (refl, refl)
  above_join (hosts ns) w (hosts ms) v = (first_names ns ms, second_names ns ms)
  above_join (lists k n) w never v = (own_below (lists k n) w, refl)
  above_join (lists k n) w (lists m o) v =
      let both = above_join k w m v in
      (and-both (nat_le n (max n o)) (below k (join k m)) (le_first n o) both.0, and-both (nat_le o (max n o)) (below m (join k m)) (le_second n o) both.1)
  above_join (recs ss) w never v = (own_below (recs ss) w, refl)
  above_join (recs ss) w (recs ts) v = records_above ss ts (above_each ss) w v
  above_join (recs ss) w (results ds q) v = record_result ss ds q (above_each ss) w v.0 v.1 v.2
  above_join (results cs r) w never v = (own_below (results cs r) w, refl)
  above_join (results cs r) w (recs ts) v = result_record cs r ts (λ x m y. above_join r x m y) w.0 w.1 w.2 v
  above_join (results cs r) w (results ds q) v = (first_cases cs ds (own_cases cs w.0), second_cases cs ds (own_cases ds v.0))
  above_join k w m v = (refl, refl)

  above_each : (ss : Slots) → Each JoinsAbove ss
  above_each no_slots = tt
  above_each (slot n a k ss) = (λ w m v. above_join k w m v, above_each ss)

pub joins_above : (k m : KindData) → Well k → Well m → (below k (join k m) ≡ true) × (below m (join k m) ≡ true)
joins_above k m w v = above_join k w m v
