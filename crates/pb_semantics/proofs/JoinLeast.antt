-- A join is below each kind above both.
use Rattle.std.proofs.Common.{◌≡◌, ℕ, List, Bool, true, false, not, ◌&&◌, ◌||◌, nat_le, max, ⊎_elim, ◌⊎◌, inl, inr, refl, sym, ap, ◌∙◌, arith}
use Rattle.std.proofs.lemmas.Bool.Decides.{nat_tests}
use Rattle.pb_semantics.specs.Kind.{KindData, Slots, Spot, Cases, never, nulls, booleans, ints, texts, hosts, lists, recs, results, anything, no_slots, slot, nowhere, spot, slot_at, is_there}
use Rattle.pb_semantics.specs.Below.{names_among, spot_below, record_below, below, slots_below, is_covered}
use Rattle.pb_semantics.specs.Join.{join, join_slots, join_spot}
use Rattle.pb_semantics.specs.Well.{Well, LeastAbove}
use Rattle.pb_semantics.proofs.Bools.{untrue, and-left, and-right, and-both}
use Rattle.pb_semantics.proofs.Slots.{Each, each_at, among, from_among, listed_is_there}
use Rattle.pb_semantics.proofs.PutSlots.{least_names}
use Rattle.pb_semantics.proofs.JoinSlots.{at_join}
use Rattle.pb_semantics.proofs.JoinCases.{all_add}
use Rattle.pb_semantics.proofs.JoinAbove.{cases_below}
use Rattle.pb_semantics.proofs.Order.{well_each}

abbrev JoinsLeast : KindData → Type 0
JoinsLeast k = Well k → (m h : KindData) → Well m → below k h ≡ true → below m h ≡ true → below (join k m) h ≡ true

both_presence : (a b c : Bool) → a || not c ≡ true → b || not c ≡ true → (a && b) || not c ≡ true
both_presence true b c h i = i
both_presence false b c h i = h

least_spot : (s t : Spot) (b : Bool) (h : KindData) → ((c : Bool) (j : KindData) → s ≡ spot c j → Well j) → ((c : Bool) (j : KindData) → t ≡ spot c j → Well j)
    → ((c : Bool) (j : KindData) → s ≡ spot c j → JoinsLeast j) → spot_below (λ j. below j h) b s ≡ true → spot_below (λ j. below j h) b t ≡ true → spot_below (λ j. below j h) b (join_spot s t) ≡ true
least_spot nowhere nowhere b h w v f x y = x
least_spot nowhere (spot c m) b h w v f x y = and-both (not b) (below m h) x (and-right (c || not b) (below m h) y)
least_spot (spot a k) nowhere b h w v f x y = and-both (not b) (below k h) y (and-right (a || not b) (below k h) x)
least_spot (spot a k) (spot c m) b h w v f x y =
    and-both ((a && c) || not b) (below (join k m) h) (both_presence a c b (and-left (a || not b) (below k h) x) (and-left (c || not b) (below m h) y))
    (f a k refl (w a k refl) m h (v c m refl) (and-right (a || not b) (below k h) x) (and-right (c || not b) (below m h) y))

least_slots : (us ss ts : Slots) → Each JoinsLeast ss → Well (recs ss) → Well (recs ts) → slots_below ss us ≡ true → slots_below ts us ≡ true → slots_below (join_slots ss ts) us ≡ true
least_slots no_slots ss ts e w v x y = refl
least_slots (slot n b h us) ss ts e w v x y =
    let first = spot_below (λ j. below j h) b (slot_at n ss) in
    let second = spot_below (λ j. below j h) b (slot_at n ts) in
    and-both (spot_below (λ j. below j h) b (slot_at n (join_slots ss ts))) (slots_below (join_slots ss ts) us)
    (rw (at_join n ss ts v.0) (least_spot (slot_at n ss) (slot_at n ts) b h (λ c j i. each_at (λ k. Well k) n ss c j (well_each ss w.1) i) (λ c j i. each_at (λ k. Well k) n ts c j (well_each ts v.1) i)
    (λ c j i. each_at JoinsLeast n ss c j e i) (and-left first (slots_below ss us) x) (and-left second (slots_below ts us) y)))
    (least_slots us ss ts e w v (and-right first (slots_below ss us) x) (and-right second (slots_below ts us) y))

there_either : (s t : Spot) → is_there (join_spot s t) ≡ true → (is_there s ≡ true) ⊎ (is_there t ≡ true)
there_either nowhere nowhere h = untrue h
there_either nowhere (spot b m) h = inr refl
there_either (spot a k) t h = inl refl

least_records : (ss ts us : Slots) → Each JoinsLeast ss → Well (recs ss) → Well (recs ts) → below (recs ss) (recs us) ≡ true → below (recs ts) (recs us) ≡ true → below (recs (join_slots ss ts)) (recs us) ≡ true
least_records ss ts us e w v x y =
    and-both (names_among (join_slots ss ts) us) (slots_below (join_slots ss ts) us)
    (from_among (join_slots ss ts) us (λ n h. ⊎_elim (λ p. among n ss us (and-left (names_among ss us) (slots_below ss us) x) (listed_is_there n ss ∙ p))
    (λ p. among n ts us (and-left (names_among ts us) (slots_below ts us) y) (listed_is_there n ts ∙ p))
    (there_either (slot_at n ss) (slot_at n ts) (sym (ap is_there (at_join n ss ts v.0)) ∙ sym (listed_is_there n (join_slots ss ts)) ∙ h))))
    (least_slots us ss ts e w v (and-right (names_among ss us) (slots_below ss us) x) (and-right (names_among ts us) (slots_below ts us) y))

record_result : (ss us : Slots) (ds : Cases) (q : KindData) → Each JoinsLeast ss → Well (recs ss) → Well q → LeastAbove ds q → below (recs ss) (recs us) ≡ true → below (results ds q) (recs us) ≡ true
    → below (join (recs ss) (results ds q)) (recs us) ≡ true
record_result ss us ds never e w v l x y = x
record_result ss us ds (recs ts) e w v l x y = least_records ss ts us e w v x (l.least (recs us) (cases_below ds (recs ts) us y))
record_result ss us ds q e w v l x y = untrue l.known

le_both : (n o p : ℕ) → nat_le n p ≡ true → nat_le o p ≡ true → nat_le (max n o) p ≡ true
le_both n o p h i = grind (arith, nat_tests)

least_nulls : (m h : KindData) → below nulls h ≡ true → below m h ≡ true → below (join nulls m) h ≡ true
least_nulls m anything x y = refl
least_nulls never h x y = x
least_nulls nulls h x y = x
least_nulls m h x y = cc

least_booleans : (m h : KindData) → below booleans h ≡ true → below m h ≡ true → below (join booleans m) h ≡ true
least_booleans m anything x y = refl
least_booleans never h x y = x
least_booleans booleans h x y = x
least_booleans m h x y = cc

least_ints : (m h : KindData) → below ints h ≡ true → below m h ≡ true → below (join ints m) h ≡ true
least_ints m anything x y = refl
least_ints never h x y = x
least_ints ints h x y = x
least_ints m h x y = cc

least_texts : (m h : KindData) → below texts h ≡ true → below m h ≡ true → below (join texts m) h ≡ true
least_texts m anything x y = refl
least_texts never h x y = x
least_texts texts h x y = x
least_texts (hosts ms) h x y = x
least_texts m h x y = cc

least_hosts : (ns : List (List ℕ)) (m h : KindData) → below (hosts ns) h ≡ true → below m h ≡ true → below (join (hosts ns) m) h ≡ true
least_hosts ns m anything x y = refl
least_hosts ns never h x y = x
least_hosts ns texts h x y = y
least_hosts ns (hosts ms) texts x y = refl
least_hosts ns (hosts ms) (hosts os) x y = least_names ns ms os x y
least_hosts ns m h x y = cc

least_lists : (k : KindData) (n : ℕ) (m h : KindData) → JoinsLeast k → Well k → Well m → below (lists k n) h ≡ true → below m h ≡ true → below (join (lists k n) m) h ≡ true
least_lists k n m anything f w v x y = refl
least_lists k n never h f w v x y = x
least_lists k n (lists m o) (lists h p) f w v x y =
    and-both (nat_le (max n o) p) (below (join k m) h) (le_both n o p (and-left (nat_le n p) (below k h) x) (and-left (nat_le o p) (below m h) y))
    (f w m h v (and-right (nat_le n p) (below k h) x) (and-right (nat_le o p) (below m h) y))
least_lists k n m h f w v x y = cc

least_recs : (ss : Slots) (m h : KindData) → Each JoinsLeast ss → Well (recs ss) → Well m → below (recs ss) h ≡ true → below m h ≡ true → below (join (recs ss) m) h ≡ true
least_recs ss m anything e w v x y = refl
least_recs ss never h e w v x y = x
least_recs ss (recs ts) (recs us) e w v x y = least_records ss ts us e w v x y
least_recs ss (results ds q) (recs us) e w v x y = record_result ss us ds q e w v.1 v.2 x y
least_recs ss m h e w v x y = cc

least_results : (cs : Cases) (r m h : KindData) → JoinsLeast r → Well (results cs r) → Well m → below (results cs r) h ≡ true → below m h ≡ true → below (join (results cs r) m) h ≡ true
least_results cs r m anything f w v x y = refl
least_results cs r never h f w v x y = x
least_results cs r (recs ts) (recs us) f w v x y = f w.1 (recs ts) (recs us) v (w.2.least (recs us) (cases_below cs r us x)) y
least_results cs r (results ds q) (recs us) f w v x y = all_add (λ m sh fl k. record_below (λ ss. names_among ss us && slots_below ss us) k) cs ds x y
least_results cs r (results ds q) (results es p) f w v x y = all_add (λ m sh fl k. is_covered m sh fl k es) cs ds x y
least_results cs r m h f w v x y = cc

least_anything : (m h : KindData) → below anything h ≡ true → below m h ≡ true → below (join anything m) h ≡ true
least_anything never h x y = x
least_anything m h x y = x

mutual
  pub least_join : (k : KindData) → Well k → (m h : KindData) → Well m → below k h ≡ true → below m h ≡ true → below (join k m) h ≡ true
  least_join never w m h v x y = y
  least_join nulls w m h v x y = least_nulls m h x y
  least_join booleans w m h v x y = least_booleans m h x y
  least_join ints w m h v x y = least_ints m h x y
  least_join texts w m h v x y = least_texts m h x y
  least_join (hosts ns) w m h v x y = least_hosts ns m h x y
  least_join (lists k n) w m h v x y = least_lists k n m h (λ a b c d e f. least_join k a b c d e f) w v x y
  least_join (recs ss) w m h v x y = least_recs ss m h (least_each ss) w v x y
  least_join (results cs r) w m h v x y = least_results cs r m h (λ a b c d e f. least_join r a b c d e f) w v x y
  least_join anything w m h v x y = least_anything m h x y

  least_each : (ss : Slots) → Each JoinsLeast ss
  least_each no_slots = tt
  least_each (slot n a k ss) = (λ w m h v x y. least_join k w m h v x y, least_each ss)

pub joins_least : (k m h : KindData) → Well k → Well m → below k h ≡ true → below m h ≡ true → below (join k m) h ≡ true
joins_least k m h w v x y = least_join k w m h v x y
