-- Variables that one of two environments knows are known where the two meet.
use Rattle.std.proofs.Common.{◌≡◌, List, ℕ, Bool, true, false, not, ◌&&◌, Option, Some, None, refl}
use Rattle.pb_semantics.specs.Data.{Data, Fields, field_value}
use Rattle.pb_semantics.specs.Kind.{KindData, Slots, Spot, recs, nowhere, spot, slot_at}
use Rattle.pb_semantics.specs.Keeps.{spot_ok, Models}
use Rattle.pb_semantics.specs.Join.{join, join_slots, join_spot}
use Rattle.pb_semantics.specs.Well.{Well}
use Rattle.pb_semantics.proofs.Bools.{untrue}
use Rattle.pb_semantics.proofs.Slots.{each_at}
use Rattle.pb_semantics.proofs.Order.{well_each}
use Rattle.pb_semantics.proofs.KeepsUp.{keeps_up}
use Rattle.pb_semantics.proofs.JoinSlots.{at_join}
use Rattle.pb_semantics.proofs.JoinAbove.{above_join}

not-first : (a b : Bool) → not a ≡ true → not (a && b) ≡ true
not-first true b h = untrue h
not-first false b h = refl

not-second : (a b : Bool) → not b ≡ true → not (a && b) ≡ true
not-second true b h = h
not-second false b h = refl

abbrev WellSpot : Spot → Type 0
WellSpot s = (b : Bool) (m : KindData) → s ≡ spot b m → Well m

first_ok : (o : Option Data) (s t : Spot) → WellSpot s → WellSpot t → spot_ok o s ≡ true → spot_ok o (join_spot s t) ≡ true
first_ok None nowhere nowhere w v h = refl
first_ok None nowhere (spot b m) w v h = refl
first_ok None (spot a k) nowhere w v h = refl
first_ok None (spot a k) (spot b m) w v h = not-first a b h
first_ok (Some d) nowhere t w v h = untrue h
first_ok (Some d) (spot a k) nowhere w v h = h
first_ok (Some d) (spot a k) (spot b m) w v h = keeps_up d k (join k m) (above_join k (w a k refl) m (v b m refl)).0 h

second_ok : (o : Option Data) (s t : Spot) → WellSpot s → WellSpot t → spot_ok o t ≡ true → spot_ok o (join_spot s t) ≡ true
second_ok None nowhere nowhere w v h = refl
second_ok None nowhere (spot b m) w v h = refl
second_ok None (spot a k) nowhere w v h = refl
second_ok None (spot a k) (spot b m) w v h = not-second a b h
second_ok (Some d) s nowhere w v h = untrue h
second_ok (Some d) nowhere (spot b m) w v h = h
second_ok (Some d) (spot a k) (spot b m) w v h = keeps_up d m (join k m) (above_join k (w a k refl) m (v b m refl)).1 h

pub meet_models : (fs : Fields) (ss ts : Slots) → Well (recs ss) → Well (recs ts) → (Models fs ss → Models fs (join_slots ss ts)) × (Models fs ts → Models fs (join_slots ss ts))
meet_models fs ss ts w v =
    let wells = λ (n : List ℕ) (c : Bool) (j : KindData) (i : slot_at n ss ≡ spot c j). each_at (λ k. Well k) n ss c j (well_each ss w.1) i in
    let others = λ (n : List ℕ) (c : Bool) (j : KindData) (i : slot_at n ts ≡ spot c j). each_at (λ k. Well k) n ts c j (well_each ts v.1) i in (
      λ m. record { at = λ n. rw (at_join n ss ts v.0) (first_ok (field_value n fs) (slot_at n ss) (slot_at n ts) (wells n) (others n) (m.at n)) },
      λ m. record { at = λ n. rw (at_join n ss ts v.0) (second_ok (field_value n fs) (slot_at n ss) (slot_at n ts) (wells n) (others n) (m.at n)) },
    )
