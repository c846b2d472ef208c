-- Views go up with what is written, and whether writes are below a view is the same both ways.
use Rattle.std.proofs.Common.{◌≡◌, true, false, ◌&&◌, refl, ap, ◌∙◌}
use Rattle.pb_semantics.specs.Kind.{KindData, Slots, Spot, recs, nowhere, spot, slot_at}
use Rattle.pb_semantics.specs.Below.{below}
use Rattle.pb_semantics.specs.Join.{join}
use Rattle.pb_semantics.specs.Well.{Well}
use Rattle.pb_semantics.proofs.Bools.{untrue, same_tests}
use Rattle.pb_semantics.proofs.Through.{through}
use Rattle.pb_semantics.proofs.JoinAbove.{joins_above}
use Rattle.pb_language.specs.Scope.{spot_kind, with_spot}
use Rattle.pb_language.specs.Cases.{Sets, no_sets, sets}
use Rattle.pb_language.specs.Tables.{written_spot, with_writes, writes_below}
use Rattle.pb_language.specs.Wells.{WellSpot, WellSets}
use Rattle.pb_language.specs.Ordered.{SpotLe, SlotsLe, SetsLe}
use Rattle.pb_language.proofs.WellKinds.{well_slot}
use Rattle.pb_language.proofs.Taught.{well_with_spot}
use Rattle.pb_language.proofs.Rounds.{written_well}
use Rattle.pb_language.proofs.Spots.{join_up, path_le}
use Rattle.pb_language.proofs.ChangesUp.{spots_put}

written_up : (s t : Spot) (k m : KindData) → WellSpot s → WellSpot t → Well k → Well m → SpotLe s t → below k m ≡ true → SpotLe (written_spot s k) (written_spot t m)
written_up nowhere nowhere k m w v a b l h = (refl, h)
written_up nowhere (spot q j) k m w v a b l h = (l, through k m (join j m) a h (joins_above j m v b).1)
written_up (spot p i) nowhere k m w v a b l h = untrue l
written_up (spot p i) (spot q j) k m w v a b l h = (l.0, join_up i k j m w a v b l.1 h)

always_written : (s : Spot) (k : KindData) (t : Spot) → written_spot s k ≡ nowhere → t ≡ nowhere
always_written nowhere k t e = let x : spot false k ≡ nowhere = e in absurd (cc)
always_written (spot p i) k t e = let x : spot p (join i k) ≡ nowhere = e in absurd (cc)

pub writes_up : (r s : Sets) (ss ts : Slots) → WellSets r → WellSets s → Well (recs ss) → Well (recs ts) → SetsLe r s → SlotsLe ss ts → SlotsLe (with_writes r ss) (with_writes s ts)
writes_up no_sets no_sets ss ts a b w v x l = l
writes_up no_sets (sets m e j s) ss ts a b w v x l = untrue x
writes_up (sets n d k r) no_sets ss ts a b w v x l = untrue x
writes_up (sets n d k r) (sets m e j s) ss ts a b w v x l =
    let y = written_spot (slot_at n ss) k in
    let z = written_spot (slot_at n ts) j in
    let put : SlotsLe (with_spot n y ss) (with_spot n z ts) =
    spots_put n y z ss ts (λ e. always_written (slot_at n ss) k (slot_at n ss) e) (λ e. always_written (slot_at n ts) j (slot_at n ts) e)
    (written_up (slot_at n ss) (slot_at n ts) k j (well_slot n ss w.1) (well_slot n ts v.1) a.0 b.0 (l.at n) x.2) l in
    rw (← x.0) (writes_up r s (with_spot n y ss) (with_spot n z ts) a.1 b.1 (well_with_spot n y ss (written_well (slot_at n ss) k (well_slot n ss w.1) a.0) w)
    (well_with_spot n z ts (written_well (slot_at n ts) j (well_slot n ts v.1) b.0) v) x.3 put)

below_here : (k m i j : KindData) → Well k → Well m → below k m ≡ true → below m k ≡ true → below i j ≡ true → below j i ≡ true → below k i ≡ below m j
below_here k m i j w v x y z u = same_tests (below k i) (below m j) (λ a. through m i j v (through m k i v y a) z) (λ a. through k j i w (through k m j w x a) u)

pub below_both : (r s : Sets) (ss ts : Slots) → WellSets r → WellSets s → SetsLe r s × SetsLe s r → SlotsLe ss ts × SlotsLe ts ss → writes_below r ss ≡ writes_below s ts
below_both no_sets no_sets ss ts a b x l = refl
below_both no_sets (sets m e j s) ss ts a b x l = untrue x.0
below_both (sets n d k r) no_sets ss ts a b x l = untrue x.0
below_both (sets n d k r) (sets m e j s) ss ts a b x l =
    let p = (path_le (slot_at n ss) (slot_at n ts) (l.0.at n)).0 in
    let q = (path_le (slot_at n ts) (slot_at n ss) (l.1.at n)).0 in
    let here : below k (spot_kind (slot_at n ss)) ≡ below j (spot_kind (slot_at n ts)) = below_here k j (spot_kind (slot_at n ss)) (spot_kind (slot_at n ts)) a.0 b.0 x.0.2 x.1.2 p q in
    rw (← x.0.0) (ap (λ z. z && writes_below r ss) here ∙ ap (λ z. below j (spot_kind (slot_at n ts)) && z) (below_both r s ss ts a.1 b.1 (x.0.3, x.1.3) l))
