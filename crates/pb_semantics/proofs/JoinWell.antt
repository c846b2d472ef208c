-- A join of well formed kinds is well formed.
use Rattle.std.proofs.Common.{◌≡◌, true, refl}
use Rattle.pb_semantics.specs.Kind.{KindData, Slots, Cases, never, nulls, booleans, ints, texts, hosts, lists, recs, results, anything, no_slots, slot}
use Rattle.pb_semantics.specs.Below.{below}
use Rattle.pb_semantics.specs.Join.{join, add_cases}
use Rattle.pb_semantics.specs.Well.{Well, WellCases, LeastAbove, is_record_or_never}
use Rattle.pb_semantics.proofs.Bools.{untrue}
use Rattle.pb_semantics.proofs.Slots.{Each}
use Rattle.pb_semantics.proofs.JoinSlots.{JoinsWell, once_join, well_join_slots}
use Rattle.pb_semantics.proofs.JoinCases.{all_add, first_below, second_below, well_add}
use Rattle.pb_semantics.proofs.JoinAbove.{above_join, below_all}
use Rattle.pb_semantics.proofs.JoinLeast.{least_join}

known_join : (r q : KindData) → is_record_or_never r ≡ true → is_record_or_never q ≡ true → is_record_or_never (join r q) ≡ true
known_join never q h i = i
known_join (recs ss) never h i = refl
known_join (recs ss) (recs ts) h i = refl
known_join (recs ss) q h i = untrue i
known_join r q h i = untrue h

-- what is known of all cases of both
least_of_both : (cs ds : Cases) (r q : KindData) → WellCases cs → WellCases ds → Well r → Well q → LeastAbove cs r → LeastAbove ds q → LeastAbove (add_cases cs ds) (join r q)
least_of_both cs ds r q c d w v l m =
    let both = above_join r w q v in
    record {
      known = known_join r q l.known m.known;
      above = all_add (λ m sh fl k. below k (join r q)) cs ds (below_all cs r (join r q) c l.above both.0) (below_all ds q (join r q) d m.above both.1);
      least = λ h x. least_join r w q h v (l.least h (first_below h cs ds x)) (m.least h (second_below h cs ds d x));
    }

mutual
  pub well_join : (k : KindData) → Well k → (m : KindData) → Well m → Well (join k m)
  well_join never w m v = v
  well_join (lists k n) w never v = w
  well_join (lists k n) w (lists m o) v = well_join k w m v
  well_join (recs ss) w never v = w
  well_join (recs ss) w (recs ts) v = (once_join ss ts w.0 v.0, well_join_slots ss ts (well_each_join ss) w.1 v.1)
  well_join (recs ss) w (results ds never) v = w
  well_join (recs ss) w (results ds (recs ts)) v = (once_join ss ts w.0 v.1.0, well_join_slots ss ts (well_each_join ss) w.1 v.1.1)
  well_join (results cs r) w never v = w
  well_join (results cs r) w (recs ts) v = well_join r w.1 (recs ts) v
  well_join (results cs r) w (results ds q) v = (well_add cs ds w.0 v.0, well_join r w.1 q v.1, least_of_both cs ds r q w.0 v.0 w.1 v.1 w.2 v.2)
  well_join nulls w nulls v = tt
  well_join booleans w booleans v = tt
  well_join ints w ints v = tt
  well_join texts w texts v = tt
  well_join (hosts ns) w texts v = tt
  well_join anything w anything v = tt
  well_join k w m v = tt

  well_each_join : (ss : Slots) → Each JoinsWell ss
  well_each_join no_slots = tt
  well_each_join (slot n a k ss) = (λ w m v. well_join k w m v, well_each_join ss)

pub joins_well : (k m : KindData) → Well k → Well m → Well (join k m)
joins_well k m w v = well_join k w m v
