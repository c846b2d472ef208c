-- A result that is written once, of the kind that it has in either way, as both kinds are written.
use Rattle.std.proofs.Common.{◌≡◌, Bool, true, false, ◌&&◌, cond, bytes_eq, Option, Some, None, refl, sym, ap, ap₂, subst, ◌∙◌}
use Rattle.pb_semantics.specs.Kind.{KindData, Slots, Spot, recs, nowhere, spot, slot_at}
use Rattle.pb_semantics.specs.Below.{below}
use Rattle.pb_semantics.specs.Join.{join}
use Rattle.pb_semantics.specs.Well.{Well}
use Rattle.pb_semantics.proofs.Bools.{and-both, and-left, and-right, own_presence}
use Rattle.pb_semantics.proofs.JoinAbove.{joins_above}
use Rattle.pb_semantics.proofs.JoinLeast.{joins_least}
use Rattle.pb_semantics.proofs.JoinWell.{joins_well}
use Rattle.pb_semantics.proofs.Names.{own_name}
use Rattle.pb_semantics.proofs.Order.{own_below}
use Rattle.pb_semantics.proofs.Through.{through}
use Rattle.pb_language.specs.Cases.{Sets, append_sets, no_sets, sets}
use Rattle.pb_language.specs.Expression.{Name}
use Rattle.pb_language.specs.Ordered.{SpotLe}
use Rattle.pb_language.specs.Scope.{spot_kind, with_spot}
use Rattle.pb_language.specs.Tables.{with_writes, written_spot}
use Rattle.pb_language.specs.Wells.{WellSets, WellSpot}
use Rattle.pb_language.proofs.Rounds.{writes_well}
use Rattle.pb_language.proofs.WellKinds.{well_slot}
use Rattle.pb_route.proofs.Sets.{append_sets-none}
use Rattle.pb_visit.specs.Visits.{IsEither, registered}
use Rattle.pb_walks.specs.Agree.{SlotsAgree}
use Rattle.pb_walks.proofs.Agreeing.{slots_own, slots_through}
use Rattle.pb_find.specs.Written.{Written}
use Rattle.pb_find.specs.declared.find.Find.{Find}
use Rattle.pb_find.proofs.Grows.{at_write}
use Rattle.pb_find.proofs.Writes.{and_again, and_true, next_of}

abbrev Both : Spot → Spot → Type 0
Both s t = SpotLe s t × SpotLe t s

either_spot : (q : Bool) (s t u : Spot) → Both s t → Both u u → Both (cond q s u) (cond q t u)
either_spot true s t u b o = b
either_spot false s t u b o = o

same_twice : (q : Bool) (s t u : Spot) → cond q s (cond q t u) ≡ cond q s u
same_twice true s t u = refl
same_twice false s t u = refl

-- a kind that is below what both are below, in place of both
module _ (j k m : KindData) (wj : Well j) (wk : Well k) (wm : Well m) (e : (h : KindData) → below m h ≡ below j h && below k h) where
  first_below : below j m ≡ true
  first_below = and-left (below j m) (below k m) (sym (e m) ∙ own_below m wm)

  second_below : below k m ≡ true
  second_below = and-right (below j m) (below k m) (sym (e m) ∙ own_below m wm)

  up_to : (h : KindData) → below j h ≡ true → below k h ≡ true → below m h ≡ true
  up_to h a b = e h ∙ and-both (below j h) (below k h) a b

  -- of a spot, once that is written and once the two are
  spot_either : (s : Spot) → WellSpot s → Both (written_spot s m) (written_spot (written_spot s j) k)
  spot_either nowhere w =
      let up = joins_above j k wj wk in
      ((refl, up_to (join j k) up.0 up.1), (refl, joins_least j k m wj wk first_below second_below))
  spot_either (spot a i) w =
      let one = join i j in
      let two = join one k in
      let w1 = joins_well i j w wj in
      let all = joins_above i m w wm in
      let first = joins_above i j w wj in
      let both = joins_above one k w1 wk in
      let u = join i m in
      let wu = joins_well i m w wm in
      let w2 = joins_well one k w1 wk in (
        (own_presence a, joins_least i m two w wm (through i one two w first.0 both.0) (up_to two (through j one two wj first.1 both.0) both.1)),
        (own_presence a, joins_least one k u w1 wk (joins_least i j u w wj all.0 (through j m u wj first_below all.1)) (through k m u wk second_below all.1)),
      )

  module _ (n : Name) (ss : Slots) (w : Well (recs ss)) where
    abbrev here : Spot
    here = slot_at n ss

    abbrev once : Slots
    once = with_spot n (written_spot here m) ss

    abbrev one : Slots
    one = with_spot n (written_spot here j) ss

    abbrev twice : Slots
    twice = with_spot n (written_spot (slot_at n one) k) one

    one_there : slot_at n one ≡ written_spot here j
    one_there = at_write n j ss wj w n ∙ ap (λ q. cond q (written_spot here j) here) (own_name n)

    well_one : Well (recs one)
    well_one = writes_well (sets n true j no_sets) ss (wj, tt) w

    at_twice : (p : Name) → slot_at p twice ≡ cond (bytes_eq p n) (written_spot (written_spot here j) k) (slot_at p ss)
    at_twice p =
        at_write n k one wk well_one p
        ∙ ap₂ (λ s t. cond (bytes_eq p n) (written_spot s k) t) one_there (at_write n j ss wj w p)
        ∙ same_twice (bytes_eq p n) (written_spot (written_spot here j) k) (written_spot here j) (slot_at p ss)

    both_at : (p : Name) → Both (slot_at p once) (slot_at p twice)
    both_at p =
        rw (at_write n m ss wm w p) (rw (at_twice p)
        (either_spot (bytes_eq p n) (written_spot here m) (written_spot (written_spot here j) k) (slot_at p ss) (spot_either here (well_slot n ss w.1))
        ((slots_own ss w).0.at p, (slots_own ss w).0.at p)))

    once_as_twice : SlotsAgree once twice
    once_as_twice = (record { at = λ p. (both_at p).0 }, record { at = λ p. (both_at p).1 })

  written_once : (n : Name) (view : Slots) (f g : Find) → Well (recs (next_of f)) → Written (sets n true m no_sets) view f g → Written (sets n true j (sets n true k no_sets)) view f g
  written_once n view f g w x =
      let ss = next_of f in
      let s = spot_kind (slot_at n view) in
      record {
        fault = x.fault;
        next = slots_through (next_of g) (once n ss w) (twice n ss w) x.well (writes_well (sets n true m no_sets) ss (wm, tt) w) (writes_well (sets n true j (sets n true k no_sets)) ss (wj, (wk, tt)) w) x.next (once_as_twice n ss w);
        well = x.well;
        settled = x.settled ∙ ap (λ q. f.is_settled && q) (ap (λ q. q && true) (e s) ∙ and_again (below j s) (below k s) true);
        same = x.same;
      }

-- what is registered in either way
pub either_written : (n : Option Name) (a b o : Option KindData) (view : Slots) (f g : Find) → IsEither a b o → WellSets (append_sets (registered n a) (registered n b)) → Well (recs (next_of f)) → Written (registered n o) view f g
    → Written (append_sets (registered n a) (registered n b)) view f g
either_written n None b o view f g e u w x = subst (λ p. Written (registered n p) view f g) e x
either_written n (Some j) None o view f g e u w x = rw (append_sets-none (registered n (Some j))) (subst (λ p. Written (registered n p) view f g) e x)
either_written n (Some j) (Some k) None view f g e u w x = absurd e
either_written None (Some j) (Some k) (Some m) view f g e u w x = x
either_written (Some n) (Some j) (Some k) (Some m) view f g e u w x = written_once j k m u.0 u.1.0 e.0 e.1 n view f g w x

-- and it is well formed
pub either_well : (n : Option Name) (a b o : Option KindData) → IsEither a b o → WellSets (append_sets (registered n a) (registered n b)) → WellSets (registered n o)
either_well n None b o e u = subst (λ p. WellSets (registered n p)) (sym e) u
either_well n (Some j) None o e u = subst (λ p. WellSets (registered n p)) (sym e) (subst (λ r. WellSets r) (append_sets-none (registered n (Some j))) u)
either_well n (Some j) (Some k) None e u = absurd e
either_well None (Some j) (Some k) (Some m) e u = tt
either_well (Some n) (Some j) (Some k) (Some m) e u = (e.0, tt)

pub append_again : (r s t : Sets) → append_sets (append_sets r s) t ≡ append_sets r (append_sets s t)
append_again no_sets s t = refl
append_again (sets n a k r) s t = ap (sets n a k) (append_again r s t)
