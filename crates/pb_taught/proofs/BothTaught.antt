-- What two ways both teach of variables, put in one after the other.
use Rattle.std.proofs.Common.{◌≡◌, Bool, true, false, ◌&&◌, cond, bytes_eq, refl, sym, ap, subst, ◌∙◌}
use Rattle.pb_semantics.specs.Kind.{KindData, Slots, Spot, no_slots, slot, nowhere, spot, slot_at, put_slot}
use Rattle.pb_semantics.specs.Join.{join}
use Rattle.pb_semantics.proofs.Ascents.{Ascend, Before, ascend_put, before_unlisted, same_slots}
use Rattle.pb_semantics.proofs.Names.{same_name}
use Rattle.pb_semantics.proofs.PutSlots.{at_put}
use Rattle.pb_language.specs.Expression.{Name}
use Rattle.pb_language.specs.Scope.{both_slots, taught_spot, with_both_spots}
use Rattle.pb_language.proofs.Scopes.{at_both, both_spot}
use Rattle.pb_language.proofs.Placed.{put-placed}

abbrev pub put_both : Name → Bool → KindData → Spot → Slots → Slots
put_both n a k nowhere us = us
put_both n a k (spot b m) us = put_slot n (a && b) (join k m) us

-- the last with what the first two both say put into it
abbrev pub met_onto : Slots → Slots → Slots → Slots
met_onto no_slots ts us = us
met_onto (slot n a k ss) ts us = met_onto ss ts (put_both n a k (slot_at n ts) us)

at-put-both : (p n : Name) (a : Bool) (k : KindData) (s : Spot) (us : Slots)
    → slot_at p (put_both n a k s us) ≡ taught_spot (cond (bytes_eq p n) (both_spot (spot a k) s) nowhere) (slot_at p us)
at-put-both p n a k nowhere us = none-put (bytes_eq p n) (slot_at p us) where
  none-put : (q : Bool) (t : Spot) → t ≡ taught_spot (cond q nowhere nowhere) t
  none-put true t = refl
  none-put false t = refl
at-put-both p n a k (spot b m) us = at_put p n (a && b) (join k m) us ∙ one-put (bytes_eq p n) (a && b) (join k m) (slot_at p us) where
  one-put : (q : Bool) (c : Bool) (j : KindData) (t : Spot) → cond q (spot c j) t ≡ taught_spot (cond q (spot c j) nowhere) t
  one-put true c j t = refl
  one-put false c j t = refl

met-step : (q : Bool) (p n : Name) (a : Bool) (k : KindData) (ss ts : Slots) (t : Spot) → bytes_eq p n ≡ q → Before n ss
    → taught_spot (both_spot (slot_at p ss) (slot_at p ts)) (taught_spot (cond q (both_spot (spot a k) (slot_at n ts)) nowhere) t)
    ≡ taught_spot (both_spot (cond q (spot a k) (slot_at p ss)) (slot_at p ts)) t
met-step true p n a k ss ts t e h =
    let none : slot_at p ss ≡ nowhere = ap (λ x. slot_at x ss) (same_name p n e) ∙ before_unlisted n ss h in
    ap (λ s. taught_spot (both_spot s (slot_at p ts)) (taught_spot (both_spot (spot a k) (slot_at n ts)) t)) none
    ∙ ap (λ x. taught_spot (both_spot (spot a k) (slot_at x ts)) t) (sym (same_name p n e))
met-step false p n a k ss ts t e h = refl

at-met-onto : (p : Name) (ss ts us : Slots) → Ascend ss → slot_at p (met_onto ss ts us) ≡ taught_spot (both_spot (slot_at p ss) (slot_at p ts)) (slot_at p us)
at-met-onto p no_slots ts us h = refl
at-met-onto p (slot n a k ss) ts us h =
    at-met-onto p ss ts (put_both n a k (slot_at n ts) us) h.1
    ∙ ap (taught_spot (both_spot (slot_at p ss) (slot_at p ts))) (at-put-both p n a k (slot_at n ts) us)
    ∙ met-step (bytes_eq p n) p n a k ss ts (slot_at p us) refl h.0

ascend-put-both : (n : Name) (a : Bool) (k : KindData) (s : Spot) (us : Slots) → Ascend us → Ascend (put_both n a k s us)
ascend-put-both n a k nowhere us h = h
ascend-put-both n a k (spot b m) us h = ascend_put n (a && b) (join k m) us h

ascend-met-onto : (ss ts us : Slots) → Ascend us → Ascend (met_onto ss ts us)
ascend-met-onto no_slots ts us h = h
ascend-met-onto (slot n a k ss) ts us h = ascend-met-onto ss ts (put_both n a k (slot_at n ts) us) (ascend-put-both n a k (slot_at n ts) us h)

ascend-both-spots : (n : Name) (a : Bool) (k : KindData) (s : Spot) (us : Slots) → Ascend us → Ascend (with_both_spots n a k s us)
ascend-both-spots n a k nowhere us h = h
ascend-both-spots n a k (spot b m) us h = subst Ascend (put-placed n (a && b) (join k m) us h) (ascend_put n (a && b) (join k m) us h)

ascend-both : (ss ts : Slots) → Ascend (both_slots ss ts)
ascend-both no_slots ts = tt
ascend-both (slot n a k ss) ts = ascend-both-spots n a k (slot_at n ts) (both_slots ss ts) (ascend-both ss ts)

taught-first : (s : Spot) → taught_spot s nowhere ≡ s
taught-first nowhere = refl
taught-first (spot a k) = refl

-- of slots in their order it is what both say
pub met-both : (ss ts : Slots) → Ascend ss → met_onto ss ts no_slots ≡ both_slots ss ts
met-both ss ts h =
    same_slots (met_onto ss ts no_slots) (both_slots ss ts) (ascend-met-onto ss ts no_slots tt) (ascend-both ss ts)
    (λ p. at-met-onto p ss ts no_slots h ∙ taught-first (both_spot (slot_at p ss) (slot_at p ts)) ∙ sym (at_both p ss ts))
