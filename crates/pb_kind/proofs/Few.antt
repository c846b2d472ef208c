-- Few slots that are joined to many, of which those stay that the few don't list.
use Rattle.std.proofs.Common.{◌≡◌, List, ℕ, Bool, true, false, ◌&&◌, cond, bytes_eq, refl, sym, ap, ◌∙◌}
use Rattle.pb_semantics.specs.Kind.{KindData, Slots, Spot, no_slots, slot, nowhere, spot, slot_at, is_listed, put_slot, is_there}
use Rattle.pb_semantics.specs.Join.{join, join_slots, join_spot, presence_with, kind_with}
use Rattle.pb_semantics.specs.Grown.{is_sure}
use Rattle.pb_semantics.proofs.Bools.{untrue, and-left, and-right}
use Rattle.pb_semantics.proofs.Names.{same_name}
use Rattle.pb_semantics.proofs.PutSlots.{at_put}
use Rattle.pb_semantics.proofs.Slots.{listed_is_there}
use Rattle.pb_semantics.proofs.Ascents.{Before, Ascend, before_unlisted, same_slots, ascend_put, ascend_met, at_met}
use Rattle.pb_kind.specs.Added.{lists_sure}
use Rattle.pb_kind.proofs.JoinLemmas.{built}

-- a name that the first don't list is not certain among the second
loose_step : (q b a : Bool) (k : KindData) (s t : Spot) → (q ≡ true → b ≡ is_there s) → cond a b true ≡ true → (is_sure t ≡ true → is_there s ≡ true)
    → is_sure (cond q (spot a k) t) ≡ true → is_there s ≡ true
loose_step true b true k s t f g h e = sym (f refl) ∙ g
loose_step true b false k s t f g h e = untrue e
loose_step false b a k s t f g h e = h e

pub sure_there : (p : List ℕ) (ss ts : Slots) → lists_sure ss ts ≡ true → is_sure (slot_at p ts) ≡ true → is_there (slot_at p ss) ≡ true
sure_there p ss no_slots h e = untrue e
sure_there p ss (slot n a k ts) h e =
    let b = is_listed n ss in
    loose_step (bytes_eq p n) b a k (slot_at p ss) (slot_at p ts)
    (λ w. listed_is_there n ss ∙ ap (λ x. is_there (slot_at x ss)) (sym (same_name p n w)))
    (and-left (cond a b true) (lists_sure ss ts) h) (sure_there p ss ts (and-right (cond a b true) (lists_sure ss ts) h)) e

gone : (p n : List ℕ) (ss : Slots) → Before n ss → bytes_eq p n ≡ true → slot_at p ss ≡ nowhere
gone p n ss h e = rw (same_name p n e) (before_unlisted n ss h)

-- what stands under a name where each of the first was put, with what the second knows of it
abbrev built_spot : Spot → Spot → Spot → Spot
built_spot nowhere t u = u
built_spot (spot a k) t u = spot (presence_with a t) (kind_with k (λ m. join k m) t)

built_step : (q : Bool) (p n : List ℕ) (a : Bool) (k : KindData) (s u : Spot) (ts : Slots) → bytes_eq p n ≡ q → (q ≡ true → s ≡ nowhere)
    → built_spot s (slot_at p ts) (cond q (spot (presence_with a (slot_at n ts)) (kind_with k (λ m. join k m) (slot_at n ts))) u) ≡ built_spot (cond q (spot a k) s) (slot_at p ts) u
built_step true p n a k s u ts e f = rw (f refl, same_name p n e) refl
built_step false p n a k s u ts e f = refl

at_built : (p : List ℕ) (ss ts us : Slots) → Ascend ss → slot_at p (built ss ts us) ≡ built_spot (slot_at p ss) (slot_at p ts) (slot_at p us)
at_built p no_slots ts us h = refl
at_built p (slot n a k ss) ts us h =
    let b = presence_with a (slot_at n ts) in
    let m = kind_with k (λ m. join k m) (slot_at n ts) in
    at_built p ss ts (put_slot n b m us) h.1 ∙ ap (built_spot (slot_at p ss) (slot_at p ts)) (at_put p n b m us)
    ∙ built_step (bytes_eq p n) p n a k (slot_at p ss) (slot_at p us) ts refl (gone p n ss h.0)

ascend_built : (ss ts us : Slots) → Ascend us → Ascend (built ss ts us)
ascend_built no_slots ts us h = h
ascend_built (slot n a k ss) ts us h = ascend_built ss ts _ (ascend_put n (presence_with a (slot_at n ts)) (kind_with k (λ m. join k m) (slot_at n ts)) us h)

onto_spot : (s t : Spot) → (is_sure t ≡ true → is_there s ≡ true) → built_spot s t t ≡ join_spot s t
onto_spot nowhere nowhere f = refl
onto_spot nowhere (spot true m) f = untrue (f refl)
onto_spot nowhere (spot false m) f = refl
onto_spot (spot a k) nowhere f = refl
onto_spot (spot a k) (spot b m) f = refl

-- the first put into the second are their join
pub built_onto : (ss ts : Slots) → Ascend ss → Ascend ts → lists_sure ss ts ≡ true → built ss ts ts ≡ join_slots ss ts
built_onto ss ts h i l =
    same_slots (built ss ts ts) (join_slots ss ts) (ascend_built ss ts ts i) (ascend_met true ss ts h i)
    (λ p. at_built p ss ts ts h ∙ onto_spot (slot_at p ss) (slot_at p ts) (sure_there p ss ts l) ∙ sym (at_met true p ss ts h i))

-- a field as it stands behind what else is known of it
abbrev pub presence_after : Bool → Spot → Bool
presence_after a nowhere = false
presence_after a (spot b m) = b && a

abbrev pub kind_after : KindData → Spot → KindData
kind_after k nowhere = k
kind_after k (spot b m) = join m k

-- the last with each of the first's slots put into it, behind what the second knows of it
abbrev pub put_after : Slots → Slots → Slots → Slots
put_after no_slots ts us = us
put_after (slot n a k ss) ts us = put_after ss ts (put_slot n (presence_after a (slot_at n ts)) (kind_after k (slot_at n ts)) us)

pub after_next : (n : List ℕ) (a : Bool) (k : KindData) (ss ts us vs : Slots) (t : Spot) → slot_at n ts ≡ t → vs ≡ put_slot n (presence_after a t) (kind_after k t) us
    → put_after (slot n a k ss) ts us ≡ put_after ss ts vs
after_next n a k ss ts us vs t e f = ap (λ s. put_after ss ts (put_slot n (presence_after a s) (kind_after k s) us)) e ∙ ap (put_after ss ts) (sym f)

abbrev after_spot : Spot → Spot → Spot → Spot
after_spot nowhere t u = u
after_spot (spot a k) t u = spot (presence_after a t) (kind_after k t)

after_step : (q : Bool) (p n : List ℕ) (a : Bool) (k : KindData) (s u : Spot) (ts : Slots) → bytes_eq p n ≡ q → (q ≡ true → s ≡ nowhere)
    → after_spot s (slot_at p ts) (cond q (spot (presence_after a (slot_at n ts)) (kind_after k (slot_at n ts))) u) ≡ after_spot (cond q (spot a k) s) (slot_at p ts) u
after_step true p n a k s u ts e f = rw (f refl, same_name p n e) refl
after_step false p n a k s u ts e f = refl

at_after : (p : List ℕ) (ss ts us : Slots) → Ascend ss → slot_at p (put_after ss ts us) ≡ after_spot (slot_at p ss) (slot_at p ts) (slot_at p us)
at_after p no_slots ts us h = refl
at_after p (slot n a k ss) ts us h =
    let b = presence_after a (slot_at n ts) in
    let m = kind_after k (slot_at n ts) in
    at_after p ss ts (put_slot n b m us) h.1 ∙ ap (after_spot (slot_at p ss) (slot_at p ts)) (at_put p n b m us)
    ∙ after_step (bytes_eq p n) p n a k (slot_at p ss) (slot_at p us) ts refl (gone p n ss h.0)

ascend_after : (ss ts us : Slots) → Ascend us → Ascend (put_after ss ts us)
ascend_after no_slots ts us h = h
ascend_after (slot n a k ss) ts us h = ascend_after ss ts _ (ascend_put n (presence_after a (slot_at n ts)) (kind_after k (slot_at n ts)) us h)

behind_spot : (s t : Spot) → (is_sure t ≡ true → is_there s ≡ true) → after_spot s t t ≡ join_spot t s
behind_spot nowhere nowhere f = refl
behind_spot nowhere (spot true m) f = untrue (f refl)
behind_spot nowhere (spot false m) f = refl
behind_spot (spot a k) nowhere f = refl
behind_spot (spot a k) (spot b m) f = refl

-- the same where the second lead
pub built_after : (ss ts : Slots) → Ascend ss → Ascend ts → lists_sure ss ts ≡ true → put_after ss ts ts ≡ join_slots ts ss
built_after ss ts h i l =
    same_slots (put_after ss ts ts) (join_slots ts ss) (ascend_after ss ts ts i) (ascend_met true ts ss i h)
    (λ p. at_after p ss ts ts h ∙ behind_spot (slot_at p ss) (slot_at p ts) (sure_there p ss ts l) ∙ sym (at_met true p ts ss i h))
