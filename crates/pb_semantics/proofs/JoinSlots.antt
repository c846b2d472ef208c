-- What the join of two slots says of each name.
use Rattle.std.proofs.Common.{◌≡◌, ℕ, List, Bool, true, false, not, cond, bytes_eq, refl, ap, ◌∙◌}
use Rattle.pb_semantics.specs.Kind.{KindData, Slots, Spot, no_slots, slot, nowhere, spot, slot_at, is_listed, put_slot, is_there}
use Rattle.pb_semantics.specs.Join.{with_others, presence_with, kind_with, join, joined, join_slots, join_spot}
use Rattle.pb_semantics.specs.Well.{are_once, Well, WellSlots}
use Rattle.pb_semantics.proofs.Bools.{untrue, and-left, and-right, and-both, not-true, true-false}
use Rattle.pb_semantics.proofs.Names.{same_name, own_name}
use Rattle.pb_semantics.proofs.Slots.{Each, each_at, listed_is_there, unlisted_nowhere}
use Rattle.pb_semantics.proofs.PutSlots.{at_put, listed_put, once_put, well_put}
use Rattle.pb_semantics.proofs.Order.{well_each}

abbrev joined_spot : Spot → Spot → Spot
joined_spot nowhere t = nowhere
joined_spot (spot a k) t = spot (presence_with a t) (kind_with k (λ m. join k m) t)

joined_at : (q : Bool) (n m : List ℕ) (a : Bool) (k : KindData) (s u : Spot) (ts : Slots) → bytes_eq n m ≡ q → u ≡ joined_spot s (slot_at n ts)
    → cond q (spot (presence_with a (slot_at m ts)) (kind_with k (λ m. join k m) (slot_at m ts))) u ≡ joined_spot (cond q (spot a k) s) (slot_at n ts)
joined_at true n m a k s u ts e h = rw (same_name n m e) refl
joined_at false n m a k s u ts e h = h

at_joined : (n : List ℕ) (ss ts : Slots) → slot_at n (joined ss ts) ≡ joined_spot (slot_at n ss) (slot_at n ts)
at_joined n no_slots ts = refl
at_joined n (slot m a k ss) ts = joined_at (bytes_eq n m) n m a k (slot_at n ss) (slot_at n (joined ss ts)) ts refl (at_joined n ss ts)

pub listed_joined : (n : List ℕ) (ss ts : Slots) → is_listed n (joined ss ts) ≡ is_listed n ss
listed_joined n no_slots ts = refl
listed_joined n (slot m a k ss) ts = ap (cond (bytes_eq n m) true) (listed_joined n ss ts)

once_joined : (ss ts : Slots) → are_once ss ≡ true → are_once (joined ss ts) ≡ true
once_joined no_slots ts h = refl
once_joined (slot n a k ss) ts h =
    and-both (not (is_listed n (joined ss ts))) (are_once (joined ss ts)) (ap not (listed_joined n ss ts) ∙ and-left (not (is_listed n ss)) (are_once ss) h)
    (once_joined ss ts (and-right (not (is_listed n ss)) (are_once ss) h))

-- the first where the name is new
abbrev chosen : Spot → Bool → Spot → Spot
chosen nowhere l s = s
chosen (spot b m) true s = s
chosen (spot b m) false s = spot false m

chosen_at : (q l : Bool) (p n : List ℕ) (b : Bool) (m : KindData) (ts ss us : Slots) (x : Spot) → bytes_eq p n ≡ q → is_listed n ss ≡ l → slot_at n ts ≡ nowhere
    → x ≡ chosen (slot_at p ts) (is_listed p ss) (slot_at p (cond l us (put_slot n false m us))) → x ≡ chosen (cond q (spot b m) (slot_at p ts)) (is_listed p ss) (slot_at p us)
chosen_at true true p n b m ts ss us x e l w h =
    let same = same_name p n e in
    let none : slot_at p ts ≡ nowhere = rw same w in
    let there : is_listed p ss ≡ true = rw same l in
    rw there (h ∙ rw none refl)
chosen_at true false p n b m ts ss us x e l w h =
    let same = same_name p n e in
    let none : slot_at p ts ≡ nowhere = rw same w in
    let there : is_listed p ss ≡ false = rw same l in
    rw there (h ∙ rw (none, at_put p n false m us, e) refl)
chosen_at false true p n b m ts ss us x e l w h = h
chosen_at false false p n b m ts ss us x e l w h = h ∙ rw (at_put p n false m us, e) refl

at_others : (p : List ℕ) (ts ss us : Slots) → are_once ts ≡ true → slot_at p (with_others ts ss us) ≡ chosen (slot_at p ts) (is_listed p ss) (slot_at p us)
at_others p no_slots ss us o = refl
at_others p (slot n b m ts) ss us o =
    chosen_at (bytes_eq p n) (is_listed n ss) p n b m ts ss us (slot_at p (with_others ts ss (cond (is_listed n ss) us (put_slot n false m us)))) refl refl
    (unlisted_nowhere n ts (not-true (is_listed n ts) (and-left (not (is_listed n ts)) (are_once ts) o)))
    (at_others p ts ss (cond (is_listed n ss) us (put_slot n false m us)) (and-right (not (is_listed n ts)) (are_once ts) o))

met : (s t : Spot) → chosen t (is_there s) (joined_spot s t) ≡ join_spot s t
met nowhere nowhere = refl
met nowhere (spot b m) = refl
met (spot a k) nowhere = refl
met (spot a k) (spot b m) = refl

pub at_join : (n : List ℕ) (ss ts : Slots) → are_once ts ≡ true → slot_at n (join_slots ss ts) ≡ join_spot (slot_at n ss) (slot_at n ts)
at_join n ss ts o =
    at_others n ts ss (joined ss ts) o ∙ ap (λ s. chosen (slot_at n ts) (is_listed n ss) s) (at_joined n ss ts)
    ∙ ap (λ l. chosen (slot_at n ts) l (joined_spot (slot_at n ss) (slot_at n ts))) (listed_is_there n ss) ∙ met (slot_at n ss) (slot_at n ts)

-- each name stands once
once_step : (l : Bool) (n : List ℕ) (m : KindData) (us : Slots) → (l ≡ false → is_listed n us ≡ false) → are_once us ≡ true → are_once (cond l us (put_slot n false m us)) ≡ true
once_step true n m us f h = h
once_step false n m us f h = once_put n false m us (f refl) h

apart : (q : Bool) (p n : List ℕ) (ts : Slots) (b : Bool) → bytes_eq p n ≡ q → is_listed n ts ≡ false → is_listed p ts ≡ true → b ≡ false → cond q true b ≡ false
apart true p n ts b e h i j = true-false (is_listed p ts) i (rw (same_name p n e) h)
apart false p n ts b e h i j = j

new_step : (l : Bool) (p n : List ℕ) (m : KindData) (ts us : Slots) → is_listed n ts ≡ false → is_listed p ts ≡ true → is_listed p us ≡ false → is_listed p (cond l us (put_slot n false m us)) ≡ false
new_step true p n m ts us h i j = j
new_step false p n m ts us h i j = listed_put p n false m us ∙ apart (bytes_eq p n) p n ts (is_listed p us) refl h i j

first_of_both : (q b : Bool) → q ≡ true → cond q true b ≡ true
first_of_both true b h = refl
first_of_both false b h = untrue h

later_of_both : (q b : Bool) → b ≡ true → cond q true b ≡ true
later_of_both true b h = refl
later_of_both false b h = h

once_others : (ts ss us : Slots) → are_once ts ≡ true → are_once us ≡ true → ((p : List ℕ) → is_listed p ts ≡ true → is_listed p ss ≡ false → is_listed p us ≡ false) → are_once (with_others ts ss us) ≡ true
once_others no_slots ss us o h f = h
once_others (slot n b m ts) ss us o h f =
    let new = not-true (is_listed n ts) (and-left (not (is_listed n ts)) (are_once ts) o) in
    once_others ts ss (cond (is_listed n ss) us (put_slot n false m us)) (and-right (not (is_listed n ts)) (are_once ts) o)
    (once_step (is_listed n ss) n m us (λ l. f n (first_of_both (bytes_eq n n) (is_listed n ts) (own_name n)) l) h)
    (λ p i l. new_step (is_listed n ss) p n m ts us new i (f p (later_of_both (bytes_eq p n) (is_listed p ts) i) l))

pub once_join : (ss ts : Slots) → are_once ss ≡ true → are_once ts ≡ true → are_once (join_slots ss ts) ≡ true
once_join ss ts h i = once_others ts ss (joined ss ts) i (once_joined ss ts h) (λ p x y. listed_joined p ss ts ∙ y)

-- the kinds inside are well formed
well_step : (l : Bool) (n : List ℕ) (m : KindData) (us : Slots) → Well m → WellSlots us → WellSlots (cond l us (put_slot n false m us))
well_step true n m us w v = v
well_step false n m us w v = well_put n false m us w v

well_others : (ts ss us : Slots) → WellSlots ts → WellSlots us → WellSlots (with_others ts ss us)
well_others no_slots ss us w v = v
well_others (slot n b m ts) ss us w v = well_others ts ss (cond (is_listed n ss) us (put_slot n false m us)) w.1 (well_step (is_listed n ss) n m us w.0 v)

well_with : (k : KindData) (s : Spot) → Well k → ((b : Bool) (m : KindData) → s ≡ spot b m → Well m) → ((m : KindData) → Well m → Well (join k m)) → Well (kind_with k (λ m. join k m) s)
well_with k nowhere w f g = w
well_with k (spot b m) w f g = g m (f b m refl)

abbrev pub JoinsWell : KindData → Type 0
JoinsWell k = Well k → (m : KindData) → Well m → Well (join k m)

well_joined : (ss ts : Slots) → Each JoinsWell ss → WellSlots ss → WellSlots ts → WellSlots (joined ss ts)
well_joined no_slots ts e w v = tt
well_joined (slot n a k ss) ts e w v =
    (well_with k (slot_at n ts) w.0 (λ b m i. each_at (λ k. Well k) n ts b m (well_each ts v) i) (e.0 w.0), well_joined ss ts e.1 w.1 v)

pub well_join_slots : (ss ts : Slots) → Each JoinsWell ss → WellSlots ss → WellSlots ts → WellSlots (join_slots ss ts)
well_join_slots ss ts e w v = well_others ts ss (joined ss ts) v (well_joined ss ts e w v)
