-- What slots say of each name.
use Rattle.std.proofs.Common.{◌≡◌, ℕ, List, Bool, true, false, not, cond, bytes_eq, refl, sym, subst, ◌∙◌, true≢false}
use Rattle.pb_semantics.specs.Kind.{KindData, Slots, Spot, no_slots, slot, nowhere, spot, slot_at, is_listed, is_there}
use Rattle.pb_semantics.specs.Below.{names_among, spot_below, below, slots_below}
use Rattle.pb_semantics.specs.Well.{are_once}
use Rattle.pb_semantics.proofs.Bools.{untrue, and-left, and-right, and-both, not-true}
use Rattle.pb_semantics.proofs.Names.{same_name, own_name}

-- the fact of each kind in the slots
abbrev pub Each : (KindData → Type 0) → Slots → Type 0
Each P no_slots = Unit {0}
Each P (slot n a k ss) = P k × Each P ss

each_step : (P : KindData → Type 0) (q : Bool) (a b : Bool) (k m : KindData) (s : Spot) → P k → (s ≡ spot b m → P m) → cond q (spot a k) s ≡ spot b m → P m
each_step P true a b k m s p later h = let e : k ≡ m = cc in subst P e p
each_step P false a b k m s p later h = later h

pub each_at : (P : KindData → Type 0) (n : List ℕ) (ss : Slots) (b : Bool) (m : KindData) → Each P ss → slot_at n ss ≡ spot b m → P m
each_at P n no_slots b m e h = let x : nowhere ≡ spot b m = h in absurd (cc)
each_at P n (slot o a k ss) b m e h = each_step P (bytes_eq n o) a b k m (slot_at n ss) e.0 (λ i. each_at P n ss b m e.1 i) h

listed_at : (q : Bool) (a : Bool) (c : KindData) (s : Spot) (b : Bool) → (b ≡ true → s ≡ nowhere → false ≡ true) → cond q true b ≡ true → cond q (spot a c) s ≡ nowhere → false ≡ true
listed_at true a c s b later h e = cc
listed_at false a c s b later h e = later h e

pub listed_there : (n : List ℕ) (ss : Slots) → is_listed n ss ≡ true → slot_at n ss ≡ nowhere → false ≡ true
listed_there n no_slots h e = h
listed_there n (slot m a c ss) h e = listed_at (bytes_eq n m) a c (slot_at n ss) (is_listed n ss) (listed_there n ss) h e

unlisted_at : (q : Bool) (a : Bool) (c : KindData) (s : Spot) (b : Bool) → (b ≡ false → s ≡ nowhere) → cond q true b ≡ false → cond q (spot a c) s ≡ nowhere
unlisted_at true a c s b later h = absurd (true≢false h)
unlisted_at false a c s b later h = later h

pub unlisted_nowhere : (n : List ℕ) (ss : Slots) → is_listed n ss ≡ false → slot_at n ss ≡ nowhere
unlisted_nowhere n no_slots h = refl
unlisted_nowhere n (slot m a c ss) h = unlisted_at (bytes_eq n m) a c (slot_at n ss) (is_listed n ss) (unlisted_nowhere n ss) h

there_at : (q : Bool) (a : Bool) (k : KindData) (s : Spot) (b : Bool) → b ≡ is_there s → cond q true b ≡ is_there (cond q (spot a k) s)
there_at true a k s b h = refl
there_at false a k s b h = h

pub listed_is_there : (n : List ℕ) (ss : Slots) → is_listed n ss ≡ is_there (slot_at n ss)
listed_is_there n no_slots = refl
listed_is_there n (slot m a k ss) = there_at (bytes_eq n m) a k (slot_at n ss) (is_listed n ss) (listed_is_there n ss)

among_at : (q : Bool) (n m : List ℕ) (ts : Slots) (b : Bool) → bytes_eq n m ≡ q → is_listed m ts ≡ true → (b ≡ true → is_listed n ts ≡ true) → cond q true b ≡ true → is_listed n ts ≡ true
among_at true n m ts b e h later i = rw (same_name n m e) h
among_at false n m ts b e h later i = later i

pub among : (n : List ℕ) (ss ts : Slots) → names_among ss ts ≡ true → is_listed n ss ≡ true → is_listed n ts ≡ true
among n no_slots ts h i = untrue i
among n (slot m a k ss) ts h i =
    among_at (bytes_eq n m) n m ts (is_listed n ss) refl (and-left (is_listed m ts) (names_among ss ts) h) (among n ss ts (and-right (is_listed m ts) (names_among ss ts) h)) i

first_listed : (q b : Bool) → q ≡ true → cond q true b ≡ true
first_listed true b h = refl
first_listed false b h = untrue h

pub more_listed : (q b : Bool) → b ≡ true → cond q true b ≡ true
more_listed true b h = refl
more_listed false b h = h

pub from_among : (ss ts : Slots) → ((n : List ℕ) → is_listed n ss ≡ true → is_listed n ts ≡ true) → names_among ss ts ≡ true
from_among no_slots ts f = refl
from_among (slot n a k ss) ts f =
    and-both (is_listed n ts) (names_among ss ts) (f n (first_listed (bytes_eq n n) (is_listed n ss) (own_name n))) (from_among ss ts (λ m i. f m (more_listed (bytes_eq m n) (is_listed m ss) i)))

below_at : (q : Bool) (n o : List ℕ) (a b : Bool) (k m : KindData) (s : Spot) (ss : Slots) → bytes_eq n o ≡ q → spot_below (λ j. below j k) a (slot_at o ss) ≡ true
    → (s ≡ spot b m → spot_below (λ j. below j m) b (slot_at n ss) ≡ true) → cond q (spot a k) s ≡ spot b m → spot_below (λ j. below j m) b (slot_at n ss) ≡ true
below_at true n o a b k m s ss e h later i = let x : k ≡ m = cc in let y : a ≡ b = cc in rw (same_name n o e, ← x, ← y) h
below_at false n o a b k m s ss e h later i = later i

-- what is known of a name in the lower slots is below
pub slot_below : (n : List ℕ) (ss ts : Slots) (b : Bool) (m : KindData) → slots_below ss ts ≡ true → slot_at n ts ≡ spot b m → spot_below (λ j. below j m) b (slot_at n ss) ≡ true
slot_below n ss no_slots b m h i = let x : nowhere ≡ spot b m = i in absurd (cc)
slot_below n ss (slot o a k ts) b m h i =
    let here = spot_below (λ j. below j k) a (slot_at o ss) in
    below_at (bytes_eq n o) n o a b k m (slot_at n ts) ss refl (and-left here (slots_below ss ts) h) (λ x. slot_below n ss ts b m (and-right here (slots_below ss ts) h) x) i

-- a name's own spot
pub own_spot : (q : Bool) (a : Bool) (k : KindData) (s : Spot) → q ≡ true → cond q (spot a k) s ≡ spot a k
own_spot true a k s h = refl
own_spot false a k s h = untrue h

-- a name that isn't listed is no other's
pub later_spot : (q : Bool) (p n : List ℕ) (a b : Bool) (k m : KindData) (ss : Slots) → bytes_eq p n ≡ q → is_listed n ss ≡ false → slot_at p ss ≡ spot b m → cond q (spot a k) (slot_at p ss) ≡ spot b m
later_spot true p n a b k m ss e h i =
    let x : slot_at n ss ≡ spot b m = rw (same_name p n e) at i in
    let y : slot_at n ss ≡ nowhere = unlisted_nowhere n ss h in
    let z : nowhere ≡ spot b m = sym y ∙ x in
    absurd (cc)
later_spot false p n a b k m ss e h i = i

-- slots that have each name once are above what is below them name by name
pub from_slots : (ss ts : Slots) → are_once ts ≡ true → ((n : List ℕ) (b : Bool) (m : KindData) → slot_at n ts ≡ spot b m → spot_below (λ j. below j m) b (slot_at n ss) ≡ true) → slots_below ss ts ≡ true
from_slots ss no_slots o f = refl
from_slots ss (slot n a k ts) o f =
    let new = not-true (is_listed n ts) (and-left (not (is_listed n ts)) (are_once ts) o) in
    and-both (spot_below (λ j. below j k) a (slot_at n ss)) (slots_below ss ts) (f n a k (own_spot (bytes_eq n n) a k (slot_at n ts) (own_name n)))
    (from_slots ss ts (and-right (not (is_listed n ts)) (are_once ts) o) (λ p b m i. f p b m (later_spot (bytes_eq p n) p n a b k m ts refl new i)))
