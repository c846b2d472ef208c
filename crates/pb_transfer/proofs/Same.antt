-- Environments in which the same is known of each name.
use Rattle.std.proofs.Common.{◌≡◌, Bool, true, false, cond, refl, sym, ap, ◌∙◌, subst}
use Rattle.std.specs.Str.{bytes_eq}
use Rattle.pb_semantics.specs.Kind.{KindData, Slots, Spot, nowhere, spot, slot_at, is_there}
use Rattle.pb_semantics.proofs.Bools.{untrue}
use Rattle.pb_semantics.proofs.PutSlots.{at_put}
use Rattle.pb_language.specs.Expression.{Name}
use Rattle.pb_language.specs.Cases.{Sets, no_sets, sets, set_spot, with_sets}
use Rattle.pb_language.specs.Judgement.{Exit, dead, live}
use Rattle.pb_language.specs.Scope.{with_slot, with_spot}
use Rattle.pb_language.proofs.WithSlot.{at_with}
use Rattle.pb_language.proofs.ChangesUp.{at_spot}
use Rattle.pb_language.proofs.WellKinds.{well_meet, well_slot}
use Rattle.pb_language.specs.Wells.{WellExit, WellSpot}
use Rattle.pb_semantics.specs.Well.{Well}
use Rattle.pb_lattice.specs.Environments.{IsKept, put_in, spot_in}
use Rattle.pb_lattice.specs.Shared.{Shared}
use Rattle.pb_transfer.specs.Written.{AreSame, where_led}

abbrev pub SameAt : Slots → Slots → Type 0
SameAt ss ts = (n : Name) → slot_at n ss ≡ slot_at n ts

pub same_own : (e : Exit) → AreSame e e
same_own dead = tt
same_own (live ss) = λ n. refl

pub same_through : (e f g : Exit) → AreSame e f → AreSame f g → AreSame e g
same_through dead dead dead h i = tt
same_through dead dead (live us) h i = i
same_through (live ss) (live ts) (live us) h i = λ n. h n ∙ i n
same_through (live ss) (live ts) dead h i = i
same_through dead (live ts) dead h i = tt
same_through dead (live ts) (live us) h i = h
same_through (live ss) dead dead h i = h
same_through (live ss) dead (live us) h i = λ n. untrue h

-- a slot that is put is one in place of any other of the name
pub same_put : (n : Name) (a : Bool) (k : KindData) (e : Exit) → AreSame (put_in n a k e) (where_led (with_slot n a k) e)
same_put n a k dead = tt
same_put n a k (live ss) = λ m. at_put m n a k ss ∙ sym (at_with m n a k ss)

-- what is set is somewhere
set_there : (a : Bool) (s : Spot) (k : KindData) → is_there (set_spot a s k) ≡ true
set_there true s k = refl
set_there false nowhere k = refl
set_there false (spot b j) k = refl

set_nowhere : {A : Type 0} (a : Bool) (s : Spot) (k : KindData) → set_spot a s k ≡ nowhere → A
set_nowhere a s k e = untrue (sym (ap is_there e) ∙ set_there a s k)

set_same : (n : Name) (a : Bool) (k : KindData) (ss ts : Slots) → SameAt ss ts → SameAt (with_spot n (set_spot a (slot_at n ss) k) ss) (with_spot n (set_spot a (slot_at n ts) k) ts)
set_same n a k ss ts h p =
    at_spot p n (set_spot a (slot_at n ss) k) ss (λ e. set_nowhere a (slot_at n ss) k e)
    ∙ ap (λ s. cond (bytes_eq p n) (set_spot a s k) (slot_at p ss)) (h n) ∙ ap (λ s. cond (bytes_eq p n) (set_spot a (slot_at n ts) k) s) (h p)
    ∙ sym (at_spot p n (set_spot a (slot_at n ts) k) ts (λ e. set_nowhere a (slot_at n ts) k e))

same_sets : (r : Sets) (ss ts : Slots) → SameAt ss ts → SameAt (with_sets r ss) (with_sets r ts)
same_sets no_sets ss ts h = h
same_sets (sets n a k r) ss ts h = same_sets r (with_spot n (set_spot a (slot_at n ss) k) ss) (with_spot n (set_spot a (slot_at n ts) k) ts) (set_same n a k ss ts h)

pub led_sets : (r : Sets) (e f : Exit) → AreSame e f → AreSame (where_led (with_sets r) e) (where_led (with_sets r) f)
led_sets r dead dead h = tt
led_sets r dead (live ts) h = h
led_sets r (live ss) dead h = h
led_sets r (live ss) (live ts) h = same_sets r ss ts h

-- one set, then the others
pub set_first : (n : Name) (a : Bool) (k : KindData) (r : Sets) (e : Exit)
    → where_led (with_sets r) (where_led (λ ss. with_spot n (set_spot a (slot_at n ss) k) ss) e) ≡ where_led (with_sets (sets n a k r)) e
set_first n a k r dead = refl
set_first n a k r (live ss) = refl

-- a slot that says what is set
slot_is : (n : Name) (a : Bool) (k : KindData) (s : Spot) (ss : Slots) → spot a k ≡ s → SameAt (with_slot n a k ss) (with_spot n s ss)
slot_is n a k s ss h p = ap (λ t. slot_at p (with_spot n t ss)) h

pub same_set : (n : Name) (a b : Bool) (k m : KindData) (e f : Exit) → spot a k ≡ set_spot b (spot_in n e) m → AreSame f (where_led (with_slot n a k) e)
    → AreSame f (where_led (λ ss. with_spot n (set_spot b (slot_at n ss) m) ss) e)
same_set n a b k m dead f h i = i
same_set n a b k m (live ss) f h i = same_through f (live (with_slot n a k ss)) (live (with_spot n (set_spot b (slot_at n ss) m) ss)) i (slot_is n a k (set_spot b (slot_at n ss) m) ss h)

-- what is set is well formed
pub set_well : (a b : Bool) (s : Spot) (k m : KindData) → spot a k ≡ set_spot b s m → WellSpot s → Well m → Well k
set_well a b s k m h i j = subst WellSpot (sym h) (well b s m i j) where
  well : (b : Bool) (s : Spot) (m : KindData) → WellSpot s → Well m → WellSpot (set_spot b s m)
  well true s m i j = j
  well false s m i j = well_meet s (spot true m) i j

pub known_well : (n : Name) (e : Exit) → WellExit e → WellSpot (spot_in n e)
known_well n dead h = tt
known_well n (live ss) h = well_slot n ss h.1

-- what is kept twice is kept
pub kept_through : (s t u : Shared) → IsKept s t → IsKept t u → IsKept s u
kept_through s t u h i = record {
  names = i.names ∙ h.names;
  stays = λ e x. let a = h.stays e x in let b = i.stays e a.0 in (b.0, b.1 ∙ a.1);
}
