-- Slots with one in place of any other of its name.
use Rattle.std.proofs.Common.{◌≡◌, ℕ, List, Bool, true, false, not, cond, bytes_eq, Option, Some, None, is_some, option_map, refl, sym, ap, ◌∙◌}
use Rattle.pb_semantics.specs.Data.{Data, Fields, rec, no_fields, field, field_value}
use Rattle.pb_semantics.specs.Kind.{KindData, Slots, Spot, recs, no_slots, slot, nowhere, spot, slot_at, is_listed, is_there}
use Rattle.pb_semantics.specs.Keeps.{filled, all_listed, keeps, slots_kept, spot_ok, Models}
use Rattle.pb_semantics.specs.Well.{are_once, Well, WellSlots}
use Rattle.pb_semantics.proofs.Bools.{untrue, and-left, and-right, and-both, not-true, true-false}
use Rattle.pb_semantics.proofs.Names.{same_name, own_name}
use Rattle.pb_semantics.proofs.Slots.{later_spot, listed_is_there, own_spot}
use Rattle.pb_semantics.proofs.PutSlots.{at_put, once_put, well_put, is_not}
use Rattle.pb_semantics.proofs.Kept.{kept_models}
use Rattle.pb_language.specs.Scope.{without_slot, with_slot, with_spot}

-- a test made twice
pub twice : {X : Type 0} (q : Bool) (x y z : X) → cond q x z ≡ cond q x (cond q y z)
twice true x y z = refl
twice false x y z = refl

pub swapped : {X : Type 0} (q r : Bool) (x y z : X) → (q ≡ true → r ≡ true → x ≡ y) → cond q x (cond r y z) ≡ cond r y (cond q x z)
swapped true true x y z f = f refl refl
swapped true false x y z f = refl
swapped false r x y z f = refl

at_without_step : (q : Bool) (p n m : List ℕ) (a : Bool) (k : KindData) (ss us : Slots) → bytes_eq n m ≡ q → slot_at p us ≡ cond (bytes_eq p n) nowhere (slot_at p ss)
    → slot_at p (cond q us (slot m a k us)) ≡ cond (bytes_eq p n) nowhere (cond (bytes_eq p m) (spot a k) (slot_at p ss))
at_without_step true p n m a k ss us e h = h ∙ rw (← same_name n m e) (twice (bytes_eq p n) nowhere (spot a k) (slot_at p ss))
at_without_step false p n m a k ss us e h =
    rw h (swapped (bytes_eq p m) (bytes_eq p n) (spot a k) nowhere (slot_at p ss) (λ x y. true-false (bytes_eq n m) (rw (← same_name p n y, same_name p m x) (own_name m)) e))

at_without : (p n : List ℕ) (ss : Slots) → slot_at p (without_slot n ss) ≡ cond (bytes_eq p n) nowhere (slot_at p ss)
at_without p n no_slots = nothing_there (bytes_eq p n) where
  nothing_there : (q : Bool) → nowhere ≡ cond q nowhere nowhere
  nothing_there true = refl
  nothing_there false = refl
at_without p n (slot m a k ss) = at_without_step (bytes_eq n m) p n m a k ss (without_slot n ss) refl (at_without p n ss)

-- what slots with that one say of each name
pub at_with : (p n : List ℕ) (a : Bool) (k : KindData) (ss : Slots) → slot_at p (with_slot n a k ss) ≡ cond (bytes_eq p n) (spot a k) (slot_at p ss)
at_with p n a k ss =
    at_put p n a k (without_slot n ss) ∙ ap (λ s. cond (bytes_eq p n) (spot a k) s) (at_without p n ss) ∙ sym (twice (bytes_eq p n) (spot a k) nowhere (slot_at p ss))

learned_at : (q : Bool) (p n : List ℕ) (a : Bool) (k : KindData) (fs : Fields) (ss : Slots) → bytes_eq p n ≡ q → spot_ok (field_value n fs) (spot a k) ≡ true
    → spot_ok (field_value p fs) (slot_at p ss) ≡ true → spot_ok (field_value p fs) (cond q (spot a k) (slot_at p ss)) ≡ true
learned_at true p n a k fs ss e o later = rw (same_name p n e) o
learned_at false p n a k fs ss e o later = later

-- what is learned of a name
pub models_with : (n : List ℕ) (fs : Fields) (ss : Slots) (s : Spot) → Models fs ss → spot_ok (field_value n fs) s ≡ true → Models fs (with_spot n s ss)
models_with n fs ss nowhere m o = m
models_with n fs ss (spot a k) m o = record { at = λ p. rw (at_with p n a k ss) (learned_at (bytes_eq p n) p n a k fs ss refl o (m.at p)) }

written_at : (q : Bool) (d : Data) (o : Option Data) (a : Bool) (k : KindData) (s : Spot) → keeps d k ≡ true → spot_ok o s ≡ true → spot_ok (cond q (Some d) o) (cond q (spot a k) s) ≡ true
written_at true d o a k s h later = h
written_at false d o a k s h later = later

-- a name that is written
pub models_written : (n : List ℕ) (d : Data) (fs : Fields) (a : Bool) (k : KindData) (ss : Slots) → Models fs ss → keeps d k ≡ true → Models (field n d fs) (with_slot n a k ss)
models_written n d fs a k ss m h = record { at = λ p. rw (at_with p n a k ss) (written_at (bytes_eq p n) d (field_value p fs) a k (slot_at p ss) h (m.at p)) }

-- each name stands once
missing : (q : Bool) (s : Spot) → (q ≡ false → is_there s ≡ false) → is_there (cond q nowhere s) ≡ false
missing true s f = refl
missing false s f = f refl

unlisted_without : (p n : List ℕ) (ss : Slots) → (bytes_eq p n ≡ false → is_listed p ss ≡ false) → is_listed p (without_slot n ss) ≡ false
unlisted_without p n ss f =
    listed_is_there p (without_slot n ss) ∙ ap is_there (at_without p n ss) ∙ missing (bytes_eq p n) (slot_at p ss) (λ x. sym (listed_is_there p ss) ∙ f x)

once_without_step : (q : Bool) (m : List ℕ) (a : Bool) (k : KindData) (us : Slots) → is_listed m us ≡ false → are_once us ≡ true → are_once (cond q us (slot m a k us)) ≡ true
once_without_step true m a k us l h = h
once_without_step false m a k us l h = and-both (not (is_listed m us)) (are_once us) (is_not (is_listed m us) l) h

once_without : (n : List ℕ) (ss : Slots) → are_once ss ≡ true → are_once (without_slot n ss) ≡ true
once_without n no_slots h = refl
once_without n (slot m a k ss) h =
    let new = not-true (is_listed m ss) (and-left (not (is_listed m ss)) (are_once ss) h) in
    once_without_step (bytes_eq n m) m a k (without_slot n ss) (unlisted_without m n ss (λ x. new)) (once_without n ss (and-right (not (is_listed m ss)) (are_once ss) h))

pub once_with : (n : List ℕ) (a : Bool) (k : KindData) (ss : Slots) → are_once ss ≡ true → are_once (with_slot n a k ss) ≡ true
once_with n a k ss h = once_put n a k (without_slot n ss) (unlisted_without n n ss (λ x. true-false (bytes_eq n n) (own_name n) x)) (once_without n ss h)

-- the kinds inside are well formed
well_without_step : (q : Bool) (m : List ℕ) (a : Bool) (k : KindData) (us : Slots) → Well k → WellSlots us → WellSlots (cond q us (slot m a k us))
well_without_step true m a k us w v = v
well_without_step false m a k us w v = (w, v)

well_without : (n : List ℕ) (ss : Slots) → WellSlots ss → WellSlots (without_slot n ss)
well_without n no_slots w = tt
well_without n (slot m a k ss) w = well_without_step (bytes_eq n m) m a k (without_slot n ss) w.0 (well_without n ss w.1)

pub well_with : (n : List ℕ) (a : Bool) (k : KindData) (ss : Slots) → Well k → Well (recs ss) → Well (recs (with_slot n a k ss))
well_with n a k ss w v = (once_with n a k ss v.0, well_put n a k (without_slot n ss) w (well_without n ss v.1))

-- variables that an environment knows are a record of it, if it has each name once
ok_filled : (a : Bool) (k : KindData) (o : Option Data) → spot_ok o (spot a k) ≡ true → filled a (option_map (λ d. keeps d k) o) ≡ true
ok_filled a k None h = h
ok_filled a k (Some d) h = h

slots_from : (fs : Fields) (ss : Slots) → are_once ss ≡ true → ((p : List ℕ) (b : Bool) (m : KindData) → slot_at p ss ≡ spot b m → spot_ok (field_value p fs) (spot b m) ≡ true) → slots_kept fs ss ≡ true
slots_from fs no_slots o f = refl
slots_from fs (slot n a k ss) o f =
    let new = not-true (is_listed n ss) (and-left (not (is_listed n ss)) (are_once ss) o) in
    and-both (filled a (option_map (λ d. keeps d k) (field_value n fs))) (slots_kept fs ss)
    (ok_filled a k (field_value n fs) (f n a k (own_spot (bytes_eq n n) a k (slot_at n ss) (own_name n))))
    (slots_from fs ss (and-right (not (is_listed n ss)) (are_once ss) o) (λ p b m i. f p b m (later_spot (bytes_eq p n) p n a b k m ss refl new i)))

there_value : (q : Bool) (d : Data) (o : Option Data) → q ≡ true → is_some (cond q (Some d) o) ≡ true
there_value true d o h = refl
there_value false d o h = untrue h

more_values : (q : Bool) (d : Data) (o : Option Data) → is_some o ≡ true → is_some (cond q (Some d) o) ≡ true
more_values true d o h = refl
more_values false d o h = h

listed_from : (fs : Fields) (ss : Slots) → ((p : List ℕ) → is_some (field_value p fs) ≡ true → is_listed p ss ≡ true) → all_listed fs ss ≡ true
listed_from no_fields ss f = refl
listed_from (field n d fs) ss f =
    and-both (is_listed n ss) (all_listed fs ss) (f n (there_value (bytes_eq n n) d (field_value n fs) (own_name n)))
    (listed_from fs ss (λ p h. f p (more_values (bytes_eq p n) d (field_value p fs) h)))

there_ok : (o : Option Data) (s : Spot) → spot_ok o s ≡ true → is_some o ≡ true → is_there s ≡ true
there_ok None s h i = untrue i
there_ok (Some d) nowhere h i = untrue h
there_ok (Some d) (spot a k) h i = refl

pub models_kept : (fs : Fields) (ss : Slots) → are_once ss ≡ true → Models fs ss → keeps (rec fs) (recs ss) ≡ true
models_kept fs ss o m =
    and-both (slots_kept fs ss) (all_listed fs ss) (slots_from fs ss o (λ p b k i. rw i at (m.at p)))
    (listed_from fs ss (λ p h. listed_is_there p ss ∙ there_ok (field_value p fs) (slot_at p ss) (m.at p) h))

-- a record of a kind models its slots
pub record_models : (fs : Fields) (ss : Slots) → keeps (rec fs) (recs ss) ≡ true → Models fs ss
record_models fs ss h = kept_models fs ss (and-left (slots_kept fs ss) (all_listed fs ss) h) (and-right (slots_kept fs ss) (all_listed fs ss) h)

pub once_with_spot : (n : List ℕ) (s : Spot) (ss : Slots) → are_once ss ≡ true → are_once (with_spot n s ss) ≡ true
once_with_spot n nowhere ss h = h
once_with_spot n (spot a k) ss h = once_with n a k ss h

-- a record keeps its kind with what is learned of a field
pub kept_with : (n : List ℕ) (fs : Fields) (ss : Slots) (s : Spot) → are_once ss ≡ true → keeps (rec fs) (recs ss) ≡ true → spot_ok (field_value n fs) s ≡ true → keeps (rec fs) (recs (with_spot n s ss)) ≡ true
kept_with n fs ss s w h o = models_kept fs (with_spot n s ss) (once_with_spot n s ss w) (models_with n fs ss s (record_models fs ss h) o)

-- and with a field more
pub kept_written : (n : List ℕ) (d : Data) (fs : Fields) (a : Bool) (k : KindData) (ss : Slots) → are_once ss ≡ true → keeps (rec fs) (recs ss) ≡ true → keeps d k ≡ true
    → keeps (rec (field n d fs)) (recs (with_slot n a k ss)) ≡ true
kept_written n d fs a k ss w h i = models_kept (field n d fs) (with_slot n a k ss) (once_with n a k ss w) (models_written n d fs a k ss (record_models fs ss h) i)
