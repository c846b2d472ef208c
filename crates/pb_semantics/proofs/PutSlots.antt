-- Names and slots that are put in their place, and slots of which each name stands once.
use Rattle.std.proofs.Common.{◌≡◌, ℕ, List, [], ◌∷◌, Bool, true, false, not, ◌||◌, cond, bytes_eq, ⊎_elim, refl, sym, ap, ◌∙◌, true≢false}
use Rattle.std.specs.Ordering.{nat_cmp, match_ordering}
use Rattle.std.specs.declared.cmp.Ordering.{Ordering}
use Rattle.std.specs.declared.cmp.Ordering.TheVariants.{Less, Equal, Greater}
use Rattle.std.specs.Cmp.Lexicographic.{slice_cmp}
use Rattle.std.proofs.lemmas.Map.Text.{is_eq-slice_cmp}
use Rattle.pb_semantics.specs.Kind.{KindData, Slots, Spot, no_slots, slot, spot, slot_at, is_listed, put_slot, is_there}
use Rattle.pb_semantics.specs.Keeps.{is_among}
use Rattle.pb_semantics.specs.Below.{are_among}
use Rattle.pb_semantics.specs.Join.{put_name, add_names}
use Rattle.pb_semantics.specs.Well.{are_once, Well, WellSlots}
use Rattle.pb_semantics.proofs.Bools.{and-left, and-right, and-both, or-left, or-right, or-cases, not-true, true-false}
use Rattle.pb_semantics.proofs.Names.{same_name, own_name}
use Rattle.pb_semantics.proofs.Hosts.{among_up, all_among}
use Rattle.pb_semantics.proofs.Slots.{listed_is_there}

-- names that compare as equal are
pub equal_name : (n m : List ℕ) → slice_cmp nat_cmp n m ≡ Equal → n ≡ m
equal_name n m e = same_name n m (sym (is_eq-slice_cmp n m) ∙ rw e refl)

pub greater_name : {A : Type 0} (n m : List ℕ) → slice_cmp nat_cmp n m ≡ Greater → n ≡ m → A
greater_name n m e h =
    let x : bytes_eq n m ≡ false = sym (is_eq-slice_cmp n m) ∙ rw e refl in
    true-false (bytes_eq n m) (rw h (own_name m)) x

swapped : {X : Type 0} (q r : Bool) (x y z : X) → (q ≡ true → r ≡ true → x ≡ y) → cond q x (cond r y z) ≡ cond r y (cond q x z)
swapped true true x y z f = f refl refl
swapped true false x y z f = refl
swapped false r x y z f = refl

twice : {X : Type 0} (q : Bool) (x y z : X) → cond q x z ≡ cond q x (cond q y z)
twice true x y z = refl
twice false x y z = refl

at_put_step : (o : Ordering) (p n m : List ℕ) (a b : Bool) (k j : KindData) (us vs : Slots) → slice_cmp nat_cmp n m ≡ o → slot_at p vs ≡ cond (bytes_eq p n) (spot a k) (slot_at p us)
    → slot_at p (match_ordering o (slot n a k (slot m b j us)) (slot m a k us) (slot m b j vs)) ≡ cond (bytes_eq p n) (spot a k) (cond (bytes_eq p m) (spot b j) (slot_at p us))
at_put_step Less p n m a b k j us vs e h = refl
at_put_step Equal p n m a b k j us vs e h = rw (equal_name n m e) (twice (bytes_eq p m) (spot a k) (spot b j) (slot_at p us))
at_put_step Greater p n m a b k j us vs e h =
    rw h (swapped (bytes_eq p m) (bytes_eq p n) (spot b j) (spot a k) (slot_at p us) (λ x y. greater_name n m e (sym (same_name p n y) ∙ same_name p m x)))

pub at_put : (p n : List ℕ) (a : Bool) (k : KindData) (us : Slots) → slot_at p (put_slot n a k us) ≡ cond (bytes_eq p n) (spot a k) (slot_at p us)
at_put p n a k no_slots = refl
at_put p n a k (slot m b j us) = at_put_step (slice_cmp nat_cmp n m) p n m a b k j us (put_slot n a k us) refl (at_put p n a k us)

there_cond : (q : Bool) (a : Bool) (k : KindData) (s : Spot) → is_there (cond q (spot a k) s) ≡ cond q true (is_there s)
there_cond true a k s = refl
there_cond false a k s = refl

pub listed_put : (p n : List ℕ) (a : Bool) (k : KindData) (us : Slots) → is_listed p (put_slot n a k us) ≡ cond (bytes_eq p n) true (is_listed p us)
listed_put p n a k us =
    listed_is_there p (put_slot n a k us) ∙ ap is_there (at_put p n a k us) ∙ there_cond (bytes_eq p n) a k (slot_at p us) ∙ ap (cond (bytes_eq p n) true) (sym (listed_is_there p us))

pub not_first : (q b : Bool) → cond q true b ≡ false → q ≡ false
not_first true b h = absurd (true≢false h)
not_first false b h = refl

pub not_later : (q b : Bool) → cond q true b ≡ false → b ≡ false
not_later true b h = absurd (true≢false h)
not_later false b h = h

neither : (q b : Bool) → q ≡ false → b ≡ false → cond q true b ≡ false
neither true b h i = absurd (true≢false h)
neither false b h i = i

pub is_not : (b : Bool) → b ≡ false → not b ≡ true
is_not true h = absurd (true≢false h)
is_not false h = refl

turned_at : (q : Bool) (n m : List ℕ) → bytes_eq m n ≡ q → bytes_eq n m ≡ false → q ≡ false
turned_at true n m e h = let x : n ≡ m = sym (same_name m n e) in true-false (bytes_eq n m) (rw x (own_name m)) h
turned_at false n m e h = refl

turned : (n m : List ℕ) → bytes_eq n m ≡ false → bytes_eq m n ≡ false
turned n m h = turned_at (bytes_eq m n) n m refl h

once_put_step : (o : Ordering) (n m : List ℕ) (a b : Bool) (k j : KindData) (us vs : Slots) → is_listed n (slot m b j us) ≡ false → are_once (slot m b j us) ≡ true → are_once vs ≡ true → is_listed m vs ≡ false
    → are_once (match_ordering o (slot n a k (slot m b j us)) (slot m a k us) (slot m b j vs)) ≡ true
once_put_step Less n m a b k j us vs l h i u = and-both (not (is_listed n (slot m b j us))) (are_once (slot m b j us)) (is_not (is_listed n (slot m b j us)) l) h
once_put_step Equal n m a b k j us vs l h i u = h
once_put_step Greater n m a b k j us vs l h i u = and-both (not (is_listed m vs)) (are_once vs) (is_not (is_listed m vs) u) i

pub once_put : (n : List ℕ) (a : Bool) (k : KindData) (us : Slots) → is_listed n us ≡ false → are_once us ≡ true → are_once (put_slot n a k us) ≡ true
once_put n a k no_slots l h = refl
once_put n a k (slot m b j us) l h =
    let here = not-true (is_listed m us) (and-left (not (is_listed m us)) (are_once us) h) in
    once_put_step (slice_cmp nat_cmp n m) n m a b k j us (put_slot n a k us) l h
    (once_put n a k us (not_later (bytes_eq n m) (is_listed n us) l) (and-right (not (is_listed m us)) (are_once us) h))
    (listed_put m n a k us ∙ neither (bytes_eq m n) (is_listed m us) (turned n m (not_first (bytes_eq n m) (is_listed n us) l)) here)

well_put_step : (o : Ordering) (n m : List ℕ) (a b : Bool) (k j : KindData) (us vs : Slots) → Well k → Well j → WellSlots us → WellSlots vs
    → WellSlots (match_ordering o (slot n a k (slot m b j us)) (slot m a k us) (slot m b j vs))
well_put_step Less n m a b k j us vs w v x y = (w, (v, x))
well_put_step Equal n m a b k j us vs w v x y = (w, x)
well_put_step Greater n m a b k j us vs w v x y = (v, y)

pub well_put : (n : List ℕ) (a : Bool) (k : KindData) (us : Slots) → Well k → WellSlots us → WellSlots (put_slot n a k us)
well_put n a k no_slots w v = (w, tt)
well_put n a k (slot m b j us) w v = well_put_step (slice_cmp nat_cmp n m) n m a b k j us (put_slot n a k us) w v.0 v.1 (well_put n a k us w v.1)

or-twice : (a b : Bool) → a || b ≡ a || (a || b)
or-twice true b = refl
or-twice false b = refl

or-swapped : (a b c : Bool) → a || (b || c) ≡ b || (a || c)
or-swapped true true c = refl
or-swapped true false c = refl
or-swapped false b c = refl

or-mixed : (a b c : Bool) → a || (b || c) ≡ (b || a) || c
or-mixed true true c = refl
or-mixed true false c = refl
or-mixed false true c = refl
or-mixed false false c = refl

-- names
put_step : (o : Ordering) (p n m : List ℕ) (ms os : List (List ℕ)) → slice_cmp nat_cmp n m ≡ o → is_among p os ≡ bytes_eq p n || is_among p ms
    → is_among p (match_ordering o (n ∷ m ∷ ms) (m ∷ ms) (m ∷ os)) ≡ bytes_eq p n || (bytes_eq p m || is_among p ms)
put_step Less p n m ms os e h = refl
put_step Equal p n m ms os e h = rw (equal_name n m e) (or-twice (bytes_eq p m) (is_among p ms))
put_step Greater p n m ms os e h = rw h (or-swapped (bytes_eq p m) (bytes_eq p n) (is_among p ms))

pub among_put : (p n : List ℕ) (ms : List (List ℕ)) → is_among p (put_name n ms) ≡ bytes_eq p n || is_among p ms
among_put p n [] = refl
among_put p n (m ∷ ms) = put_step (slice_cmp nat_cmp n m) p n m ms (put_name n ms) refl (among_put p n ms)

pub among_add : (p : List ℕ) (ns ms : List (List ℕ)) → is_among p (add_names ns ms) ≡ is_among p ns || is_among p ms
among_add p [] ms = refl
among_add p (n ∷ ns) ms =
    among_add p ns (put_name n ms) ∙ ap (λ b. is_among p ns || b) (among_put p n ms) ∙ or-mixed (is_among p ns) (bytes_eq p n) (is_among p ms)

pub first_names : (ns ms : List (List ℕ)) → are_among ns (add_names ns ms) ≡ true
first_names ns ms = all_among ns (add_names ns ms) (λ p h. among_add p ns ms ∙ or-left (is_among p ns) (is_among p ms) h)

pub second_names : (ns ms : List (List ℕ)) → are_among ms (add_names ns ms) ≡ true
second_names ns ms = all_among ms (add_names ns ms) (λ p h. among_add p ns ms ∙ or-right (is_among p ns) (is_among p ms) h)

pub least_names : (ns ms os : List (List ℕ)) → are_among ns os ≡ true → are_among ms os ≡ true → are_among (add_names ns ms) os ≡ true
least_names ns ms os h i =
    all_among (add_names ns ms) os (λ p x. ⊎_elim (λ y. among_up p ns os h y) (λ z. among_up p ms os i z) (or-cases (is_among p ns) (is_among p ms) (sym (among_add p ns ms) ∙ x)))
