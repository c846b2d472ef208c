-- What trees over ascending names say of each name.
use Rattle.std.proofs.Common.{◌≡◌, ◌==◌, List, [], ◌∷◌, length, Bool, true, false, not, ◌&&◌, ◌||◌, cond, bytes_eq, refl, sym, ap, ap₂, ◌∙◌, subst, subst₂, arith}
use Rattle.std.proofs.lemmas.Bool.Decides.{nat_tests}
use Rattle.pb_semantics.specs.Kind.{KindData, Slots, Spot, no_slots, slot, nowhere, spot, slot_at, is_listed, recs, is_there}
use Rattle.pb_semantics.specs.Keeps.{is_among}
use Rattle.pb_semantics.specs.Below.{below}
use Rattle.pb_semantics.specs.Join.{join, join_spot, join_slots}
use Rattle.pb_semantics.specs.Well.{Well, WellSlots, are_once}
use Rattle.pb_semantics.proofs.Bools.{untrue, and-left, and-right, and-both, true-false, not-true}
use Rattle.pb_semantics.proofs.Names.{own_name}
use Rattle.pb_semantics.proofs.Slots.{listed_is_there, more_listed}
use Rattle.pb_semantics.proofs.PutSlots.{is_not}
use Rattle.pb_semantics.proofs.JoinSlots.{at_join}
use Rattle.pb_language.specs.Expression.{Name}
use Rattle.pb_language.specs.Judgement.{Exit, live}
use Rattle.pb_language.specs.Walk.{meet}
use Rattle.pb_language.specs.Ordered.{SpotLe, SlotsLe, ExitLe}
use Rattle.pb_language.specs.Wells.{WellExit}
use Rattle.pb_language.proofs.Ways.{meet_well}
use Rattle.pb_language.proofs.Walks.{meet_least, exit_through}
use Rattle.pb_lattice.specs.Trees.{Tree, bare, known, fork, fits, left_half, right_half, append_slots, slots_over, WellTree, is_uncertain, tree_below, uncertain, tree_join, are_alike, IsAscending}
use Rattle.pb_lattice.proofs.Halves.{halves, at_fork, at_left, at_right, on_one_side, not_among}
use Rattle.pb_lattice.proofs.TreeOrder.{fits_left, fits_right, fits_alike}

le_cond : (b : Bool) (s t u v : Spot) → SpotLe s u → SpotLe t v → SpotLe (cond b s t) (cond b u v)
le_cond true s t u v x y = x
le_cond false s t u v x y = y

le_fork : (n : Name) (l r p q : Tree) (ns : List Name) → IsAscending ns → SpotLe (slot_at n (slots_over l (left_half ns))) (slot_at n (slots_over p (left_half ns)))
    → SpotLe (slot_at n (slots_over r (right_half ns))) (slot_at n (slots_over q (right_half ns))) → SpotLe (slot_at n (slots_over (fork l r) ns)) (slot_at n (slots_over (fork p q) ns))
le_fork n l r p q ns h x y =
    rw (at_fork n l r ns h, at_fork n p q ns h) (le_cond (is_among n (left_half ns)) (slot_at n (slots_over l (left_half ns))) (slot_at n (slots_over r (right_half ns)))
    (slot_at n (slots_over p (left_half ns))) (slot_at n (slots_over q (right_half ns))) x y)

le_first : (n : Name) (a b : Bool) (k m : KindData) (ns : List Name) → SpotLe (spot a k) (spot b m) → SpotLe (slot_at n (slots_over (known a k) ns)) (slot_at n (slots_over (known b m) ns))
le_first n a b k m [] h = tt
le_first n a b k m (o ∷ ns) h = le_cond (bytes_eq n o) (spot a k) nowhere (spot b m) nowhere h tt

nowhere_cond : (q b : Bool) (m : KindData) → not b ≡ true → SpotLe nowhere (cond q (spot b m) nowhere)
nowhere_cond true b m h = h
nowhere_cond false b m h = tt

nowhere_first : (n : Name) (b : Bool) (m : KindData) (ns : List Name) → not b ≡ true → SpotLe nowhere (slot_at n (slots_over (known b m) ns))
nowhere_first n b m [] h = tt
nowhere_first n b m (o ∷ ns) h = nowhere_cond (bytes_eq n o) b m h

nowhere_below : (n : Name) (u : Tree) (ns : List Name) → IsAscending ns → is_uncertain u ≡ true → SpotLe nowhere (slot_at n (slots_over u ns))
nowhere_below n bare ns h i = tt
nowhere_below n (known b m) ns h i = nowhere_first n b m ns i
nowhere_below n (fork p q) ns h i =
    let x = nowhere_below n p (left_half ns) (halves ns h).first (and-left (is_uncertain p) (is_uncertain q) i) in
    let y = nowhere_below n q (right_half ns) (halves ns h).rest (and-right (is_uncertain p) (is_uncertain q) i) in
    le_fork n bare bare p q ns h x y

-- a tree below another is below it name by name
pub spots_below : (n : Name) (t u : Tree) (ns : List Name) → IsAscending ns → tree_below t u ≡ true → SpotLe (slot_at n (slots_over t ns)) (slot_at n (slots_over u ns))
spots_below n bare u ns h i = nowhere_below n u ns h i
spots_below n (known a k) bare ns h i = untrue i
spots_below n (known a k) (known b m) ns h i = le_first n a b k m ns (and-left (a || not b) (below k m) i, and-right (a || not b) (below k m) i)
spots_below n (known a k) (fork p q) ns h i = untrue i
spots_below n (fork l r) bare ns h i =
    let x = spots_below n l bare (left_half ns) (halves ns h).first (and-left (tree_below l bare) (tree_below r bare) i) in
    let y = spots_below n r bare (right_half ns) (halves ns h).rest (and-right (tree_below l bare) (tree_below r bare) i) in
    le_fork n l r bare bare ns h x y
spots_below n (fork l r) (known b m) ns h i = untrue i
spots_below n (fork l r) (fork p q) ns h i =
    let x = spots_below n l p (left_half ns) (halves ns h).first (and-left (tree_below l p) (tree_below r q) i) in
    let y = spots_below n r q (right_half ns) (halves ns h).rest (and-right (tree_below l p) (tree_below r q) i) in
    le_fork n l r p q ns h x y

pub slots_over_le : (t u : Tree) (ns : List Name) → IsAscending ns → tree_below t u ≡ true → SlotsLe (slots_over t ns) (slots_over u ns)
slots_over_le t u ns h i = record { at = λ n. spots_below n t u ns h i }

-- and the other way round, where both fit the names
abbrev Under : Tree → Tree → List Name → Type 0
Under t u ns = (n : Name) → SpotLe (slot_at n (slots_over t ns)) (slot_at n (slots_over u ns))

in_left : (b : Bool) (n : Name) (l r p q : Tree) (ns : List Name) → IsAscending ns → is_among n (left_half ns) ≡ b → Under (fork l r) (fork p q) ns
    → SpotLe (slot_at n (slots_over l (left_half ns))) (slot_at n (slots_over p (left_half ns)))
in_left true n l r p q ns h e f =
    let no = on_one_side n ns h e in
    rw (← at_left n l r ns no, ← at_left n p q ns no) (f n)
in_left false n l r p q ns h e f = rw (not_among n l (left_half ns) e, not_among n p (left_half ns) e) tt

in_right : (b : Bool) (n : Name) (l r p q : Tree) (ns : List Name) → IsAscending ns → is_among n (left_half ns) ≡ b → Under (fork l r) (fork p q) ns
    → SpotLe (slot_at n (slots_over r (right_half ns))) (slot_at n (slots_over q (right_half ns)))
in_right true n l r p q ns h e f = let no = on_one_side n ns h e in rw (not_among n r (right_half ns) no, not_among n q (right_half ns) no) tt
in_right false n l r p q ns h e f = rw (← at_right n l r ns e, ← at_right n p q ns e) (f n)

under_left : (l r p q : Tree) (ns : List Name) → IsAscending ns → Under (fork l r) (fork p q) ns → Under l p (left_half ns)
under_left l r p q ns h f = λ n. in_left (is_among n (left_half ns)) n l r p q ns h refl f

under_right : (l r p q : Tree) (ns : List Name) → IsAscending ns → Under (fork l r) (fork p q) ns → Under r q (right_half ns)
under_right l r p q ns h f = λ n. in_right (is_among n (left_half ns)) n l r p q ns h refl f

one_name : (ns : List Name) → length ns == 1 ≡ true → (n : Name) × (ns ≡ n ∷ [])
one_name [] h = absurd (none h)
  where
    none : 0 == 1 ≡ true → ⊥
    none e = grind (arith, nat_tests)
one_name (n ∷ []) h = (n, refl)
one_name (n ∷ m ∷ ns) h = absurd (more h)
  where
    more : length (n ∷ m ∷ ns) == 1 ≡ true → ⊥
    more e = grind (arith, nat_tests)

own_first : (b : Bool) (s t : Spot) → b ≡ true → cond b s t ≡ s
own_first true s t h = refl
own_first false s t h = untrue h

at_first : (n : Name) (a : Bool) (k : KindData) → slot_at n (slots_over (known a k) (n ∷ [])) ≡ spot a k
at_first n a k = own_first (bytes_eq n n) (spot a k) nowhere (own_name n)

from_nowhere : (u : Tree) (ns : List Name) → IsAscending ns → fits u ns ≡ true → Under bare u ns → is_uncertain u ≡ true
from_nowhere bare ns h f g = refl
from_nowhere (known b m) ns h f g =
    let one = one_name ns f in
    let here : SpotLe nowhere (slot_at one.0 (slots_over (known b m) (one.0 ∷ []))) = subst (λ ms. SpotLe nowhere (slot_at one.0 (slots_over (known b m) ms))) one.1 (g one.0) in
    subst (λ s. SpotLe nowhere s) (at_first one.0 b m) here
from_nowhere (fork p q) ns h f g =
    and-both (is_uncertain p) (is_uncertain q) (from_nowhere p (left_half ns) (halves ns h).first (fits_left p q ns f) (under_left bare bare p q ns h g))
    (from_nowhere q (right_half ns) (halves ns h).rest (fits_right p q ns f) (under_right bare bare p q ns h g))

none_fits : {A : Type 0} (k : KindData) (a : Bool) (p q : Tree) (ns : List Name) → fits (known a k) ns ≡ true → fits (fork p q) ns ≡ true → A
none_fits k a p q ns f g = untrue (fits_alike (known a k) (fork p q) ns f g)

pub trees_below : (t u : Tree) (ns : List Name) → IsAscending ns → fits t ns ≡ true → fits u ns ≡ true → Under t u ns → tree_below t u ≡ true
trees_below bare u ns h f g i = from_nowhere u ns h g i
trees_below (known a k) bare ns h f g i =
    let one = one_name ns f in
    let here = subst (λ ms. SpotLe (slot_at one.0 (slots_over (known a k) ms)) nowhere) one.1 (i one.0) in
    subst (λ s. SpotLe s nowhere) (at_first one.0 a k) here
trees_below (known a k) (known b m) ns h f g i =
    let one = one_name ns f in
    let here = subst (λ ms. SpotLe (slot_at one.0 (slots_over (known a k) ms)) (slot_at one.0 (slots_over (known b m) ms))) one.1 (i one.0) in
    let le : SpotLe (spot a k) (spot b m) = subst₂ (λ s t. SpotLe s t) (at_first one.0 a k) (at_first one.0 b m) here in
    and-both (a || not b) (below k m) le.0 le.1
trees_below (known a k) (fork p q) ns h f g i = none_fits k a p q ns f g
trees_below (fork l r) bare ns h f g i =
    and-both (tree_below l bare) (tree_below r bare) (trees_below l bare (left_half ns) (halves ns h).first (fits_left l r ns f) refl (under_left l r bare bare ns h i))
    (trees_below r bare (right_half ns) (halves ns h).rest (fits_right l r ns f) refl (under_right l r bare bare ns h i))
trees_below (fork l r) (known b m) ns h f g i = none_fits m b l r ns g f
trees_below (fork l r) (fork p q) ns h f g i =
    and-both (tree_below l p) (tree_below r q)
    (trees_below l p (left_half ns) (halves ns h).first (fits_left l r ns f) (fits_left p q ns g) (under_left l r p q ns h i))
    (trees_below r q (right_half ns) (halves ns h).rest (fits_right l r ns f) (fits_right p q ns g) (under_right l r p q ns h i))

-- what the join says of each name
join_cond : (b : Bool) (s t u v : Spot) → cond b (join_spot s u) (join_spot t v) ≡ join_spot (cond b s t) (cond b u v)
join_cond true s t u v = refl
join_cond false s t u v = refl

join_forks : (n : Name) (l r p q v w : Tree) (ns : List Name) → IsAscending ns
    → slot_at n (slots_over v (left_half ns)) ≡ join_spot (slot_at n (slots_over l (left_half ns))) (slot_at n (slots_over p (left_half ns)))
    → slot_at n (slots_over w (right_half ns)) ≡ join_spot (slot_at n (slots_over r (right_half ns))) (slot_at n (slots_over q (right_half ns)))
    → slot_at n (slots_over (fork v w) ns) ≡ join_spot (slot_at n (slots_over (fork l r) ns)) (slot_at n (slots_over (fork p q) ns))
join_forks n l r p q v w ns h x y =
    let b = is_among n (left_half ns) in
    at_fork n v w ns h ∙ ap₂ (λ s t. cond b s t) x y
    ∙ join_cond b (slot_at n (slots_over l (left_half ns))) (slot_at n (slots_over r (right_half ns))) (slot_at n (slots_over p (left_half ns))) (slot_at n (slots_over q (right_half ns)))
    ∙ sym (ap₂ join_spot (at_fork n l r ns h) (at_fork n p q ns h))

first_uncertain : (q b : Bool) (m : KindData) → cond q (spot false m) nowhere ≡ join_spot nowhere (cond q (spot b m) nowhere)
first_uncertain true b m = refl
first_uncertain false b m = refl

uncertain_first : (q a : Bool) (k : KindData) → cond q (spot false k) nowhere ≡ join_spot (cond q (spot a k) nowhere) nowhere
uncertain_first true a k = refl
uncertain_first false a k = refl

both_first : (q a b : Bool) (k m : KindData) → cond q (spot (a && b) (join k m)) nowhere ≡ join_spot (cond q (spot a k) nowhere) (cond q (spot b m) nowhere)
both_first true a b k m = refl
both_first false a b k m = refl

join_nowhere : (n : Name) (u : Tree) (ns : List Name) → IsAscending ns → slot_at n (slots_over (uncertain u) ns) ≡ join_spot nowhere (slot_at n (slots_over u ns))
join_nowhere n bare ns h = refl
join_nowhere n (known b m) [] h = refl
join_nowhere n (known b m) (o ∷ ns) h = first_uncertain (bytes_eq n o) b m
join_nowhere n (fork p q) ns h =
    join_forks n bare bare p q (uncertain p) (uncertain q) ns h (join_nowhere n p (left_half ns) (halves ns h).first) (join_nowhere n q (right_half ns) (halves ns h).rest)

nowhere_join : (n : Name) (t : Tree) (ns : List Name) → IsAscending ns → slot_at n (slots_over (uncertain t) ns) ≡ join_spot (slot_at n (slots_over t ns)) nowhere
nowhere_join n bare ns h = refl
nowhere_join n (known a k) [] h = refl
nowhere_join n (known a k) (o ∷ ns) h = uncertain_first (bytes_eq n o) a k
nowhere_join n (fork l r) ns h =
    join_forks n l r bare bare (uncertain l) (uncertain r) ns h (nowhere_join n l (left_half ns) (halves ns h).first) (nowhere_join n r (right_half ns) (halves ns h).rest)

pub spots_joined : (n : Name) (t u : Tree) (ns : List Name) → IsAscending ns → are_alike t u ≡ true
    → slot_at n (slots_over (tree_join t u) ns) ≡ join_spot (slot_at n (slots_over t ns)) (slot_at n (slots_over u ns))
spots_joined n bare u ns h c = join_nowhere n u ns h
spots_joined n (known a k) bare ns h c = nowhere_join n (known a k) ns h
spots_joined n (known a k) (known b m) [] h c = refl
spots_joined n (known a k) (known b m) (o ∷ ns) h c = both_first (bytes_eq n o) a b k m
spots_joined n (known a k) (fork p q) ns h c = untrue c
spots_joined n (fork l r) bare ns h c = nowhere_join n (fork l r) ns h
spots_joined n (fork l r) (known b m) ns h c = untrue c
spots_joined n (fork l r) (fork p q) ns h c =
    join_forks n l r p q (tree_join l p) (tree_join r q) ns h (spots_joined n l p (left_half ns) (halves ns h).first (and-left (are_alike l p) (are_alike r q) c))
    (spots_joined n r q (right_half ns) (halves ns h).rest (and-right (are_alike l p) (are_alike r q) c))

-- slots over ascending names are well formed
none_listed : (n : Name) (t : Tree) (ns : List Name) → is_among n ns ≡ false → is_listed n (slots_over t ns) ≡ false
none_listed n t ns h = listed_is_there n (slots_over t ns) ∙ ap is_there (not_among n t ns h)

abbrev Lone : Slots → Slots → Type 0
Lone ss ts = (n : Name) → is_listed n ss ≡ true → is_listed n ts ≡ false

listed_append : (n : Name) (ss ts : Slots) → is_listed n ss ≡ false → is_listed n ts ≡ false → is_listed n (append_slots ss ts) ≡ false
listed_append n no_slots ts h i = i
listed_append n (slot m a k ss) ts h i = step (bytes_eq n m) (is_listed n ss) (is_listed n (append_slots ss ts)) h (λ e. listed_append n ss ts e i)
  where
    step : (q b c : Bool) → cond q true b ≡ false → (b ≡ false → c ≡ false) → cond q true c ≡ false
    step true b c e f = e
    step false b c e f = f e

once_append : (ss ts : Slots) → are_once ss ≡ true → are_once ts ≡ true → Lone ss ts → are_once (append_slots ss ts) ≡ true
once_append no_slots ts h i f = i
once_append (slot m a k ss) ts h i f =
    let new = not-true (is_listed m ss) (and-left (not (is_listed m ss)) (are_once ss) h) in
    and-both (not (is_listed m (append_slots ss ts))) (are_once (append_slots ss ts))
    (is_not (is_listed m (append_slots ss ts)) (listed_append m ss ts new (f m (first_listed (bytes_eq m m) (is_listed m ss) (own_name m)))))
    (once_append ss ts (and-right (not (is_listed m ss)) (are_once ss) h) i (λ n l. f n (more_listed (bytes_eq n m) (is_listed n ss) l)))
  where
    first_listed : (q b : Bool) → q ≡ true → cond q true b ≡ true
    first_listed true b e = refl
    first_listed false b e = untrue e

lone_halves : (b : Bool) (n : Name) (l r : Tree) (ns : List Name) → IsAscending ns → is_among n (left_half ns) ≡ b → is_listed n (slots_over l (left_half ns)) ≡ true → is_listed n (slots_over r (right_half ns)) ≡ false
lone_halves true n l r ns h e i = none_listed n r (right_half ns) (on_one_side n ns h e)
lone_halves false n l r ns h e i = true-false (is_listed n (slots_over l (left_half ns))) i (none_listed n l (left_half ns) e)

once_over : (t : Tree) (ns : List Name) → IsAscending ns → are_once (slots_over t ns) ≡ true
once_over bare ns h = refl
once_over (known a k) [] h = refl
once_over (known a k) (n ∷ ns) h = refl
once_over (fork l r) ns h =
    once_append (slots_over l (left_half ns)) (slots_over r (right_half ns)) (once_over l (left_half ns) (halves ns h).first) (once_over r (right_half ns) (halves ns h).rest)
    (λ n i. lone_halves (is_among n (left_half ns)) n l r ns h refl i)

well_append : (ss ts : Slots) → WellSlots ss → WellSlots ts → WellSlots (append_slots ss ts)
well_append no_slots ts w v = v
well_append (slot n a k ss) ts w v = (w.0, well_append ss ts w.1 v)

well_over : (t : Tree) (ns : List Name) → WellTree t → WellSlots (slots_over t ns)
well_over bare ns w = tt
well_over (known a k) [] w = tt
well_over (known a k) (n ∷ ns) w = (w, tt)
well_over (fork l r) ns w = well_append (slots_over l (left_half ns)) (slots_over r (right_half ns)) (well_over l (left_half ns) w.0) (well_over r (right_half ns) w.1)

pub slots_well : (t : Tree) (ns : List Name) → IsAscending ns → WellTree t → Well (recs (slots_over t ns))
slots_well t ns h w = (once_over t ns h, well_over t ns w)

-- the least tree above two trees is the least environment above theirs
join_slots_above : (t u v : Tree) (ns : List Name) → IsAscending ns → are_alike t u ≡ true → tree_below v (tree_join t u) ≡ true → SlotsLe (slots_over v ns) (join_slots (slots_over t ns) (slots_over u ns))
join_slots_above t u v ns h c i = record {
  at = λ n. rw (at_join n (slots_over t ns) (slots_over u ns) (once_over u ns h), ← spots_joined n t u ns h c) (spots_below n v (tree_join t u) ns h i);
}

pub joined_least : (t u v : Tree) (ns : List Name) → IsAscending ns → are_alike t u ≡ true → WellTree t → WellTree u → WellTree v → tree_below v (tree_join t u) ≡ true
    → (x : Exit) → WellExit x → ExitLe (live (slots_over t ns)) x → ExitLe (live (slots_over u ns)) x → ExitLe (live (slots_over v ns)) x
joined_least t u v ns h c wt wu wv i x w y z =
    let e = live (slots_over t ns) in
    let f = live (slots_over u ns) in
    let et = slots_well t ns h wt in
    let fu = slots_well u ns h wu in
    exit_through (live (slots_over v ns)) (meet e f) x (slots_well v ns h wv) (meet_well e f et fu) w (join_slots_above t u v ns h c i) (meet_least e f x et fu w y z)
