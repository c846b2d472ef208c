-- Ascending names in two halves, and what slots over them say of each name.
use Rattle.std.proofs.Common.{◌≡◌, ◌/◌, List, [], ◌∷◌, ◌++◌, length, Bool, true, false, ◌||◌, cond, bytes_eq, refl, sym, ap, ◌∙◌, subst, true≢false}
use Rattle.std.proofs.lemmas.List.{take-append-drop}
use Rattle.std.proofs.lemmas.Map.Text.{is_eq-slice_cmp}
use Rattle.std.specs.Cmp.Lexicographic.{slice_cmp}
use Rattle.std.specs.Ordering.{nat_cmp, is_eq}
use Rattle.std.specs.declared.cmp.Ordering.{Ordering}
use Rattle.std.specs.declared.cmp.Ordering.TheVariants.{Less, Greater}
use Rattle.std.specs.List.{AllByRecursion}
use Rattle.std.specs.List.Sorted.{IsStrictlySortedBy}
use Rattle.pb_semantics.specs.Kind.{KindData, Slots, Spot, no_slots, slot, nowhere, spot, slot_at}
use Rattle.pb_semantics.specs.Keeps.{is_among}
use Rattle.pb_semantics.proofs.Bools.{untrue, neither-left, neither-right}
use Rattle.pb_semantics.proofs.Names.{same_name}
use Rattle.pb_language.specs.Expression.{Name}
use Rattle.pb_lattice.specs.Trees.{Tree, bare, known, fork, left_half, right_half, append_slots, slots_over, IsAscending}

abbrev pub order : Name → Name → Ordering
order n m = slice_cmp nat_cmp n m

-- the name stands before each of these
abbrev pub IsBefore : Name → List Name → Type 0
IsBefore n ms = AllByRecursion (λ m. order n m ≡ Less) ms

-- and behind each of these
abbrev pub IsBehind : Name → List Name → Type 0
IsBehind n ms = AllByRecursion (λ m. order n m ≡ Greater) ms

abbrev pub AreBefore : List Name → List Name → Type 0
AreBefore ns ms = AllByRecursion (λ n. IsBefore n ms) ns

before_left : (n : Name) (xs ys : List Name) → IsBefore n (xs ++ ys) → IsBefore n xs
before_left n [] ys h = tt
before_left n (x ∷ xs) ys h = (h.0, before_left n xs ys h.1)

before_right : (n : Name) (xs ys : List Name) → IsBefore n (xs ++ ys) → IsBefore n ys
before_right n [] ys h = h
before_right n (x ∷ xs) ys h = before_right n xs ys h.1

pub record Parts (xs ys : List Name) : Type 0 where
  pub first : IsAscending xs
  pub rest : IsAscending ys
  pub apart : AreBefore xs ys

parts : (xs ys : List Name) → IsAscending (xs ++ ys) → Parts xs ys
unfolding IsStrictlySortedBy
parts [] ys h = record { first = tt; rest = h; apart = tt }
parts (x ∷ xs) ys h =
    let more = parts xs ys h.1 in
    record { first = (before_left x xs ys h.0, more.first); rest = more.rest; apart = (before_right x xs ys h.0, more.apart) }

pub halves : (ns : List Name) → IsAscending ns → Parts (left_half ns) (right_half ns)
halves ns h = parts (left_half ns) (right_half ns) (subst IsAscending (sym (take-append-drop (length ns / 2) ns)) h)

-- a name before others is none of them
apart_of : (o : Ordering) (n m : Name) → order n m ≡ o → is_eq o ≡ false → bytes_eq n m ≡ false
apart_of o n m e f = sym (is_eq-slice_cmp n m) ∙ ap is_eq e ∙ f

no_first : (a b : Bool) → a ≡ false → b ≡ false → a || b ≡ false
no_first true b h i = absurd (true≢false h)
no_first false b h i = i

pub before_none : (n : Name) (ms : List Name) → IsBefore n ms → is_among n ms ≡ false
before_none n [] h = refl
before_none n (m ∷ ms) h = no_first (bytes_eq n m) (is_among n ms) (apart_of Less n m h.0 refl) (before_none n ms h.1)

pub behind_none : (n : Name) (ms : List Name) → IsBehind n ms → is_among n ms ≡ false
behind_none n [] h = refl
behind_none n (m ∷ ms) h = no_first (bytes_eq n m) (is_among n ms) (apart_of Greater n m h.0 refl) (behind_none n ms h.1)

before_of_step : (q b : Bool) (n x : Name) (ys : List Name) → bytes_eq n x ≡ q → IsBefore x ys → (b ≡ true → IsBefore n ys) → q || b ≡ true → IsBefore n ys
before_of_step true b n x ys e h later i = subst (λ m. IsBefore m ys) (sym (same_name n x e)) h
before_of_step false b n x ys e h later i = later i

before_of : (n : Name) (xs ys : List Name) → AreBefore xs ys → is_among n xs ≡ true → IsBefore n ys
before_of n [] ys h i = untrue i
before_of n (x ∷ xs) ys h i = before_of_step (bytes_eq n x) (is_among n xs) n x ys refl h.0 (before_of n xs ys h.1) i

among_append : (n : Name) (xs ys : List Name) → is_among n (xs ++ ys) ≡ is_among n xs || is_among n ys
among_append n [] ys = refl
among_append n (x ∷ xs) ys = ap (λ b. bytes_eq n x || b) (among_append n xs ys) ∙ regroup (bytes_eq n x) (is_among n xs) (is_among n ys)
  where
    regroup : (a b c : Bool) → a || (b || c) ≡ (a || b) || c
    regroup true b c = refl
    regroup false b c = refl

pub among_halves : (n : Name) (ns : List Name) → is_among n ns ≡ is_among n (left_half ns) || is_among n (right_half ns)
among_halves n ns = ap (λ ms. is_among n ms) (sym (take-append-drop (length ns / 2) ns)) ∙ among_append n (left_half ns) (right_half ns)

-- the slots of two lists of names
abbrev pub or_spot : Spot → Spot → Spot
or_spot nowhere s = s
or_spot (spot a k) s = spot a k

at_append_step : (q a : Bool) (k : KindData) (s t u : Spot) → u ≡ or_spot s t → cond q (spot a k) u ≡ or_spot (cond q (spot a k) s) t
at_append_step true a k s t u h = refl
at_append_step false a k s t u h = h

pub at_append : (n : Name) (ss ts : Slots) → slot_at n (append_slots ss ts) ≡ or_spot (slot_at n ss) (slot_at n ts)
at_append n no_slots ts = refl
at_append n (slot m a k ss) ts = at_append_step (bytes_eq n m) a k (slot_at n ss) (slot_at n ts) (slot_at n (append_slots ss ts)) (at_append n ss ts)

pub or_nowhere : (s : Spot) → or_spot s nowhere ≡ s
or_nowhere nowhere = refl
or_nowhere (spot a k) = refl

not_first_at : (q a : Bool) (k : KindData) → q ≡ false → cond q (spot a k) nowhere ≡ nowhere
not_first_at true a k h = absurd (true≢false h)
not_first_at false a k h = refl

-- a name that isn't among them is nowhere
pub not_among : (n : Name) (t : Tree) (ns : List Name) → is_among n ns ≡ false → slot_at n (slots_over t ns) ≡ nowhere
not_among n bare ns h = refl
not_among n (known a k) [] h = refl
not_among n (known a k) (m ∷ ms) h = not_first_at (bytes_eq n m) a k (neither-left (bytes_eq n m) (is_among n ms) h)
not_among n (fork l r) ns h =
    let none = sym (among_halves n ns) ∙ h in
    at_append n (slots_over l (left_half ns)) (slots_over r (right_half ns))
    ∙ ap (λ s. or_spot s (slot_at n (slots_over r (right_half ns)))) (not_among n l (left_half ns) (neither-left (is_among n (left_half ns)) (is_among n (right_half ns)) none))
    ∙ not_among n r (right_half ns) (neither-right (is_among n (left_half ns)) (is_among n (right_half ns)) none)

-- what a fork says of a name is what the half with that name says
pub at_left : (n : Name) (l r : Tree) (ns : List Name) → is_among n (right_half ns) ≡ false → slot_at n (slots_over (fork l r) ns) ≡ slot_at n (slots_over l (left_half ns))
at_left n l r ns h =
    at_append n (slots_over l (left_half ns)) (slots_over r (right_half ns)) ∙ ap (λ s. or_spot (slot_at n (slots_over l (left_half ns))) s) (not_among n r (right_half ns) h)
    ∙ or_nowhere (slot_at n (slots_over l (left_half ns)))

pub at_right : (n : Name) (l r : Tree) (ns : List Name) → is_among n (left_half ns) ≡ false → slot_at n (slots_over (fork l r) ns) ≡ slot_at n (slots_over r (right_half ns))
at_right n l r ns h =
    at_append n (slots_over l (left_half ns)) (slots_over r (right_half ns)) ∙ ap (λ s. or_spot s (slot_at n (slots_over r (right_half ns)))) (not_among n l (left_half ns) h)

-- a name stands in one half only
pub on_one_side : (n : Name) (ns : List Name) → IsAscending ns → is_among n (left_half ns) ≡ true → is_among n (right_half ns) ≡ false
on_one_side n ns h i = before_none n (right_half ns) (before_of n (left_half ns) (right_half ns) (halves ns h).apart i)

at_fork_step : (b : Bool) (n : Name) (l r : Tree) (ns : List Name) → IsAscending ns → is_among n (left_half ns) ≡ b
    → slot_at n (slots_over (fork l r) ns) ≡ cond b (slot_at n (slots_over l (left_half ns))) (slot_at n (slots_over r (right_half ns)))
at_fork_step true n l r ns h e = at_left n l r ns (on_one_side n ns h e)
at_fork_step false n l r ns h e = at_right n l r ns e

pub at_fork : (n : Name) (l r : Tree) (ns : List Name) → IsAscending ns
    → slot_at n (slots_over (fork l r) ns) ≡ cond (is_among n (left_half ns)) (slot_at n (slots_over l (left_half ns))) (slot_at n (slots_over r (right_half ns)))
at_fork n l r ns h = at_fork_step (is_among n (left_half ns)) n l r ns h refl
