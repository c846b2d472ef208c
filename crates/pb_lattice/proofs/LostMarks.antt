-- Marks beside names that are lost, half by half.
use Rattle.std.proofs.Common.{◌≡◌, ◌/◌, ◌==◌, ℕ, suc, List, [], ◌∷◌, ◌++◌, length, take, drop, Bool, true, false, not, ◌&&◌, cond, bytes_eq, nat_le, slice_set, ◌<◌, refl, sym, ap, ◌∙◌, subst, arith}
use Rattle.std.proofs.lemmas.List.{length-drop, length-take, take-append-drop}
use Rattle.std.proofs.lemmas.Bool.Decides.{nat_tests}
use Rattle.pb_semantics.specs.Kind.{KindData, Slots, no_slots}
use Rattle.pb_semantics.specs.Keeps.{is_among}
use Rattle.pb_semantics.proofs.Bools.{untrue, and-left, and-right, or-left, or-right}
use Rattle.pb_semantics.proofs.Names.{own_name}
use Rattle.pb_language.specs.Expression.{Name}
use Rattle.pb_language.specs.Judgement.{Exit, live}
use Rattle.pb_language.specs.Scope.{is_certain}
use Rattle.pb_lattice.specs.Environments.{spot_in}
use Rattle.pb_lattice.specs.Lost.{is_surely, lost_marks}
use Rattle.pb_lattice.specs.Trees.{Tree, bare, known, fork, fits, left_half, right_half, slots_over, IsAscending}
use Rattle.pb_lattice.proofs.Halves.{at_left, at_right, halves, on_one_side}
use Rattle.pb_lattice.specs.Arena.{IsSplit}

-- the marks go by what is known of each of the names
pub same_marks : (m : ℕ) (e f g h : Exit) (ns : List Name) (ks : List ℕ) → ((n : Name) → is_among n ns ≡ true → spot_in n e ≡ spot_in n g) → ((n : Name) → is_among n ns ≡ true → spot_in n f ≡ spot_in n h)
    → lost_marks m e f ns ks ≡ lost_marks m g h ns ks
same_marks m e f g h [] ks a b = refl
same_marks m e f g h (n ∷ ns) [] a b = refl
same_marks m e f g h (n ∷ ns) (k ∷ ks) a b =
    let own = or-left (bytes_eq n n) (is_among n ns) (own_name n) in
    let rest = same_marks m e f g h ns ks (λ o i. a o (or-right (bytes_eq o n) (is_among o ns) i)) (λ o i. b o (or-right (bytes_eq o n) (is_among o ns) i)) in
    ap (λ s. cond (is_certain s && not (is_certain (spot_in n f))) m k ∷ lost_marks m e f ns ks) (a n own) ∙ ap (λ s. cond (is_certain (spot_in n g) && not (is_certain s)) m k ∷ lost_marks m e f ns ks) (b n own)
    ∙ ap (λ z. cond (is_certain (spot_in n g) && not (is_certain (spot_in n h))) m k ∷ z) rest

pub marks-append : (m : ℕ) (e f : Exit) (ns os : List Name) (ks ls : List ℕ) → length ns ≡ length ks → lost_marks m e f (ns ++ os) (ks ++ ls) ≡ lost_marks m e f ns ks ++ lost_marks m e f os ls
marks-append m e f [] os [] ls h = refl
marks-append m e f [] os (k ∷ ks) ls h = absurd (cc)
marks-append m e f (n ∷ ns) os [] ls h = absurd (cc)
marks-append m e f (n ∷ ns) os (k ∷ ks) ls h = ap (λ z. cond (is_certain (spot_in n e) && not (is_certain (spot_in n f))) m k ∷ z) (marks-append m e f ns os ks ls (omega (arith, h)))

kept_here : (a b : Bool) (m k : ℕ) → a ≡ false → cond (a && not b) m k ≡ k
kept_here true b m k h = untrue (sym h)
kept_here false b m k h = refl

-- where nothing is certain nothing is lost
pub none_lost : (m : ℕ) (e f : Exit) (ns : List Name) (ks : List ℕ) → ((n : Name) → is_certain (spot_in n e) ≡ false) → length ns ≡ length ks → lost_marks m e f ns ks ≡ ks
none_lost m e f [] [] a h = refl
none_lost m e f [] (k ∷ ks) a h = refl
none_lost m e f (n ∷ ns) [] a h = refl
none_lost m e f (n ∷ ns) (k ∷ ks) a h = let here = kept_here (is_certain (spot_in n e)) (is_certain (spot_in n f)) m k (a n) in rw (here, none_lost m e f ns ks a (omega (arith, h))) refl

own_kept : (a : Bool) (m k : ℕ) → cond (a && not a) m k ≡ k
own_kept true m k = refl
own_kept false m k = refl

-- nor where what is known is the same
pub same_lose : (m : ℕ) (e : Exit) (ns : List Name) (ks : List ℕ) → length ns ≡ length ks → lost_marks m e e ns ks ≡ ks
same_lose m e [] ks h = refl
same_lose m e (n ∷ ns) [] h = refl
same_lose m e (n ∷ ns) (k ∷ ks) h = let here = own_kept (is_certain (spot_in n e)) m k in rw (here, same_lose m e ns ks (omega (arith, h))) refl

on_right_step : (b : Bool) (n : Name) (ns : List Name) → IsAscending ns → is_among n (right_half ns) ≡ true → is_among n (left_half ns) ≡ b → b ≡ false
on_right_step true n ns up i e = untrue (sym (on_one_side n ns up e) ∙ i)
on_right_step false n ns up i e = refl

on_right : (n : Name) (ns : List Name) → IsAscending ns → is_among n (right_half ns) ≡ true → is_among n (left_half ns) ≡ false
on_right n ns up i = on_right_step (is_among n (left_half ns)) n ns up i refl

same_halves : (ns : List Name) (ks : List ℕ) → length ns ≡ length ks → length (left_half ns) ≡ length (take (length ks / 2) ks)
same_halves ns ks h = rw (h) (length_taken (length ks / 2) ns ks h) where
  length_taken : (i : ℕ) (ns : List Name) (ks : List ℕ) → length ns ≡ length ks → length (take i ns) ≡ length (take i ks)
  length_taken i ns ks h = rw (length-take i ns, length-take i ks, h) refl

length_dropped : (i : ℕ) (ns : List Name) (ks : List ℕ) → length ns ≡ length ks → length (drop i ns) ≡ length (drop i ks)
length_dropped i ns ks h = rw (length-drop i ns, length-drop i ks, h) refl

same_rests : (ns : List Name) (ks : List ℕ) → length ns ≡ length ks → length (right_half ns) ≡ length (drop (length ks / 2) ks)
same_rests ns ks h = rw (h) (length_dropped (length ks / 2) ns ks h)

-- of a fork each half is marked by itself
pub fork-lose : (m : ℕ) (l r p q : Tree) (ns : List Name) (ks : List ℕ) → IsAscending ns → length ns ≡ length ks
    → lost_marks m (live (slots_over l (left_half ns))) (live (slots_over p (left_half ns))) (left_half ns) (take (length ks / 2) ks)
    ++ lost_marks m (live (slots_over r (right_half ns))) (live (slots_over q (right_half ns))) (right_half ns) (drop (length ks / 2) ks)
    ≡ lost_marks m (live (slots_over (fork l r) ns)) (live (slots_over (fork p q) ns)) ns ks
fork-lose m l r p q ns ks up h =
    let xs = left_half ns in
    let ys = right_half ns in
    let us = take (length ks / 2) ks in
    let vs = drop (length ks / 2) ks in
    let e = live (slots_over (fork l r) ns) in
    let f = live (slots_over (fork p q) ns) in
    let first = same_marks m (live (slots_over l xs)) (live (slots_over p xs)) e f xs us
    (λ n i. sym (at_left n l r ns (on_one_side n ns up i))) (λ n i. sym (at_left n p q ns (on_one_side n ns up i))) in
    let rest = same_marks m (live (slots_over r ys)) (live (slots_over q ys)) e f ys vs
    (λ n i. sym (at_right n l r ns (on_right n ns up i))) (λ n i. sym (at_right n p q ns (on_right n ns up i))) in
    rw (first, rest) (sym (marks-append m e f xs ys us vs (same_halves ns ks h)) ∙ ap (λ z. lost_marks m e f z (us ++ vs)) (joined ns) ∙ ap (lost_marks m e f ns) (joined_marks ks)) where
      joined : (ns : List Name) → left_half ns ++ right_half ns ≡ ns
      joined ns = take-append-drop (length ns / 2) ns

      joined_marks : (ks : List ℕ) → take (length ks / 2) ks ++ drop (length ks / 2) ks ≡ ks
      joined_marks ks = take-append-drop (length ks / 2) ks

-- of one name
one_known : (m : ℕ) (a : Bool) (k : KindData) (u : Tree) (n : Name) (j : ℕ) → fits u (n ∷ []) ≡ true → a ≡ true → is_surely u ≡ false
    → m ∷ [] ≡ lost_marks m (live (slots_over (known a k) (n ∷ []))) (live (slots_over u (n ∷ []))) (n ∷ []) (j ∷ [])
one_known m a k bare n j h i g = rw (own_name n, i) refl
one_known m a k (known b x) n j h i g = rw (own_name n, i, g) refl
one_known m a k (fork p q) n j h i g = untrue h

two_not_one : (k : ℕ) → suc (suc k) == 1 ≡ true → ⊥
two_not_one k h = grind (arith, nat_tests)

one_lost : (m : ℕ) (a : Bool) (k : KindData) (u : Tree) (ns : List Name) (ks : List ℕ) → length ns ≡ length ks → fits (known a k) ns ≡ true → fits u ns ≡ true → a ≡ true → is_surely u ≡ false
    → slice_set ks 0 m ≡ lost_marks m (live (slots_over (known a k) ns)) (live (slots_over u ns)) ns ks
one_lost m a k u [] ks h f g i j = untrue f
one_lost m a k u (n ∷ []) [] h f g i j = absurd (cc)
one_lost m a k u (n ∷ []) (x ∷ []) h f g i j = one_known m a k u n x g i j
one_lost m a k u (n ∷ []) (x ∷ y ∷ ks) h f g i j = absurd (cc)
one_lost m a k u (n ∷ o ∷ ns) ks h f g i j = absurd (two_not_one (length ns) f)

-- what a tree of one name loses
pub tree_loses : (m : ℕ) (a : Bool) (k : KindData) (t u : Tree) (ns : List Name) (ks : List ℕ) → t ≡ known a k → length ns ≡ length ks → fits t ns ≡ true → fits u ns ≡ true → a ≡ true → is_surely u ≡ false
    → slice_set ks 0 m ≡ lost_marks m (live (slots_over t ns)) (live (slots_over u ns)) ns ks
tree_loses m a k t u ns ks is h f g i j = rw (is) (one_lost m a k u ns ks h (subst (λ (x : Tree). fits x ns ≡ true) is f) g i j)

-- a tree of which nothing is known loses nothing
pub bare_loses : (m : ℕ) (t : Tree) (f : Exit) (ns : List Name) (ks : List ℕ) → t ≡ bare → length ns ≡ length ks → ks ≡ lost_marks m (live (slots_over t ns)) f ns ks
bare_loses m t f ns ks is h = rw (is) (sym (none_lost m (live no_slots) f ns ks (λ n. refl) h))

two_names : (l r : Tree) (ns : List Name) → fits (fork l r) ns ≡ true → 1 < length ns
two_names l r ns h = let two = and-left (nat_le 2 (length ns)) (fits l (left_half ns) && fits r (right_half ns)) h in grind (arith, nat_tests)

fork_fits : (l r : Tree) (ns : List Name) → fits (fork l r) ns ≡ true → (fits l (left_half ns) ≡ true) × (fits r (right_half ns) ≡ true)
fork_fits l r ns h =
    let both = and-right (nat_le 2 (length ns)) (fits l (left_half ns) && fits r (right_half ns)) h in
    (and-left (fits l (left_half ns)) (fits r (right_half ns)) both, and-right (fits l (left_half ns)) (fits r (right_half ns)) both)

-- marked so, half by half
abbrev pub Marks : ℕ → Tree → Tree → List ℕ → List ℕ → Type 0
Marks m t u old new = (ns : List Name) → IsAscending ns → length ns ≡ length old → fits t ns ≡ true → fits u ns ≡ true → new ≡ lost_marks m (live (slots_over t ns)) (live (slots_over u ns)) ns old

pub fork_marks : (m : ℕ) (t u l r p q : Tree) (ks us vs xs ys : List ℕ) → t ≡ fork l r → IsSplit u p q → us ≡ take (length ks / 2) ks → vs ≡ drop (length ks / 2) ks → Marks m l p us xs → Marks m r q vs ys
    → Marks m t u ks (xs ++ ys)
fork_marks m t u l r p q ks us vs xs ys is split a b one other ns up many low high =
    let fit = subst (λ (x : Tree). fits x ns ≡ true) is low in
    let here = split ns (two_names l r ns fit) high in
    let under = fork_fits p q ns here.0 in
    let over = fork_fits l r ns fit in
    let sizes = same_halves ns ks many in
    let rests = same_rests ns ks many in
    let first = one (left_half ns) (halves ns up).first (sizes ∙ ap length (sym a)) over.0 under.0 in
    let rest = other (right_half ns) (halves ns up).rest (rests ∙ ap length (sym b)) over.1 under.1 in
    rw (first, rest, a, b, is) (fork-lose m l r p q ns ks up many ∙ ap (λ (s : Slots). lost_marks m (live (slots_over (fork l r) ns)) (live s) ns ks) here.1)
