-- A slot put under a name of one half is put into that half.
use Rattle.std.proofs.Common.{◌≡◌, ◌+◌, ◌<◌, ◌/◌, List, [], ◌∷◌, ◌++◌, length, drop, get_or, Bool, true, refl, sym, ap, ◌∙◌, subst, arith}
use Rattle.std.proofs.lemmas.List.{take-append-drop, drop_more}
use Rattle.std.proofs.lemmas.Cmp.{tied_itself}
use Rattle.std.specs.Cmp.Lexicographic.{nat_list_cmp_total}
use Rattle.std.specs.Ordering.{match_ordering, ordering_reverse}
use Rattle.std.specs.declared.cmp.Ordering.{Ordering}
use Rattle.std.specs.declared.cmp.Ordering.TheVariants.{Less, Equal, Greater}
use Rattle.std.specs.List.{AllByRecursion}
use Rattle.std.specs.List.Sorted.{IsStrictlySortedBy}
use Rattle.pb_semantics.specs.Kind.{KindData, Slots, no_slots, slot, put_slot}
use Rattle.pb_semantics.proofs.Bools.{untrue}
use Rattle.pb_semantics.proofs.PutSlots.{equal_name}
use Rattle.pb_language.specs.Expression.{Name}
use Rattle.pb_lattice.specs.Trees.{Tree, bare, known, fork, fits, left_half, right_half, append_slots, slots_over, IsAscending}
use Rattle.pb_lattice.proofs.Halves.{order, IsBefore, AreBefore, halves}
use Rattle.pb_lattice.proofs.TreeOrder.{fits_alike}

-- where the name stands beside each of these
abbrev pub Stands : Ordering → Name → List Name → Type 0
Stands o n ms = AllByRecursion (λ m. order n m ≡ o) ms

abbrev Placed : Ordering → Name → Slots → Type 0
Placed o n no_slots = Unit {0}
Placed o n (slot m a k ss) = (order n m ≡ o) × Placed o n ss

stands_left : (o : Ordering) (n : Name) (xs ys : List Name) → Stands o n (xs ++ ys) → Stands o n xs
stands_left o n [] ys h = tt
stands_left o n (x ∷ xs) ys h = (h.0, stands_left o n xs ys h.1)

stands_right : (o : Ordering) (n : Name) (xs ys : List Name) → Stands o n (xs ++ ys) → Stands o n ys
stands_right o n [] ys h = h
stands_right o n (x ∷ xs) ys h = stands_right o n xs ys h.1

stands_halves : (o : Ordering) (n : Name) (ns : List Name) → Stands o n ns → Stands o n (left_half ns) × Stands o n (right_half ns)
stands_halves o n ns h =
    let both = subst (Stands o n) (sym (take-append-drop (length ns / 2) ns)) h in
    (stands_left o n (left_half ns) (right_half ns) both, stands_right o n (left_half ns) (right_half ns) both)

placed_append : (o : Ordering) (n : Name) (ss ts : Slots) → Placed o n ss → Placed o n ts → Placed o n (append_slots ss ts)
placed_append o n no_slots ts h i = i
placed_append o n (slot m a k ss) ts h i = (h.0, placed_append o n ss ts h.1 i)

placed_over : (o : Ordering) (n : Name) (t : Tree) (ns : List Name) → Stands o n ns → Placed o n (slots_over t ns)
placed_over o n bare ns h = tt
placed_over o n (known a k) [] h = tt
placed_over o n (known a k) (m ∷ ms) h = (h.0, tt)
placed_over o n (fork l r) ns h =
    let both = stands_halves o n ns h in
    placed_append o n (slots_over l (left_half ns)) (slots_over r (right_half ns)) (placed_over o n l (left_half ns) both.0) (placed_over o n r (right_half ns) both.1)

-- into the first of two
put_before : (n : Name) (a : Bool) (k : KindData) (ts : Slots) → Placed Less n ts → put_slot n a k ts ≡ slot n a k ts
put_before n a k no_slots h = refl
put_before n a k (slot m b j us) h = rw h.0 refl

put_left_step : (o : Ordering) (n m : Name) (a b : Bool) (k j : KindData) (ss ts us vs : Slots) → us ≡ append_slots vs ts
    → match_ordering o (slot n a k (slot m b j (append_slots ss ts))) (slot m a k (append_slots ss ts)) (slot m b j us)
    ≡ append_slots (match_ordering o (slot n a k (slot m b j ss)) (slot m a k ss) (slot m b j vs)) ts
put_left_step Less n m a b k j ss ts us vs e = refl
put_left_step Equal n m a b k j ss ts us vs e = refl
put_left_step Greater n m a b k j ss ts us vs e = ap (slot m b j) e

put_left : (n : Name) (a : Bool) (k : KindData) (ss ts : Slots) → Placed Less n ts → put_slot n a k (append_slots ss ts) ≡ append_slots (put_slot n a k ss) ts
put_left n a k no_slots ts h = put_before n a k ts h
put_left n a k (slot m b j ss) ts h = put_left_step (order n m) n m a b k j ss ts (put_slot n a k (append_slots ss ts)) (put_slot n a k ss) (put_left n a k ss ts h)

-- into the second
put_right : (n : Name) (a : Bool) (k : KindData) (ss ts : Slots) → Placed Greater n ss → put_slot n a k (append_slots ss ts) ≡ append_slots ss (put_slot n a k ts)
put_right n a k no_slots ts h = refl
put_right n a k (slot m b j ss) ts h = rw h.0 (ap (slot m b j) (put_right n a k ss ts h.1))

-- a tree whose half says what was put into that half
pub put_in_left : (n : Name) (a : Bool) (k : KindData) (l r v : Tree) (ns : List Name) → Stands Less n (right_half ns) → slots_over v (left_half ns) ≡ put_slot n a k (slots_over l (left_half ns))
    → slots_over (fork v r) ns ≡ put_slot n a k (slots_over (fork l r) ns)
put_in_left n a k l r v ns h e =
    ap (λ ss. append_slots ss (slots_over r (right_half ns))) e ∙ sym (put_left n a k (slots_over l (left_half ns)) (slots_over r (right_half ns)) (placed_over Less n r (right_half ns) h))

pub put_in_right : (n : Name) (a : Bool) (k : KindData) (l r w : Tree) (ns : List Name) → Stands Greater n (left_half ns) → slots_over w (right_half ns) ≡ put_slot n a k (slots_over r (right_half ns))
    → slots_over (fork l w) ns ≡ put_slot n a k (slots_over (fork l r) ns)
put_in_right n a k l r w ns h e =
    ap (λ ss. append_slots (slots_over l (left_half ns)) ss) e ∙ sym (put_right n a k (slots_over l (left_half ns)) (slots_over r (right_half ns)) (placed_over Greater n l (left_half ns) h))

tie : (n : Name) → order n n ≡ Equal
tie n = tied_itself nat_list_cmp_total n

-- over one name
pub put_at : (n : Name) (a : Bool) (k : KindData) (t : Tree) → fits t (n ∷ []) ≡ true → slots_over (known a k) (n ∷ []) ≡ put_slot n a k (slots_over t (n ∷ []))
put_at n a k bare f = refl
put_at n a k (known b j) f = rw (tie n) refl
put_at n a k (fork l r) f = untrue (fits_alike (known a k) (fork l r) (n ∷ []) refl f)

-- which half a name belongs to, by the first name of the second half
before_step : (n p : Name) (ms : List Name) → order n p ≡ Less → IsBefore p ms → Stands Less n ms
before_step n p [] h i = tt
before_step n p (m ∷ ms) h i = (nat_list_cmp_total.trans n p m h i.0, before_step n p ms h i.1)

before_all : (n p : Name) (ms : List Name) → IsAscending (p ∷ ms) → order n p ≡ Less → Stands Less n (p ∷ ms)
unfolding IsStrictlySortedBy
before_all n p ms h i = (i, before_step n p ms i h.0)

greater : (o : Ordering) (n x p : Name) → order n p ≡ o → (o ≡ Less → ⊥) → order x p ≡ Less → order n x ≡ Greater
greater Less n x p e f h = absurd (f refl)
greater Equal n x p e f h =
    let same = equal_name n p e in
    let less : order x n ≡ Less = rw same h in
    nat_list_cmp_total.antisymm n x ∙ ap ordering_reverse less
greater Greater n x p e f h =
    let turned : order p n ≡ Less = nat_list_cmp_total.antisymm p n ∙ ap ordering_reverse e in
    nat_list_cmp_total.antisymm n x ∙ ap ordering_reverse (nat_list_cmp_total.trans x p n h turned)

behind_all : (n p : Name) (xs ms : List Name) → AreBefore xs (p ∷ ms) → (order n p ≡ Less → ⊥) → Stands Greater n xs
behind_all n p [] ms h f = tt
behind_all n p (x ∷ xs) ms h f = (greater (order n p) n x p refl f h.0.0, behind_all n p xs ms h.1 f)

pub second_half : (p : Name) (ns : List Name) → 0 < length ns → p ≡ get_or ns (length ns / 2) p → right_half ns ≡ p ∷ drop (length ns / 2 + 1) ns
second_half p ns lt h =
    let within : length ns / 2 < length ns = omega arith in
    drop_more ns (length ns / 2) p within ∙ ap (λ q. q ∷ drop (length ns / 2 + 1) ns) (sym h)

pub in_first_half : (n p : Name) (ns : List Name) → IsAscending ns → 0 < length ns → p ≡ get_or ns (length ns / 2) p → order n p ≡ Less → Stands Less n (right_half ns)
in_first_half n p ns h lt at less =
    let split = second_half p ns lt at in
    let rest = subst IsAscending split (halves ns h).rest in
    subst (Stands Less n) (sym split) (before_all n p (drop (length ns / 2 + 1) ns) rest less)

pub in_second_half : (n p : Name) (ns : List Name) → IsAscending ns → 0 < length ns → p ≡ get_or ns (length ns / 2) p → (order n p ≡ Less → ⊥) → Stands Greater n (left_half ns)
in_second_half n p ns h lt at more =
    let split = second_half p ns lt at in
    let apart = subst (λ ms. AreBefore (left_half ns) ms) split (halves ns h).apart in
    behind_all n p (left_half ns) (drop (length ns / 2 + 1) ns) apart more
