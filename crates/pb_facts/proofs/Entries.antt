-- Entries by their row and their place in it.
use Rattle.std.proofs.Common.{◌≡◌, ◌<◌, ◌+◌, ◌*◌, ℕ, zero, suc, List, [], ◌∷◌, take, drop, get_or, set, length, map, ◌++◌}
use Rattle.std.proofs.Common.{replicate, refl, sym, ap, ◌∙◌, arith}
use Rattle.std.proofs.lemmas.List.{get_or_default, get_or-take, get_or-drop, drop-set-lt, drop-set-add, take-set-le}
use Rattle.std.proofs.lemmas.List.{take-replicate, drop-replicate, length-take-le, length-drop, map-append, take_more}
use Rattle.std.proofs.Math.Seq.{take-set-lt}
use Rattle.pb_facts.specs.Rows.{rows}

first_index : (length place : ℕ) → place ≡ zero * length + place
first_index length place = omega arith

next_index : (row length place : ℕ) → length + (row * length + place) ≡ suc row * length + place
next_index row length place = omega arith

both : {A : Type 0} {x y : A} {xs ys : List A} → x ≡ y → xs ≡ ys → x ∷ xs ≡ y ∷ ys
both h i = rw (h, i) refl

pub at-rows : {A : Type 0} (count length : ℕ) (values : List A) (row place : ℕ) (d : A)
    → row < count → place < length
    → get_or (get_or (rows count length values) row []) place d ≡ get_or values (row * length + place) d
at-rows zero n vs row place d h i = absurd (omega (arith, h))
at-rows (suc count) n vs zero place d h i =
    get_or-take n vs place d i ∙ ap (λ k. get_or vs k d) (first_index n place)
at-rows (suc count) n vs (suc row) place d h i =
    at-rows count n (drop n vs) row place d (omega (arith, h)) i
    ∙ get_or-drop n vs (row * n + place) d
    ∙ ap (λ k. get_or vs k d) (next_index row n place)

pub set-rows : {A : Type 0} (count length : ℕ) (values : List A) (row place : ℕ) (x : A)
    → row < count → place < length
    → rows count length (set values (row * length + place) x)
    ≡ set (rows count length values) row (set (get_or (rows count length values) row []) place x)
set-rows zero n vs row place x h i = absurd (omega (arith, h))
set-rows (suc count) n vs zero place x h i =
    ap (λ k. rows (suc count) n (set vs k x)) (sym (first_index n place))
    ∙ both (take-set-lt n vs place x i) (ap (rows count n) (drop-set-lt n vs place x i))
set-rows (suc count) n vs (suc row) place x h i =
    let e = sym (next_index row n place) in
    let front : take n (set vs (suc row * n + place) x) ≡ take n vs =
    take-set-le n vs (suc row * n + place) x (omega (arith, e)) in
    let back : drop n (set vs (suc row * n + place) x) ≡ set (drop n vs) (row * n + place) x =
    ap (λ k. drop n (set vs k x)) e ∙ drop-set-add n vs (row * n + place) x in
    both front (ap (rows count n) back ∙ set-rows count n (drop n vs) row place x (omega (arith, h)) i)

pub rows-replicate : {A : Type 0} (count length : ℕ) (x : A)
    → rows count length (replicate (count * length) x) ≡ replicate count (replicate length x)
rows-replicate zero n x = refl
rows-replicate (suc count) n x =
    let front : take n (replicate (suc count * n) x) ≡ replicate n x =
    take-replicate n (suc count * n) x (omega arith) in
    let back : drop n (replicate (suc count * n) x) ≡ replicate (count * n) x =
    drop-replicate n (suc count * n) x ∙ ap (λ k. replicate k x) (omega arith) in
    both front (ap (rows count n) back ∙ rows-replicate count n x)

-- each row has that length
pub length-row : {A : Type 0} (count length_ : ℕ) (values : List A) (row : ℕ)
    → length values ≡ count * length_ → row < count
    → length (get_or (rows count length_ values) row []) ≡ length_
length-row zero n vs row e h = absurd (omega (arith, h))
length-row (suc count) n vs zero e h = length-take-le n vs (omega (arith, e))
length-row (suc count) n vs (suc row) e h =
    length-row count n (drop n vs) row (length-drop n vs ∙ omega (arith, e)) (omega (arith, h))

-- one more copy of a row's entries
pub next_copy : {A B : Type 0} (f : A → B) (done row : List A) (i : ℕ) (x d : A)
    → map f done ≡ map f (take i row) → f x ≡ f (get_or row i d) → i < length row
    → map f (done ++ x ∷ []) ≡ map f (take (i + 1) row)
next_copy f done row i x d h g k =
    map-append f done (x ∷ []) ∙ ap (λ ys. ys ++ f x ∷ []) h ∙ ap (λ y. map f (take i row) ++ y ∷ []) g
    ∙ sym (ap (map f) (take_more row i d k) ∙ map-append f (take i row) (get_or row i d ∷ []))

pub length-rows : {A : Type 0} (count length_ : ℕ) (values : List A)
    → length (rows count length_ values) ≡ count
length-rows zero n vs = refl
length-rows (suc count) n vs = ap suc (length-rows count n (drop n vs))

-- an element that is there doesn't hang on what stands for one that isn't
pub row-default : {A : Type 0} (count length_ : ℕ) (values : List A) (row : ℕ) (d : List A)
    → row < length (rows count length_ values)
    → length (get_or (rows count length_ values) row d) ≡ length (get_or (rows count length_ values) row [])
row-default count n vs row d h = ap length (get_or_default (rows count n vs) row d [] h)
