-- Rows of numbers, and what is in them.
use Rattle.std.proofs.Common.{◌≡◌, ℕ, zero, suc, ◌<◌, true, List, [], ◌∷◌, length, get_or, replicate, set, sym, ap, ◌∙◌, arith, Vec, Global}
use Rattle.std.specs.List.{All}
use Rattle.std.proofs.lemmas.List.{get_or_default, get_or-map, get_or-replicate, length-map, length-replicate, map-set}
use Rattle.pb_inventory.specs.Graph.{children_at, is_in, IsGraph}
use Rattle.pb_inventory.specs.Families.{AreBelow, lists_of}
use Rattle.pb_inventory.proofs.Members.{is_in-at, place-of}

is_in-get_or : (ns : List ℕ) (k d : ℕ) → k < length ns → is_in (get_or ns k d) ns ≡ true
is_in-get_or ns k d lt = is_in-at (get_or ns k d) ns k lt (get_or_default ns k 0 d lt)

-- what indexing a table of lists gives
pub row_read : (vs : List (Vec ℕ Global)) (i : ℕ) (v : Vec ℕ Global) → i < length vs → v ≡ get_or vs i v
    → children_at (lists_of vs) i ≡ v.items
row_read vs i v lt is = get_or-map (λ v. v.items) vs i v [] lt ∙ ap (λ v. v.items) (sym is)

-- lists that are empty have each number below any limit
pub below_none : (vs : List (Vec ℕ Global)) (n limit : ℕ) → lists_of vs ≡ replicate n [] → AreBelow limit vs
below_none vs n limit h = λ k d lt i e within.
    let few : k < n = omega (arith, length-map vs (λ v. v.items), ap length h, length-replicate {A = List ℕ} n []) in
    let none : (get_or vs k d).items ≡ [] = sym (get_or-map (λ v. v.items) vs k d [] lt) ∙ ap (λ xs. get_or xs k []) h ∙ get_or-replicate n k [] [] few in
    absurd (omega (arith, ap length none))

pub lists_of-set : (vs : List (Vec ℕ Global)) (i : ℕ) (v : Vec ℕ Global) → lists_of (set vs i v) ≡ set (lists_of vs) i v.items
lists_of-set vs i v = map-set (λ w. w.items) vs i v

-- a child of a row is a node
pub row_within : (cs : List (List ℕ)) (i n : ℕ) (row : List ℕ) → IsGraph cs → row ≡ children_at cs i → length cs ≡ n → All (λ c. c < n) row
row_within cs i n row graph e count = λ k d lt.
    let there = graph i (get_or row k d) (ap (is_in (get_or row k d)) (sym e) ∙ is_in-get_or row k d lt) in
    omega arith

-- what is in a row is below the limit of all
pub in_row-below : (vs : List (Vec ℕ Global)) (limit i h : ℕ) → AreBelow limit vs → is_in h (get_or (lists_of vs) i []) ≡ true → h < limit
in_row-below [] limit i h below there = absurd (cc)
in_row-below (v ∷ vs) limit zero h below there =
    let p = place-of h v.items there in
    let one = below 0 v (omega arith) p.0 0 p.2 in
    omega (arith, one, p.3)
in_row-below (v ∷ vs) limit (suc i) h below there = in_row-below vs limit i h (λ k d lt. below (suc k) d (omega (arith, lt))) there

-- and the other way round
pub below-rows : (vs : List (Vec ℕ Global)) (limit : ℕ) → ((i h : ℕ) → is_in h (get_or (lists_of vs) i []) ≡ true → h < limit) → AreBelow limit vs
below-rows vs limit within = λ k d lt i e few.
    let row : get_or (lists_of vs) k [] ≡ (get_or vs k d).items = get_or-map (λ v. v.items) vs k d [] lt in
    within k (get_or (get_or vs k d).items i e) (ap (is_in (get_or (get_or vs k d).items i e)) row ∙ is_in-get_or (get_or vs k d).items i e few)
