-- An order of a graph has no cycle, and what a node holds is settled after as many generations as there are parents.
use Rattle.std.proofs.Common.{◌≡◌, ℕ, zero, suc, ◌<◌, ◌≤◌, List, [], ◌∷◌, ◌++◌, length, get_or, drop, Bool, true, false, cond, refl, sym, ap, ◌∙◌, subst, inl, inr, arith}
use Rattle.std.proofs.lemmas.Bool.{cases_lt, false_from_ne_true}
use Rattle.std.proofs.lemmas.List.{append-nil, get_or_past}
use Rattle.std.specs.List.{flat_map}
use Rattle.pb_inventory.specs.Graph.{children_at, is_in, below, parents_count, IsGraph, IsOrder}
use Rattle.pb_inventory.specs.Held.{held}
use Rattle.pb_inventory.proofs.Members.{flat_map-same, from-flat_map, is_in-append, is_in-drop, none_in, place-drop}
use Rattle.pb_inventory.proofs.Totals.{total_where, total-lost}

-- one for a node that has children
abbrev pub one_parent : List ℕ → ℕ
one_parent [] = 0
one_parent (c ∷ ds) = 1

pub one_parent-of : (c : ℕ) (ds : List ℕ) → is_in c ds ≡ true → one_parent ds ≡ 1
one_parent-of c [] h = absurd (cc)
one_parent-of c (d ∷ ds) h = refl

cond-most : (n : ℕ) (b : Bool) → cond b n 0 ≤ n
cond-most n true = omega arith
cond-most n false = omega arith

pub parents-most : (p : ℕ → Bool) (k : ℕ) (cs : List (List ℕ)) → total_where one_parent p k cs ≤ parents_count cs
parents-most p k [] = omega arith
parents-most p k ([] ∷ cs) = omega (arith, cond-most 0 (p k), parents-most p (suc k) cs)
parents-most p k ((c ∷ ds) ∷ cs) = omega (arith, cond-most 1 (p k), parents-most p (suc k) cs)

-- how many nodes that have children stand at a position of the order or behind it
abbrev pub parents_from : List (List ℕ) → List ℕ → ℕ → ℕ
parents_from cs order j = total_where one_parent (λ i. is_in i (drop j order)) 0 cs

-- a child stands where fewer of them are left
pub parents_within : (cs : List (List ℕ)) (order : List ℕ) → IsOrder cs order → (j c : ℕ) → j < length order → is_in c (children_at cs (get_or order j 0)) ≡ true
    → (k : ℕ) × (k < length order) × (get_or order k 0 ≡ c) × (parents_from cs order k < parents_from cs order j)
parents_within cs order o j c lt h =
    let b = o.behind j c lt h in
    let n = get_or order j 0 in
    let gone : is_in n (drop b.0 order) ≡ false = false_from_ne_true (is_in n (drop b.0 order))
    (λ i. let p = place-drop n order b.0 i in omega (arith, b.1, p.1, o.once p.0 j p.2 lt p.3)) in
    let stays = λ (i : ℕ) (e : is_in i (drop b.0 order) ≡ true). let p = place-drop i order b.0 e in is_in-drop i order j p.0 (omega (arith, b.1, p.1)) p.2 p.3 in
    let less = total-lost one_parent (λ i. is_in i (drop j order)) (λ i. is_in i (drop b.0 order)) 0 cs n n (o.within j lt) (omega arith)
    (is_in-drop n order j j (omega arith) lt refl) gone stays in
    (b.0, b.2, b.3, (omega (arith, less, one_parent-of c (children_at cs n) h)))

module _ {A : Type 0} (own : ℕ → List A) (cs : List (List ℕ)) (order : List ℕ) (o : IsOrder cs order) where
  held-alone : (m j : ℕ) → j < length order → parents_from cs order j ≤ 0 → held m own cs (get_or order j 0) ≡ own (get_or order j 0)
  held-alone zero j lt few = refl
  held-alone (suc m) j lt few =
      let n = get_or order j 0 in
      let none = none_in (children_at cs n) (λ c h. let b = parents_within cs order o j c lt h in omega (arith, b.3, few)) in
      ap (λ (ds : List ℕ). own n ++ flat_map (held m own cs) ds) none ∙ append-nil (own n)

  held-same : (k m j : ℕ) → j < length order → parents_from cs order j ≤ k → parents_from cs order j ≤ m
      → held k own cs (get_or order j 0) ≡ held m own cs (get_or order j 0)
  held-same zero m j lt few less = sym (held-alone m j lt few)
  held-same (suc k) zero j lt few less = held-alone (suc k) j lt less
  held-same (suc k) (suc m) j lt few less =
      let n = get_or order j 0 in
      let same = λ (c : ℕ) (h : is_in c (children_at cs n) ≡ true).
      let b = parents_within cs order o j c lt h in
      subst (λ x. held k own cs x ≡ held m own cs x) b.2 (held-same k m b.0 b.1 (omega (arith, b.3, few)) (omega (arith, b.3, less))) in
      ap (λ xs. own n ++ xs) (flat_map-same (held k own cs) (held m own cs) (children_at cs n) same)

  held-settled : (k m i : ℕ) → i < length cs → parents_count cs ≤ k → parents_count cs ≤ m → held k own cs i ≡ held m own cs i
  held-settled k m i lt few less =
      let p = o.whole i lt in
      let most = parents-most (λ x. is_in x (drop p.0 order)) 0 cs in
      subst (λ x. held k own cs x ≡ held m own cs x) p.2 (held-same k m p.0 p.1 (omega (arith, most, few)) (omega (arith, most, less)))

pub held_enough : {A : Type 0} (own : ℕ → List A) (cs : List (List ℕ)) (order : List ℕ) → IsGraph cs → IsOrder cs order
    → (k i : ℕ) → i < length cs → parents_count cs ≤ k → held k own cs i ≡ held (parents_count cs) own cs i
held_enough own cs order g o k i lt few = held-settled own cs order o k (parents_count cs) i lt few (omega arith)

pub held_unfolds : {A : Type 0} (own : ℕ → List A) (cs : List (List ℕ)) (order : List ℕ) → IsGraph cs → IsOrder cs order
    → (i : ℕ) → i < length cs → held (parents_count cs) own cs i ≡ own i ++ flat_map (held (parents_count cs) own cs) (children_at cs i)
held_unfolds own cs order g o i lt = held-settled own cs order o (parents_count cs) (suc (parents_count cs)) i lt (omega arith) (omega arith)

-- each descendant of a node stands behind it
abbrev Behind : List ℕ → ℕ → ℕ → Type 0
Behind order j v = (k : ℕ) × (j < k) × (k < length order) × (get_or order k 0 ≡ v)

below-behind : (cs : List (List ℕ)) (order : List ℕ) → IsOrder cs order → (k j v : ℕ) → j < length order → is_in v (below k cs (get_or order j 0)) ≡ true → Behind order j v
below-behind cs order o zero j v lt h = absurd (cc)
below-behind cs order o (suc k) j v lt h =
    let ds = children_at cs (get_or order j 0) in
    elim (is_in-append v ds (flat_map (below k cs) ds) h) [
      | inl a ↦ o.behind j v lt a
      | inr b ↦
          let c = from-flat_map v (below k cs) ds b in
          let p = o.behind j c.0 lt c.1 in
          let q = below-behind cs order o k p.0 v p.2 (ap (λ x. is_in v (below k cs x)) p.3 ∙ c.2) in
          (q.0, (omega (arith, p.1, q.1)), q.2, q.3)
    ]

-- what is no node has no descendants
pub below-past : (cs : List (List ℕ)) (k i : ℕ) → length cs ≤ i → below k cs i ≡ []
below-past cs zero i h = refl
below-past cs (suc k) i h = ap (λ (ds : List ℕ). ds ++ flat_map (below k cs) ds) (get_or_past cs i [] h)

pub no_cycle : (cs : List (List ℕ)) (order : List ℕ) → IsGraph cs → IsOrder cs order → (k i : ℕ) → is_in i (below k cs i) ≡ false
no_cycle cs order g o k i = elim (cases_lt i (length cs)) [
  | inl lt ↦ false_from_ne_true (is_in i (below k cs i)) (λ h.
      let p = o.whole i lt in
      let b = below-behind cs order o k p.0 i p.1 (ap (λ x. is_in i (below k cs x)) p.2 ∙ h) in
      omega (arith, b.1, o.once b.0 p.0 b.2 p.1 (b.3 ∙ sym p.2)))
  | inr past ↦ ap (is_in i) (below-past cs k i past)
]
