-- Where each node of some has a parent among them, some node is its own descendant.
use Rattle.std.proofs.Common.{◌≡◌, ℕ, zero, suc, ◌+◌, ◌<◌, ◌≤◌, List, [], ◌∷◌, length, true, false, not, ap, ◌∙◌, inl, inr, arith}
use Rattle.std.proofs.lemmas.Bool.{cases_Bool, cases_lt, not-true, not_from_false, not_from_true, or_cases, or_parts, eqb-true}
use Rattle.std.proofs.lemmas.List.{get_or_past}
use Rattle.std.specs.List.{flat_map}
use Rattle.std.specs.Prelude.{nat_eq}
use Rattle.pb_inventory.specs.Graph.{HasCycle, below, children_at, is_in, parents_count}
use Rattle.pb_inventory.proofs.Members.{from-flat_map, is_in-append, is_in-append_left, is_in-append_right, is_in-flat_map, is_in-head}
use Rattle.pb_inventory.proofs.Orders.{one_parent, one_parent-of, parents-most}
use Rattle.pb_inventory.proofs.Totals.{total_where, total-lost}

-- a descendant within some generations is one within more
pub below-more : (cs : List (List ℕ)) (k m i v : ℕ) → k ≤ m → is_in v (below k cs i) ≡ true → is_in v (below m cs i) ≡ true
below-more cs zero m i v le h = absurd (cc)
below-more cs (suc k) zero i v le h = absurd (omega (arith, le))
below-more cs (suc k) (suc m) i v le h =
    let ds = children_at cs i in
    elim (is_in-append v ds (flat_map (below k cs) ds) h) [
      | inl a ↦ is_in-append_left v ds (flat_map (below m cs) ds) a
      | inr b ↦
          let c = from-flat_map v (below k cs) ds b in
          is_in-append_right v ds (flat_map (below m cs) ds) (is_in-flat_map v (below m cs) ds c.0 c.1 (below-more cs k m c.0 v (omega (arith, le)) c.2))
    ]

below-parent : (cs : List (List ℕ)) (p x : ℕ) (seen : List ℕ) → is_in x (children_at cs p) ≡ true → ((v : ℕ) → is_in v seen ≡ true → is_in v (below (length seen) cs x) ≡ true)
    → (v : ℕ) → is_in v (x ∷ seen) ≡ true → is_in v (below (suc (length seen)) cs p) ≡ true
below-parent cs p x seen child reach v h =
    let ds = children_at cs p in
    elim (or_cases (nat_eq v x) (is_in v seen) h) [
      | inl e ↦ is_in-append_left v ds (flat_map (below (length seen) cs) ds) (ap (λ y. is_in y ds) (eqb-true v x e) ∙ child)
      | inr r ↦ is_in-append_right v ds (flat_map (below (length seen) cs) ds) (is_in-flat_map v (below (length seen) cs) ds x child (reach v r))
    ]

pub parent-within : (cs : List (List ℕ)) (x c : ℕ) → is_in c (children_at cs x) ≡ true → x < length cs
parent-within cs x c h = elim (cases_lt x (length cs)) [
  | inl lt ↦ lt
  | inr past ↦ let none = ap (is_in c) (get_or_past cs x [] past) in absurd (cc)
]

-- how many nodes that have children are not among the seen ones
abbrev unseen : List (List ℕ) → List ℕ → ℕ
unseen cs seen = total_where one_parent (λ i. not (is_in i seen)) 0 cs

fewer-unseen : (cs : List (List ℕ)) (seen : List ℕ) (x c : ℕ) → is_in c (children_at cs x) ≡ true → is_in x seen ≡ false → unseen cs (x ∷ seen) < unseen cs seen
fewer-unseen cs seen x c h new =
    let less = total-lost one_parent (λ i. not (is_in i seen)) (λ i. not (is_in i (x ∷ seen))) 0 cs x x (parent-within cs x c h) (omega arith)
    (not_from_false (is_in x seen) new) (not_from_true (is_in x (x ∷ seen)) (is_in-head x seen))
    (λ i e. not_from_false (is_in i seen) (or_parts (nat_eq i x) (is_in i seen) (not-true (is_in i (x ∷ seen)) e)).1) in
    omega (arith, less, one_parent-of c (children_at cs x) h)

module _ (cs : List (List ℕ)) (Rest : ℕ → Type 0) (parent : (n : ℕ) → Rest n → (p : ℕ) × Rest p × (is_in n (children_at cs p) ≡ true)) where
  -- back from parent to parent, until one was seen before
  walk : (steps : ℕ) (seen : List ℕ) (x c : ℕ) → Rest x → is_in c (children_at cs x) ≡ true → unseen cs seen ≤ steps → unseen cs seen + length seen ≤ parents_count cs
      → ((v : ℕ) → is_in v seen ≡ true → is_in v (below (length seen) cs x) ≡ true) → HasCycle cs
  walk zero seen x c r h few most reach = elim (cases_Bool (is_in x seen)) [
    | inl old ↦ (x, below-more cs (length seen) (parents_count cs) x x (omega (arith, most)) (reach x old))
    | inr new ↦ absurd (omega (arith, few, fewer-unseen cs seen x c h new))
  ]
  walk (suc steps) seen x c r h few most reach = elim (cases_Bool (is_in x seen)) [
    | inl old ↦ (x, below-more cs (length seen) (parents_count cs) x x (omega (arith, most)) (reach x old))
    | inr new ↦
        let p = parent x r in
        let less = fewer-unseen cs seen x c h new in
        walk steps (x ∷ seen) p.0 x p.1 p.2 (omega (arith, few, less)) (omega (arith, most, less)) (below-parent cs p.0 x seen p.2 reach)
  ]

pub stuck : (cs : List (List ℕ)) (Rest : ℕ → Type 0) → ((n : ℕ) → Rest n → (p : ℕ) × Rest p × (is_in n (children_at cs p) ≡ true)) → (n : ℕ) → Rest n → HasCycle cs
stuck cs Rest parent n r =
    let p = parent n r in
    let most = parents-most (λ i. not (is_in i [])) 0 cs in
    walk cs Rest parent (parents_count cs) [] p.0 n p.1 p.2 most (omega (arith, most)) (λ v h. absurd (cc))
