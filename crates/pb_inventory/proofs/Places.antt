-- The places of nodes in an order.
use Rattle.std.proofs.Common.{◌≡◌, ℕ, ◌<◌, ◌≤◌, true, eqb, List, length, get_or, sym, subst, ◌∙◌, arith}
use Rattle.std.proofs.lemmas.Bool.{eqb-true, ne_eqb}
use Rattle.std.proofs.lemmas.List.{get_or_default}
use Rattle.std.proofs.lemmas.List.Folds.{Any-from_list_any}
use Rattle.std.proofs.lemmas.Map.Keys.{IsDistinct-from_apart}
use Rattle.std.proofs.lemmas.Map.Steps.{length-le_from_distinct_below}
use Rattle.pb_inventory.specs.Graph.{children_at, is_in, IsOrder}

-- an order has no more places than there are nodes
pub places-le : (cs : List (List ℕ)) (order : List ℕ) → IsOrder cs order → length order ≤ length cs
places-le cs order o = length-le_from_distinct_below order (length cs)
    (IsDistinct-from_apart eqb order (λ i j d lt within.
    ne_eqb (get_or order i d) (get_or order j d) (λ e.
    let same = o.once i j (omega arith) within
    (get_or_default order i 0 d (omega arith) ∙ e ∙ get_or_default order j d 0 within) in
    omega arith)))
    (λ q h.
    let a = Any-from_list_any (eqb q) order h in
    let e : get_or order a.0 0 ≡ q = get_or_default order a.0 0 a.1 a.2 ∙ a.3 ∙ sym (eqb-true q a.1 a.4) in
    subst (λ (n : ℕ). n < length cs) e (o.within a.0 a.2))

-- no node stands before its parent, or in its place
pub child_behind : (cs : List (List ℕ)) (order : List ℕ) → IsOrder cs order → (j k : ℕ) → j < length order → k < length order
    → is_in (get_or order k 0) (children_at cs (get_or order j 0)) ≡ true → j < k
child_behind cs order o j k jn kn h =
    let b = o.behind j (get_or order k 0) jn h in
    let same = o.once b.0 k b.2 kn b.3 in
    omega arith
