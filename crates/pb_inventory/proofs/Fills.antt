-- The members of the groups that stand from a place of the order on.
use Rattle.std.proofs.Common.{◌≡◌, ℕ, ◌+◌, ◌<◌, ◌≤◌, List, [], ◌++◌, length, get_or, set, sym, ap, subst, ◌∙◌, arith, inl, inr}
use Rattle.std.specs.List.{flat_map}
use Rattle.std.proofs.lemmas.Bool.{cases_eq}
use Rattle.std.proofs.lemmas.List.{get_or-set_other}
use Rattle.std.proofs.lemmas.Grind.{get_or-set_at}
use Rattle.pb_inventory.specs.Graph.{children_at, parents_count, IsGraph, IsOrder}
use Rattle.pb_inventory.specs.Held.{held}
use Rattle.pb_inventory.specs.Families.{once}
use Rattle.pb_inventory.proofs.Members.{flat_map-same}
use Rattle.pb_inventory.proofs.Onces.{once-flat_map}
use Rattle.pb_inventory.proofs.Orders.{held_unfolds}

-- the own hosts of a group and those below it
abbrev pub hosts_of : List (List ℕ) → List (List ℕ) → ℕ → List ℕ
hosts_of os cs i = held (parents_count cs) (λ n. get_or os n []) cs i

abbrev pub IsFilled : List (List ℕ) → List (List ℕ) → List ℕ → ℕ → List (List ℕ) → Type 0
IsFilled os cs order place ms = (j : ℕ) → place ≤ j → j < length order
    → children_at ms (get_or order j 0) ≡ once (hosts_of os cs (get_or order j 0))

-- a group whose children are filled
filled_at : (os cs : List (List ℕ)) (order : List ℕ) (j : ℕ) (ms : List (List ℕ)) → IsGraph cs → IsOrder cs order → j < length order → IsFilled os cs order (j + 1) ms
    → once (get_or os (get_or order j 0) [] ++ flat_map (children_at ms) (children_at cs (get_or order j 0))) ≡ once (hosts_of os cs (get_or order j 0))
filled_at os cs order j ms graph o lt filled =
    let g = get_or order j 0 in
    let own = get_or os g [] in
    let same = flat_map-same (children_at ms) (λ c. once (hosts_of os cs c)) (children_at cs g) (λ c h.
    let b = o.behind j c lt h in
    subst (λ x. children_at ms x ≡ once (hosts_of os cs x)) b.3 (filled b.0 (omega (arith, b.1)) b.2)) in
    ap (λ xs. once (own ++ xs)) same ∙ once-flat_map (hosts_of os cs) own (children_at cs g)
    ∙ ap once (sym (held_unfolds (λ n. get_or os n []) cs order graph o g (o.within j lt)))

pub filled-more : (os cs : List (List ℕ)) (order : List ℕ) (j : ℕ) (ms : List (List ℕ)) (v : List ℕ)
    → IsGraph cs → IsOrder cs order → j < length order → IsFilled os cs order (j + 1) ms → get_or order j 0 < length ms
    → v ≡ once (get_or os (get_or order j 0) [] ++ flat_map (children_at ms) (children_at cs (get_or order j 0)))
    → IsFilled os cs order j (set ms (get_or order j 0) v)
filled-more os cs order j ms v graph o lt filled within is = λ k le kn. elim (cases_eq k j) [
  | inl e ↦
      let g = get_or order j 0 in
      get_or-set_at ms g (get_or order k 0) v [] (ap (λ n. get_or order n 0) e) within
      ∙ is ∙ filled_at os cs order j ms graph o lt filled ∙ ap (λ n. once (hosts_of os cs (get_or order n 0))) (sym e)
  | inr ne ↦
      get_or-set_other ms (get_or order j 0) (get_or order k 0) v [] (λ e. ne (o.once k j kn lt e))
      ∙ filled k (omega arith) kn
]

pub filled-all : (os cs : List (List ℕ)) (order : List ℕ) (ms : List (List ℕ)) → IsOrder cs order → IsFilled os cs order 0 ms
    → (i : ℕ) → i < length cs → get_or ms i [] ≡ once (hosts_of os cs i)
filled-all os cs order ms o filled i lt =
    let w = o.whole i lt in
    subst (λ x. children_at ms x ≡ once (hosts_of os cs x)) w.2 (filled w.0 (omega arith) w.1)
