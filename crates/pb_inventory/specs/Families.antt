-- The members of groups, each once, and how deep groups lie.
use Rattle.std.specs.Prelude.{◌≡◌, ◌≢◌, ℕ, ◌+◌, ◌<◌, ◌≤◌, List, [], ◌∷◌, ◌++◌, length, get_or}
use Rattle.std.specs.Prelude.{Vec, cond, map, nat_eq, true}
use Rattle.std.specs.List.{All, count_by}
use Rattle.std.specs.declared.alloc.Global.{Global}
use Rattle.pb_inventory.specs.Graph.{children_at, is_in}

abbrev pub lists_of : List (Vec ℕ Global) → List (List ℕ)
lists_of vs = map (λ v. v.items) vs

-- each number of each list is below the limit
abbrev pub AreBelow : ℕ → List (Vec ℕ Global) → Type 0
AreBelow limit vs = All (λ v. All (λ n. n < limit) v.items) vs

-- the numbers, and at their end those of the others that they have not
abbrev pub add_numbers : List ℕ → List ℕ → List ℕ
add_numbers ns [] = ns
add_numbers ns (m ∷ ms) = add_numbers (cond (is_in m ns) ns (ns ++ m ∷ [])) ms

-- each number once, where it first comes
abbrev pub once : List ℕ → List ℕ
once ns = add_numbers [] ns

-- the depths of the groups: the root lies at 0, another one deeper than its deepest parent but
-- the root, and at 1 where it has none
pub record AreDepths (root : ℕ) (cs : List (List ℕ)) (d : List ℕ) : Type 0 where
  pub count : length d ≡ length cs
  pub top : (i : ℕ) → i < length cs → i ≡ root → get_or d i 0 ≡ 0
  pub others : (i : ℕ) → i < length cs → i ≢ root → 1 ≤ get_or d i 0
  pub bound : (i : ℕ) → i < length cs → get_or d i 0 ≤ length cs
  pub deeper : (p c : ℕ) → p < length cs → p ≢ root → is_in c (children_at cs p) ≡ true
      → get_or d p 0 < get_or d c 0
  pub least : (c : ℕ) → c < length cs → 1 < get_or d c 0
      → (p : ℕ) × (p < length cs) × (p ≢ root) × (is_in c (children_at cs p) ≡ true)
      × (get_or d c 0 ≡ get_or d p 0 + 1)

-- a table that marks the numbers of a list by a stamp, which is the least in it
pub record IsMarked (ns seen : List ℕ) (stamp : ℕ) : Type 0 where
  pub known : All (λ n. n < length seen) ns
  pub marks : (n : ℕ) → n < length seen → is_in n ns ≡ nat_eq (get_or seen n 0) stamp
  pub count : length ns ≡ count_by (λ s. nat_eq s stamp) seen
  pub stamps : All (λ s. stamp ≤ s) seen
