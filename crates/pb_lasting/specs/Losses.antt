-- What names lose on a host's way through a play, node by node.
use Rattle.std.specs.Prelude.{◌≡◌, ◌<◌, ℕ, suc, max, List, [], ◌∷◌, All, Bool, cond, map}
use Rattle.std.specs.List.Sorted.{IsNonDecreasingBy, IsPermutation}
use Rattle.pb_semantics.specs.Kind.{slot_at}
use Rattle.pb_language.specs.Expression.{Name}
use Rattle.pb_language.specs.Judgement.{Exit, dead, live}
use Rattle.pb_language.specs.Scope.{is_certain}
use Rattle.pb_language.specs.Tables.{certain_from}
use Rattle.pb_language.specs.Walk.{Visit}
use Rattle.pb_lattice.specs.Environments.{is_dead, spot_in}
use Rattle.pb_hosts.specs.Tables.{never_lasts}

-- of nodes at these places, the first of which has that number, those that a way leads to, each by
-- its place and its number
abbrev pub reached : (ℕ → Exit) → ℕ → List ℕ → List (ℕ × ℕ)
reached val n [] = []
reached val n (p ∷ ps) =
    cond (is_dead (val n)) (reached val (suc n) ps) ((p, n) ∷ reached val (suc n) ps)

-- the same in the order of the places
pub record InOrder (xs ys : List (ℕ × ℕ)) : Type 0 where
  pub same : IsPermutation xs ys
  pub rising : IsNonDecreasingBy (λ y. y.0) ys

-- past which place the name is certain again, if a way leads to a node at that place
abbrev pub lost_at : Name → ℕ → Exit → ℕ
lost_at n p dead = 0
lost_at n p (live ss) = cond (is_certain (slot_at n ss)) 0 (suc p)

-- and past all of these nodes
abbrev pub lost_among : Name → (ℕ → Exit) → List (ℕ × ℕ) → ℕ
lost_among n val [] = 0
lost_among n val (x ∷ xs) = max (lost_at n x.0 (val x.1)) (lost_among n val xs)

-- at the end and at each of these nodes the name is certain, or at none of them
pub record AreAll (b : Bool) (n : Name) (end : Exit) (val : ℕ → Exit) (xs : List (ℕ × ℕ))
    : Type 0 where
  pub last : is_certain (spot_in n end) ≡ b
  pub others : All (λ x. is_certain (spot_in n (val x.1)) ≡ b) xs

-- a name that isn't certain at the end never lasts
abbrev pub mark_of : Exit → (Name → ℕ) → Name → ℕ
mark_of e from n = cond (is_certain (spot_in n e)) (from n) never_lasts

-- the names with their marks, if these visits are made and that is known at the end
pub record AreMarks (names : List Name) (e : Exit) (vs : List Visit) (from : List ℕ) : Type 0 where
  pub small : (n : Name) → certain_from n vs < never_lasts
  pub marks : from ≡ map (mark_of e (λ n. certain_from n vs)) names
