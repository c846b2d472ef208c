-- Names in the order of their bytes.
use Rattle.std.specs.Prelude.{ℕ, List, [], ◌∷◌, Bool, true, ◌&&◌}
use Rattle.std.specs.Cmp.Lexicographic.{slice_cmp}
use Rattle.std.specs.Ordering.{is_lt, nat_cmp}

-- the name is below each of these
abbrev pub is_below : List ℕ → List (List ℕ) → Bool
is_below n [] = true
is_below n (m ∷ ms) = is_lt (slice_cmp nat_cmp n m) && is_below n ms

-- each name is below those behind it
abbrev pub are_ascending : List (List ℕ) → Bool
are_ascending [] = true
are_ascending (n ∷ ns) = is_below n ns && are_ascending ns
