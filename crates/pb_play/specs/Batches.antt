-- How many hosts the batches of a play have, by how many are left.
use Rattle.std.specs.Prelude.{ℕ, zero, suc, ◌-◌, min, List, [], ◌∷◌}
use Rattle.pb_language.specs.Book.{Cut}
use Rattle.pb_language.specs.Plays.{first_size, next_cuts}

-- the sizes of at most so many batches, of which the first is cut by the first entry, where so many
-- of all hosts are left
abbrev pub sizes_left : ℕ → ℕ → List Cut → ℕ → List ℕ
sizes_left n zero cs m = []
sizes_left n (suc k) cs zero = []
sizes_left n (suc k) cs (suc m) = suc (min (first_size n cs - 1) m)
    ∷ sizes_left n k (next_cuts cs) (m - (first_size n cs - 1))
