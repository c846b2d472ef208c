-- Rows of one length, cut from a list.
use Rattle.std.specs.Prelude.{ℕ, zero, suc, List, [], ◌∷◌, take, drop}

-- so many rows, each of that length
abbrev pub rows : {A : Type 0} → ℕ → ℕ → List A → List (List A)
rows zero length values = []
rows (suc count) length values = take length values ∷ rows count length (drop length values)
