-- Hosts by their numbers: a name for each number, no two of which are the same.
use Rattle.std.specs.Prelude.{ℕ, suc, ◌+◌, max, List, [], ◌∷◌, length, get_or, nat_lt, cond}
use Rattle.std.specs.Prelude.{replicate}
use Rattle.pb_language.specs.Expression.{Name}

abbrev pub longest : List Name → ℕ
longest [] = 0
longest (n ∷ ns) = max (length n) (longest ns)

-- the names in their order, and past the last one longer ones
abbrev pub numbered : List Name → ℕ → Name
numbered ns k = cond (nat_lt k (length ns)) (get_or ns k []) (replicate (suc (longest ns + k)) 0)
