-- What names of `vars` answer to a question, round after round: a round asks each value once, and
-- takes the answers of the round before for the names that it reads.
use Rattle.std.specs.Prelude.{ℕ, zero, suc, List, [], ◌∷◌, Bool, true, not, cond, Option, Some}
use Rattle.std.specs.Prelude.{None, is_some, unwrap_or}
use Rattle.std.specs.Str.{bytes_eq}
use Rattle.pb_language.specs.Expression.{Name, variable, Parts, no_parts, part}
use Rattle.pb_language.specs.Expansion.{part_named}
use Rattle.pb_vars.specs.Reads.{Read, value_at, tested_at, every_read}

-- the answer that stands beside a name
abbrev pub answer_named : Name → Parts → List Bool → Option Bool
answer_named n no_parts bs = None
answer_named n (part m e ps) [] = None
answer_named n (part m e ps) (b ∷ bs) = cond (bytes_eq n m) (Some b) (answer_named n ps bs)

-- a name with an answer has that one
abbrev pub through : (Name → Option Bool) → (Read → Bool) → Read → Bool
through a f (value_at (variable n) ns) = unwrap_or (a n) (f (value_at (variable n) ns))
through a f (tested_at (variable n)) = unwrap_or (a n) (f (tested_at (variable n)))
through a f r = f r

-- what each value answers by itself
abbrev pub value_answers : (Read → Bool) → Parts → List Bool
value_answers f no_parts = []
value_answers f (part n e ps) = every_read f e ∷ value_answers f ps

abbrev pub round : (Read → Bool) → Parts → List Bool → List Bool
round f ps bs = value_answers (through (λ n. answer_named n ps bs) f) ps

abbrev pub after_rounds : ℕ → (Read → Bool) → Parts → List Bool → List Bool
after_rounds zero f ps bs = bs
after_rounds (suc k) f ps bs = after_rounds k f ps (round f ps bs)

-- a question to the names that are read
abbrev pub by_name : (Name → Bool) → Read → Bool
by_name f (value_at (variable n) ns) = f n
by_name f (tested_at (variable n)) = f n
by_name f r = true

-- the name isn't in scope
abbrev pub is_outside : Parts → Name → Bool
is_outside ps n = not (is_some (part_named n ps))
