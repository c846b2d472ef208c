-- The calls of passes, one after the other.
use Rattle.std.proofs.Common.{◌≡◌, ◌+◌, ◌++◌, ℕ, List, ◌∷◌, length, ap, arith}
use Rattle.pb_language.specs.Expression.{Name}
use Rattle.pb_language.specs.Start.{Entry, skips, calls, acts}
use Rattle.pb_history.specs.Jobs.{CallData, entry_calls}
use Rattle.pb_jobs.specs.Calls.{own_calls}

-- a pass's own call, and then the others, from the number behind it on
pub own_first : (k : ℕ) (host m : Name) (e : Entry) (more : ℕ → List CallData) (n : ℕ) → entry_calls k host m e more n ≡ own_calls k host m e n ++ more (n + length (own_calls k host m e n))
own_first k host m skips more n = ap more (omega arith)
own_first k host m (acts sh fs gs) more n = ap more (omega arith)
own_first k host m (calls d) more n = ap (λ i. record { host = k; name = host; number = n; asked = m; arguments = d } ∷ more i) (omega arith)
