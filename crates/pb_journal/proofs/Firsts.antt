-- The first events of a run, from which it can go on.
use Rattle.std.proofs.Common.{◌≡◌, ◌≤◌, List, [], ◌∷◌, ◌++◌, length, Bool, true, false, cond, refl, ap, arith}
use Rattle.pb_language.specs.Machine.{State, enabled, step}
use Rattle.pb_run.specs.Follows.{EventView, enabled_of}

no_longer : (s : State) (vs : List EventView) → length (enabled_of s vs) ≤ length vs
no_longer s [] = omega arith
no_longer s (v ∷ vs) = by (enabled s v.0) (no_longer (step s v.0) vs) (no_longer s vs)
  where
    by : (b : Bool) → length (enabled_of (step s v.0) vs) ≤ length vs → length (enabled_of s vs) ≤ length vs → length (cond b (v ∷ enabled_of (step s v.0) vs) (enabled_of s vs)) ≤ length (v ∷ vs)
    by true rest other = omega arith
    by false rest other = omega arith

pub first_happen : (s : State) (first more : List EventView) → enabled_of s (first ++ more) ≡ first ++ more → enabled_of s first ≡ first
first_happen s [] more all = refl
first_happen s (v ∷ first) more all = by (enabled s v.0) all (no_longer s (first ++ more)) (λ rest. first_happen (step s v.0) first more rest)
  where
    by : (b : Bool) → cond b (v ∷ enabled_of (step s v.0) (first ++ more)) (enabled_of s (first ++ more)) ≡ v ∷ (first ++ more) → length (enabled_of s (first ++ more)) ≤ length (first ++ more)
        → (enabled_of (step s v.0) (first ++ more) ≡ first ++ more → enabled_of (step s v.0) first ≡ first) → cond b (v ∷ enabled_of (step s v.0) first) (enabled_of s first) ≡ v ∷ first
    by true all short rest = let left : enabled_of (step s v.0) (first ++ more) ≡ first ++ more = cc all in ap (λ (l : List EventView). v ∷ l) (rest left)
    by false all short rest = absurd (omega (arith, ap length all, short))
