-- The steps of plays, one after the other.
use Rattle.std.proofs.Common.{◌≡◌, ◌∙◌, ℕ, ◌+◌, ◌<◌, ◌≤◌, List, ◌∷◌, true, false, cond, nat_lt, min, Some, None, ap, arith}
use Rattle.std.proofs.lemmas.Bool.Decides.{nat_tests}
use Rattle.pb_language.specs.Book.{PlayData}
use Rattle.pb_language.specs.Rules.{too_many_steps}
use Rattle.pb_language.specs.Sites.{steps_of}

past : (n s m : ℕ) → m ≡ min 8193 s → nat_lt 8192 (n + s) ≡ nat_lt 8192 (n + m)
past n s m e = grind (arith, nat_tests)

exact : (n s m : ℕ) → m ≡ min 8193 s → n + m ≤ 8192 → n + s ≡ n + m
exact n s m e h = omega arith

over : (k : ℕ) → 8192 < k → nat_lt 8192 k ≡ true
over k h = grind (arith, nat_tests)

under : (k : ℕ) → k ≤ 8192 → nat_lt 8192 k ≡ false
under k h = grind (arith, nat_tests)

-- a play with which there are too many
pub play-past : (n m : ℕ) (p : PlayData) (ps : List PlayData) → m ≡ min 8193 (steps_of p) → 8192 < n + m → too_many_steps n (p ∷ ps) ≡ Some (record { code = 13; line = p.line; host = None })
play-past n m p ps e h = ap (λ b. cond b (Some (record { code = 13; line = p.line; host = None })) (too_many_steps (n + steps_of p) ps)) (past n (steps_of p) m e ∙ over (n + m) h)

-- a play with which there are not
pub play-within : (n m : ℕ) (p : PlayData) (ps : List PlayData) → m ≡ min 8193 (steps_of p) → n + m ≤ 8192 → too_many_steps n (p ∷ ps) ≡ too_many_steps (n + m) ps
play-within n m p ps e h =
    ap (λ b. cond b (Some (record { code = 13; line = p.line; host = None })) (too_many_steps (n + steps_of p) ps)) (past n (steps_of p) m e ∙ under (n + m) h) ∙ ap (λ k. too_many_steps k ps) (exact n (steps_of p) m e h)
