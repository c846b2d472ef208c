-- The moments of a file are those after each call.
use Rattle.std.specs.Prelude.{ℕ, zero, suc, List, [], ◌∷◌, length}
use mathlib.Core.Logic.{inl, inr}
use Rattle.pb_lines.specs.Events.{Event, IsUpTo, leaves_after, left_after}

pub at_this_moment : (events : List Event) (t : ℕ) (c : List ℕ) → leaves_after events c
    → left_after events t c
at_this_moment [] t c now = now
at_this_moment (e ∷ earlier) t c now = inl now

too_late : (n : ℕ) → IsUpTo (suc n) n → ⊥
too_late zero le = le
too_late (suc n) le = too_late n le

pub no_later_moment : (events : List Event) (c : List ℕ) → left_after events (length events) c
    → leaves_after events c
no_later_moment [] c left = left
no_later_moment (e ∷ earlier) c (inl now) = now
no_later_moment (e ∷ earlier) c (inr before) = absurd (too_late (length earlier) before.0)
