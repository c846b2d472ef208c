-- Time goes on with each call of a file.
use Rattle.std.proofs.Common.{◌≡◌, ◌≤◌, inl, inr, ⊎_elim, ℕ, zero, suc, List, ◌∷◌, length, sym, subst, arith}
use Rattle.pb_lines.specs.Device.{Elapses}
use Rattle.pb_lines.specs.Events.{Event, IsUpTo, leaves_after, left_after}

up_to : (t n : ℕ) → t ≤ n → IsUpTo t n
up_to zero n le = tt
up_to (suc t) zero le = absurd (omega (arith, le))
up_to (suc t) (suc n) le = up_to t n (omega (arith, le))

one_more : (e : Event) (earlier : List Event) → Elapses (length earlier) (length (e ∷ earlier)) (left_after earlier) (left_after (e ∷ earlier)) (leaves_after (e ∷ earlier))
one_more e earlier = record {
  later = omega arith;
  nothing_else = λ t c le left. ⊎_elim (λ now. inr now) (λ before. inl before.1) left;
  keeps = λ t c le past. inr (up_to t (length earlier) le, past);
}

pub elapses : (earlier events : List Event) (e : Event) → events ≡ e ∷ earlier → Elapses (length earlier) (length events) (left_after earlier) (left_after events) (leaves_after events)
elapses earlier events e is = subst (λ (es : List Event). Elapses (length earlier) (length es) (left_after earlier) (left_after es) (leaves_after es)) (sym is) (one_more e earlier)

pub elapses_by_none : (events : List Event) → Elapses (length events) (length events) (left_after events) (left_after events) (leaves_after events)
elapses_by_none events = record { later = omega arith; nothing_else = λ t c le left. inl left; keeps = λ t c le past. past }
