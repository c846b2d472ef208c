-- The first of many offences, found bit by bit.
use Rattle.std.proofs.Common.{◌≡◌, ℕ, List, [], ◌∷◌, ◌++◌, Bool, true, false, ◌&&◌, ◌||◌, nat_lt, nat_eq, cond, Option, Some, None, refl, sym, ap, ◌∙◌, arith}
use Rattle.std.proofs.lemmas.Bool.Decides.{nat_tests}
use Rattle.pb_language.specs.Expression.{Name}
use Rattle.pb_language.specs.Verdict.{Refusal, is_lesser, lesser, visit_offence, visits_offence}
use Rattle.pb_language.specs.Walk.{Visit}

pub lesser_none : (q : Option Refusal) → lesser q None ≡ q
lesser_none None = refl
lesser_none (Some q) = refl

abbrev sooner : ℕ → ℕ → ℕ → ℕ → Bool
sooner l c m d = nat_lt l m || (nat_eq l m && nat_lt c d)

sooner_through : (l m n a b c : ℕ) → sooner n c m b ≡ true → sooner m b l a ≡ true → sooner n c l a ≡ true
sooner_through l m n a b c x y = grind (arith, nat_tests)

later_through : (l m n a b c : ℕ) → sooner m b l a ≡ false → sooner n c m b ≡ false → sooner n c l a ≡ false
later_through l m n a b c x y = grind (arith, nat_tests)

chosen : (x y z : Bool) (p q r : Option Refusal) → (y ≡ true → x ≡ true → z ≡ true) → (x ≡ false → y ≡ false → z ≡ false)
    → cond x (cond y r q) (cond z r p) ≡ cond y (cond z r p) (cond x q p)
chosen true true z p q r f g = rw (f refl refl) refl
chosen true false z p q r f g = refl
chosen false true z p q r f g = refl
chosen false false z p q r f g = rw (g refl refl) refl

first_of : (x : Bool) (p q : Refusal) (r : Option Refusal) → lesser (cond x (Some q) (Some p)) r ≡ cond x (lesser (Some q) r) (lesser (Some p) r)
first_of true p q r = refl
first_of false p q r = refl

second_of : (y : Bool) (p : Option Refusal) (q r : Refusal) → lesser p (cond y (Some r) (Some q)) ≡ cond y (lesser p (Some r)) (lesser p (Some q))
second_of true p q r = refl
second_of false p q r = refl

pub lesser_assoc : (p q r : Option Refusal) → lesser (lesser p q) r ≡ lesser p (lesser q r)
lesser_assoc None q r = refl
lesser_assoc (Some p) None r = refl
lesser_assoc (Some p) (Some q) None = lesser_none (lesser (Some p) (Some q))
lesser_assoc (Some p) (Some q) (Some r) =
    first_of (is_lesser q p) p q (Some r)
    ∙ chosen (is_lesser q p) (is_lesser r q) (is_lesser r p) (Some p) (Some q) (Some r) (sooner_through p.line q.line r.line p.code q.code r.code) (later_through p.line q.line r.line p.code q.code r.code)
    ∙ sym (second_of (is_lesser r q) (Some p) q r)

pub offence_both : (h : Name) (vs ws : List Visit) → visits_offence h (vs ++ ws) ≡ lesser (visits_offence h vs) (visits_offence h ws)
offence_both h [] ws = refl
offence_both h (v ∷ vs) ws = ap (lesser (visit_offence h v)) (offence_both h vs ws) ∙ sym (lesser_assoc (visit_offence h v) (visits_offence h vs) (visits_offence h ws))
