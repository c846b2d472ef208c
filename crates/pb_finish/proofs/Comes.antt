-- What results come to.
use Rattle.std.proofs.Common.{◌≡◌, is_some, ℕ, ◌<◌, ◌≤◌, List, Bool, true, false, not, ◌&&◌, nat_lt, Option, Some, None, option_map, refl, sym, subst, arith}
use Rattle.std.proofs.lemmas.Bool.Decides.{nat_tests}
use Rattle.pb_language.specs.Expression.{Expression}
use Rattle.pb_language.specs.Give as language
use Rattle.pb_language.specs.Give.{all_hold, last_attempts, asks_again, retries_of}
use Rattle.pb_language.specs.Plays.{expanded_attempts, expanded_option}
use Rattle.pb_language.specs.Task.{Task, Attempts}
use Rattle.pb_syntax.specs.Aliases.{Trees}
use Rattle.pb_finish.specs.Endings.{IsOutcome, ComesTo, CameTo}
use Rattle.pb_finish.specs.declared.ending.Ending.TheVariants as endings
use Rattle.pb_finish.specs.declared.outcome.Outcome.{Outcome}
use Rattle.pb_finish.proofs.Statused.{last-all}

pub retries-expanded : (f : Trees) (o : Option Attempts) → retries_of (expanded_attempts f o) ≡ retries_of o
retries-expanded f None = refl
retries-expanded f (Some a) = refl

pub looped-expanded : {A : Type 0} → (f : Trees) (g : A → Expression) (o : Option A) → is_some (expanded_option f (option_map g o)) ≡ is_some o
looped-expanded f g None = refl
looped-expanded f g (Some e) = refl

pub came-held : (o : Outcome) (t : Task) (n : ℕ) (es : List language.Ended) → all_hold es ≡ true → IsOutcome o t es → ComesTo (endings.Ended o) t n es
came-held o t n es held h =
    let P : Bool → Type 0 = λ b. CameTo (not b && nat_lt n (retries_of t.attempts)) (endings.Ended o) t (last_attempts es) in
    let Q : List language.Ended → Type 0 = λ xs. IsOutcome o t xs in
    subst P (sym held) (subst Q (sym (last-all es held)) h)

pub came-again : (t : Task) (n : ℕ) (es : List language.Ended) → all_hold es ≡ false → nat_lt n (retries_of t.attempts) ≡ true → ComesTo endings.Again t n es
came-again t n es held few =
    let P : Bool → Bool → Type 0 = λ b c. CameTo (not b && c) endings.Again t (last_attempts es) in
    let here : P false true = refl in
    subst (λ (b : Bool). P b (nat_lt n (retries_of t.attempts))) (sym held) (subst (λ (c : Bool). P false c) (sym few) here)

pub came-last : (o : Outcome) (t : Task) (n : ℕ) (es : List language.Ended) → all_hold es ≡ false → nat_lt n (retries_of t.attempts) ≡ false → IsOutcome o t (last_attempts es) → ComesTo (endings.Ended o) t n es
came-last o t n es held few h =
    let P : Bool → Bool → Type 0 = λ b c. CameTo (not b && c) (endings.Ended o) t (last_attempts es) in
    subst (λ (b : Bool). P b (nat_lt n (retries_of t.attempts))) (sym held) (subst (λ (c : Bool). P false c) (sym few) h)

pub is-few : (n m : ℕ) → n < m → nat_lt n m ≡ true
is-few n m h = grind (arith, nat_tests)

pub is-not-few : (n m : ℕ) → m ≤ n → nat_lt n m ≡ false
is-not-few n m h = grind (arith, nat_tests)
