-- Which texts name something, and which handlers a text notifies up to a number.
use Rattle.std.proofs.Common.{◌≡◌, ◌∙◌, ℕ, suc, ◌<◌, ◌≤◌, List, [], ◌∷◌, Bool, true, false, cond, ◌&&◌, ◌||◌, nat_le, refl, ap, arith}
use Rattle.std.proofs.lemmas.Bool.Decides.{nat_tests}
use Rattle.std.specs.List.{list_any}
use Rattle.pb_language.specs.Expression.{Name}
use Rattle.pb_language.specs.Notify.{HandlerNames, Notified, all_notified, handlers_are, is_named, names_nothing, names_something, notified, with_numbers}
use Rattle.pb_language.specs.Rules.{any_up_to}

abbrev is_some_number : List ℕ → Bool
is_some_number [] = false
is_some_number (i ∷ is) = true

some-named : (i : ℕ) (n : Name) (hs : List HandlerNames) → is_some_number (notified i n hs) ≡ list_any (is_named n) hs
some-named i n [] = refl
some-named i n (h ∷ hs) = at (is_named n h) (some-named (suc i) n hs) where
  at : (b : Bool) → is_some_number (notified (suc i) n hs) ≡ list_any (is_named n) hs → is_some_number (cond b (i ∷ notified (suc i) n hs) (notified (suc i) n hs)) ≡ (b || list_any (is_named n) hs)
  at true h = refl
  at false h = h

numbers-something : (is : List ℕ) (r : Notified) → names_something (with_numbers is r) ≡ (is_some_number is && names_something r)
numbers-something [] r = refl
numbers-something (i ∷ is) names_nothing = refl
numbers-something (i ∷ is) (handlers_are js) = refl

-- texts name something where the first does and the others do
pub text-names : (n : Name) (ns : List Name) (hs : List HandlerNames) → names_something (all_notified hs (n ∷ ns)) ≡ (list_any (is_named n) hs && names_something (all_notified hs ns))
text-names n ns hs = numbers-something (notified 0 n hs) (all_notified hs ns) ∙ ap (λ b. b && names_something (all_notified hs ns)) (some-named 0 n hs)

-- no handler behind that number has a number up to it
pub none-past : (i k : ℕ) (n : Name) (hs : List HandlerNames) → i < k → any_up_to i (notified k n hs) ≡ false
none-past i k n [] h = refl
none-past i k n (x ∷ hs) h = at (is_named n x) (none-past i (suc k) n hs (below i k h)) where
  below : (i k : ℕ) → i < k → i < suc k
  below i k h = omega arith

  above : (i k : ℕ) → i < k → nat_le k i ≡ false
  above i k h = grind (arith, nat_tests)

  at : (b : Bool) → any_up_to i (notified (suc k) n hs) ≡ false → any_up_to i (cond b (k ∷ notified (suc k) n hs) (notified (suc k) n hs)) ≡ false
  at true e = ap (λ b. b || any_up_to i (notified (suc k) n hs)) (above i k h) ∙ e
  at false e = e

-- the next handler is up to that number where it isn't behind it
pub next-up-to : (i k : ℕ) (n : Name) (x : HandlerNames) (hs : List HandlerNames) → k ≤ i → any_up_to i (notified k n (x ∷ hs)) ≡ (is_named n x || any_up_to i (notified (suc k) n hs))
next-up-to i k n x hs h = at (is_named n x) where
  upto : (i k : ℕ) → k ≤ i → nat_le k i ≡ true
  upto i k h = grind (arith, nat_tests)

  at : (b : Bool) → any_up_to i (cond b (k ∷ notified (suc k) n hs) (notified (suc k) n hs)) ≡ (b || any_up_to i (notified (suc k) n hs))
  at true = ap (λ b. b || any_up_to i (notified (suc k) n hs)) (upto i k h)
  at false = refl
