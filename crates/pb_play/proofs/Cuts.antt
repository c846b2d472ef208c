-- `serial`: percentages and lists of cuts.
use Rattle.std.proofs.Common.{◌≡◌, ℕ, ◌+◌, ◌-◌, ◌*◌, ◌<◌, Bool, true, false, ◌&&◌, ◌==◌, cond, not, length, List, [], ◌∷◌, Some, None, nat_le, refl, ap, ◌∙◌, arith}
use Rattle.std.proofs.lemmas.Bool.{lt-leb}
use Rattle.pb_semantics.specs.Data.{list}
use Rattle.pb_value.specs.View.{items_view}
use Rattle.pb_value.specs.declared.value.Value.{Value}
use Rattle.pb_language.specs.BookForm.{cuts_in, is_percentage, is_serial, number_from}
use Rattle.pb_language.specs.TaskForm.{is_missing}
use Rattle.pb_language.specs.Rules.{is_digit}

and-false : (a b : Bool) → a && (b && false) ≡ false
and-false true true = refl
and-false true false = refl
and-false false b = refl

-- a number past a hundred is no percentage, whatever follows
pub past-hundred : (n : ℕ) (bs : List ℕ) → 100 < n → is_percentage (number_from n bs) ≡ None
past-hundred n [] h = refl
past-hundred n (b ∷ bs) h = at (is_digit b) (past-hundred (n * 10 + (b - 48)) bs (omega (arith, h))) where
  ending : (cs : List ℕ) → is_percentage (Some (n, b ∷ cs)) ≡ None
  ending [] = ap (λ q. cond ((b == 37) && (nat_le 1 n && q)) (Some n) None) (lt-leb n 100 h) ∙ ap (λ q. cond q (Some n) None) (and-false (b == 37) (nat_le 1 n))
  ending (c ∷ cs) = refl

  at : (q : Bool) → is_percentage (number_from (n * 10 + (b - 48)) bs) ≡ None → is_percentage (cond q (number_from (n * 10 + (b - 48)) bs) (Some (n, b ∷ bs))) ≡ None
  at true rest = rest
  at false rest = ending bs

-- a list that isn't empty has the cuts of its items
pub cut-list : (vs : List Value) → length vs == 0 ≡ false → is_serial (list (items_view vs)) ≡ not (is_missing (cuts_in (items_view vs)))
cut-list [] h = absurd (cc)
cut-list (v ∷ vs) h = refl
