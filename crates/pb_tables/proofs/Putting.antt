-- What a host has at its later places, put in the plays from the last to the first.
use Rattle.std.proofs.Common.{◌≡◌, ℕ, zero, suc, ◌<◌, ◌≤◌, List, [], ◌∷◌, ◌++◌, length, get_or, set, refl, sym, ap, ◌∙◌, Option, Vec, Global, arith}
use Rattle.std.specs.declared.sync.Arc.{Arc}
use Rattle.pb_hosts.specs.declared.lasting.Lasting.{Lasting}
use Rattle.pb_tables.specs.Listed.{lasting_lists, lasting_there, put_at, put_each, put_last}

pub put_again : {A : Type 0} (os : List (Option (List A))) (ls : List A) (l : A) → put_each (put_at (length ls) l os) ls ≡ put_each os (ls ++ l ∷ [])
put_again [] ls l = refl
put_again (o ∷ os) [] l = ap (λ us. put_last l o ∷ us) (sym (none_more os)) where
  none_more : {A : Type 0} (us : List (Option (List A))) → put_each us [] ≡ us
  none_more [] = refl
  none_more (u ∷ us) = refl
put_again (o ∷ os) (k ∷ ls) l = ap (λ us. put_last k o ∷ us) (put_again os ls l)

pub put_none : {A : Type 0} (os : List (Option (List A))) → put_each os [] ≡ os
put_none [] = refl
put_none (o ∷ os) = refl

pub put_past : {A : Type 0} (os : List (Option (List A))) (n : ℕ) (l : A) → length os ≤ n → put_at n l os ≡ os
put_past [] n l le = refl
put_past (o ∷ os) zero l le = absurd (omega (arith, le))
put_past (o ∷ os) (suc n) l le = ap (λ us. o ∷ us) (put_past os n l (omega (arith, le)))

pub put_there : (os : List (Option (Vec (Arc Lasting Global) Global))) (n : ℕ) (o p : Option (Vec (Arc Lasting Global) Global)) (l : Lasting) → n < length os → o ≡ get_or os n o → lasting_there p ≡ put_last l (lasting_there o)
    → lasting_lists (set os n p) ≡ put_at n l (lasting_lists os)
put_there [] n o p l lt e f = absurd (omega (arith, lt))
put_there (u ∷ os) zero o p l lt e f = ap (λ x. x ∷ lasting_lists os) (f ∙ ap (λ x. put_last l (lasting_there x)) e)
put_there (u ∷ os) (suc n) o p l lt e f = ap (λ us. lasting_there u ∷ us) (put_there os n o p l (omega (arith, lt)) e f)

pub none_left : {A : Type 0} (xs : List A) → length xs ≡ 0 → xs ≡ []
none_left [] e = refl
none_left (x ∷ xs) e = absurd (omega (arith, e))
