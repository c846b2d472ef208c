-- What accepted verdicts tell.
use Rattle.std.proofs.Common.{◌≡◌, ℕ, true, refl, sym, ap, ◌∙◌}
use Rattle.std.proofs.lemmas.Bool.{eq-eqb, eqb-true}
use Rattle.pb_semantics.proofs.Bools.{untrue}
use Rattle.pb_language.specs.Verdict.{Verdict, accepted, refused}
use Rattle.pb_verify.specs.Meaning.{accepts}

-- an accepted verdict has that number
pub accepts-accepted : (n : ℕ) (v : Verdict) → accepts n v ≡ true → v ≡ accepted n
accepts-accepted n (accepted m) h = ap accepted (sym (eqb-true n m h))
accepts-accepted n (refused r) h = untrue h

-- and one of that number is accepted
pub accepted-accepts : (n : ℕ) (v : Verdict) → v ≡ accepted n → accepts n v ≡ true
accepted-accepts n v e = ap (accepts n) e ∙ eq-eqb n n refl
