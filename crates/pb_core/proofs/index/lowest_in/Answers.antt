use Rattle.std.proofs.Common.{◌≡◌, ◌+◌, ℕ, sym, refl, ◌∙◌, arith}
use Rattle.pb_core.proofs.Lowest.{first_least, first_none, not_above, starting_same, none_in}
use Rattle.pb_core.proofs.index.lowest_in.Goals as goal

pub returns-in-Some : goal.returns-in-Some
returns-in-Some c = λ hosts is.
    let p : ℕ = c.in-Some.first.now.0 in
    let k : ℕ = c.in-Some.first.now.1 in
    let none : 0 + k ≡ k = omega arith in
    sym (first_least hosts 0 p k (sym (is p k) ∙ c.in-Some.ensures.member) (λ q j f. not_above p k q j (c.in-Some.ensures.least (q, j) (is q j ∙ f))) ∙ starting_same (0 + k) k p p none refl)

pub returns-in-None : goal.returns-in-None
returns-in-None c = λ hosts is. sym (first_none hosts 0 (λ q j. sym (is q j) ∙ none_in c.args.places.now (q, j) c.in-None.ensures.variant.1))
