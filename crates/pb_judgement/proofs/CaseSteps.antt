-- Cases that are added one after the other.
use Rattle.std.proofs.Common.{◌≡◌, ℕ, List, [], ◌∷◌, ◌+◌, ◌<◌, suc, length, get_or, drop, drop-cons, add-one, Bool, true, false, cond, Some, nat_eq, refl, sym, ap, ◌∙◌}
use Rattle.pb_semantics.specs.Kind.{KindData, Cases, Shape, no_cases, one}
use Rattle.pb_semantics.specs.Join.{append_cases}
use Rattle.pb_language.specs.Cases.{either_status, perhaps_failed}
use Rattle.pb_language.specs.Narrow.{cases_with, results_of}
use Rattle.pb_kind.specs.KindView.{cases_view}
use Rattle.pb_kind.specs.declared.kind.Case.{Case}
use Rattle.pb_kind.specs.declared.kind.Kind.{Kind}
use Rattle.pb_kind.proofs.JoinLemmas.{append_through}
use Rattle.pb_semantics.proofs.Bools.{untrue}
use Rattle.pb_judgement.specs.Ends.{case_kind}

pub next_case : (items : List (Case Kind)) (i : ℕ) (d : Case Kind) → i < length items → d ≡ get_or items i d → cases_view (drop i items) ≡ append_cases (cases_view (d ∷ [])) (cases_view (drop (i + 1) items))
next_case items i d h e =
    let first : drop i items ≡ d ∷ drop (i + 1) items = drop-cons items i d h ∙ rw (add-one i) (ap (λ x. x ∷ drop (suc i) items) (sym e)) in
    ap cases_view first

-- what is made of the next case is added
pub made_step : (make : Cases → Cases) (xs ys items : List (Case Kind)) (i : ℕ) (d : Case Kind) → ((cs : Cases) → make (append_cases (cases_view (d ∷ [])) cs) ≡ append_cases (make (cases_view (d ∷ []))) (make cs))
    → i < length items → d ≡ get_or items i d → cases_view ys ≡ append_cases (cases_view xs) (make (cases_view (d ∷ [])))
    → append_cases (cases_view xs) (make (cases_view (drop i items))) ≡ append_cases (cases_view ys) (make (cases_view (drop (i + 1) items)))
made_step make xs ys items i d through h e p =
    let here = make (cases_view (d ∷ [])) in
    let rest = cases_view (drop (i + 1) items) in
    ap (λ cs. append_cases (cases_view xs) (make cs)) (next_case items i d h e) ∙ ap (append_cases (cases_view xs)) (through rest)
    ∙ sym (append_through (cases_view xs) here (make rest)) ∙ ap (λ cs. append_cases cs (make rest)) (sym p)

perhaps_first : (m : List ℕ) (sh : Shape) (fl : Bool) (k : KindData) (cs : Cases) → perhaps_failed (one m sh fl k cs) ≡ append_cases (perhaps_failed (one m sh fl k no_cases)) (perhaps_failed cs)
perhaps_first m sh true k cs = refl
perhaps_first m sh false k cs = refl

with_first : (q : Bool) (m : List ℕ) (sh : Shape) (fl : Bool) (k : KindData) (cs : Cases) → cond q (one m sh fl k cs) cs ≡ append_cases (cond q (one m sh fl k no_cases) no_cases) cs
with_first true m sh fl k cs = refl
with_first false m sh fl k cs = refl

pub either_through : (d : Case Kind) (cs : Cases) → either_status (append_cases (cases_view (d ∷ [])) cs) ≡ append_cases (either_status (cases_view (d ∷ []))) (either_status cs)
either_through d cs = refl

pub perhaps_through : (d : Case Kind) (cs : Cases) → perhaps_failed (append_cases (cases_view (d ∷ [])) cs) ≡ append_cases (perhaps_failed (cases_view (d ∷ []))) (perhaps_failed cs)
perhaps_through d cs = perhaps_first _ _ d.failed _ cs

pub with_through : (f : Shape → Bool → KindData → Bool) (d : Case Kind) (cs : Cases) → cases_with f (append_cases (cases_view (d ∷ [])) cs) ≡ append_cases (cases_with f (cases_view (d ∷ []))) (cases_with f cs)
with_through f d cs = with_first (f _ d.failed _) _ _ d.failed _ (cases_with f cs)

pub some_kind : (items : List (Case Kind)) (k : KindData) → nat_eq (length items) 0 ≡ false → k ≡ results_of (cases_view items) → Some k ≡ case_kind (cases_view items)
some_kind [] k h e = untrue (sym h)
some_kind (d ∷ items) k h e = ap Some e
