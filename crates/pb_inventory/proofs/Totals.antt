-- A sum over the nodes that pass a test, and how it falls where fewer pass.
use Rattle.std.proofs.Common.{◌≡◌, ℕ, zero, suc, ◌+◌, ◌<◌, ◌≤◌, List, [], ◌∷◌, length, get_or, Bool, true, false, cond, refl, ap, ◌∙◌, inl, inr, arith}
use Rattle.std.proofs.lemmas.Bool.{cases_Bool, cases_lt, cond-false, cond-true, false≢true}
use Rattle.std.proofs.lemmas.List.Sums.{sum_by-cons}
use Rattle.std.specs.List.{sum_by}

-- the weights of the lists at the numbers that pass, where the first list's number is k
abbrev pub total_where : (List ℕ → ℕ) → (ℕ → Bool) → ℕ → List (List ℕ) → ℕ
total_where weight p k [] = 0
total_where weight p k (ds ∷ cs) = cond (p k) (weight ds) 0 + total_where weight p (suc k) cs

cond-fewer : (n : ℕ) (a b : Bool) → (a ≡ true → b ≡ true) → cond a n 0 ≤ cond b n 0
cond-fewer n true true h = omega arith
cond-fewer n true false h = absurd (false≢true (h refl))
cond-fewer n false b h = omega arith

pub total-fewer : (weight : List ℕ → ℕ) (p q : ℕ → Bool) (k : ℕ) (cs : List (List ℕ)) → ((i : ℕ) → q i ≡ true → p i ≡ true) → total_where weight q k cs ≤ total_where weight p k cs
total-fewer weight p q k [] h = omega arith
total-fewer weight p q k (ds ∷ cs) h = omega (arith, cond-fewer (weight ds) (q k) (p k) (h k), total-fewer weight p q (suc k) cs h)

-- the list at n counts no more
pub total-lost : (weight : List ℕ → ℕ) (p q : ℕ → Bool) (k : ℕ) (cs : List (List ℕ)) (x n : ℕ) → x < length cs → k + x ≡ n → p n ≡ true → q n ≡ false
    → ((i : ℕ) → q i ≡ true → p i ≡ true) → weight (get_or cs x []) + total_where weight q k cs ≤ total_where weight p k cs
total-lost weight p q k [] x n lt e is not h = absurd (omega (arith, lt))
total-lost weight p q k (ds ∷ cs) zero n lt e is not h =
    let at : k ≡ n = omega (arith, e) in
    omega (arith, cond-true (p k) (weight ds) 0 (ap p at ∙ is), cond-false (q k) (weight ds) 0 (ap q at ∙ not), total-fewer weight p q (suc k) cs h)
total-lost weight p q k (ds ∷ cs) (suc x) n lt e is not h =
    omega (arith, cond-fewer (weight ds) (q k) (p k) (h k), total-lost weight p q (suc k) cs x n (omega (arith, lt)) (omega (arith, e)) is not h)

total-same : (weight : List ℕ → ℕ) (p q : ℕ → Bool) (k : ℕ) (cs : List (List ℕ)) → ((i : ℕ) → k ≤ i → p i ≡ q i) → total_where weight p k cs ≡ total_where weight q k cs
total-same weight p q k [] h = refl
total-same weight p q k (ds ∷ cs) h =
    let first = ap (λ b. cond b (weight ds) 0) (h k (omega arith)) in
    let rest = total-same weight p q (suc k) cs (λ i le. h i (omega (arith, le))) in
    omega (arith, first, rest)

-- the list at n counts no more, and each other one does as before
pub total-without : (weight : List ℕ → ℕ) (p q : ℕ → Bool) (k : ℕ) (cs : List (List ℕ)) (x n : ℕ) → x < length cs → k + x ≡ n → p n ≡ true → q n ≡ false
    → ((i : ℕ) → (i ≡ n → ⊥) → p i ≡ q i) → total_where weight p k cs ≡ weight (get_or cs x []) + total_where weight q k cs
total-without weight p q k [] x n lt e is not h = absurd (omega (arith, lt))
total-without weight p q k (ds ∷ cs) zero n lt e is not h =
    let at : k ≡ n = omega (arith, e) in
    let rest = total-same weight p q (suc k) cs (λ i le. h i (λ same. omega (arith, le, same, at))) in
    omega (arith, cond-true (p k) (weight ds) 0 (ap p at ∙ is), cond-false (q k) (weight ds) 0 (ap q at ∙ not), rest)
total-without weight p q k (ds ∷ cs) (suc x) n lt e is not h =
    let first = ap (λ b. cond b (weight ds) 0) (h k (λ same. omega (arith, e, same))) in
    omega (arith, first, total-without weight p q (suc k) cs x n (omega (arith, lt)) (omega (arith, e)) is not h)

pub total-all : (weight : List ℕ → ℕ) (k : ℕ) (cs : List (List ℕ)) → total_where weight (λ i. true) k cs ≡ sum_by weight cs
total-all weight k [] = refl
total-all weight k (ds ∷ cs) = omega (arith, total-all weight (suc k) cs, sum_by-cons weight ds cs)

-- where there is a sum, a list that passes has a weight
pub total-some : (weight : List ℕ → ℕ) (p : ℕ → Bool) (k : ℕ) (cs : List (List ℕ)) → 0 < total_where weight p k cs
    → (x : ℕ) × (x < length cs) × (p (k + x) ≡ true) × (0 < weight (get_or cs x []))
total-some weight p k [] h = absurd (omega (arith, h))
total-some weight p k (ds ∷ cs) h = elim (cases_lt 0 (cond (p k) (weight ds) 0)) [
  | inl some ↦ elim (cases_Bool (p k)) [
    | inl is ↦
        let same : k + 0 ≡ k = omega arith in
        (0, (omega arith), ap p same ∙ is, (omega (arith, some, cond-true (p k) (weight ds) 0 is)))
    | inr not ↦ absurd (omega (arith, some, cond-false (p k) (weight ds) 0 not))
  ]
  | inr none ↦
      let r = total-some weight p (suc k) cs (omega (arith, h, none)) in
      let same : k + suc r.0 ≡ suc k + r.0 = omega arith in
      (suc r.0, (omega (arith, r.1)), ap p same ∙ r.2, r.3)
]
