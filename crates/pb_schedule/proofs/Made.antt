-- What is made of three lists that go side by side.
use Rattle.std.proofs.Common.{◌≡◌, ◌∙◌, ◌+◌, ◌⊎◌, ⊎_elim, List, ◌++◌, append-nil, length, length-append, map, sym, ap, arith}
use Rattle.std.proofs.lemmas.List.{length-map, nil_from_length}

made-of : {A R : Type 0} (p : R → A) (rs : List R) (xs ys : List A) → xs ≡ map p rs ++ ys → length ys ≡ 0 → map p rs ≡ xs
made-of p rs xs ys e n = sym (e ∙ ap (λ zs. map p rs ++ zs) (nil_from_length ys n) ∙ append-nil (map p rs))

counted : {A R : Type 0} (p : R → A) (rs : List R) (xs ys : List A) → xs ≡ map p rs ++ ys → length xs ≡ length rs + length ys
counted p rs xs ys e = ap length e ∙ length-append (map p rs) ys ∙ ap (λ n. n + length ys) (length-map rs p)

-- once nothing is left of one of them, nothing is left of the others
pub all-made : {A B C R : Type 0} (f : R → A) (g : R → B) (h : R → C) (rs : List R) (xs us : List A) (ys vs : List B) (zs ws : List C) → xs ≡ map f rs ++ us → ys ≡ map g rs ++ vs → zs ≡ map h rs ++ ws
    → length ys ≡ length xs → length zs ≡ length xs → (length us ≡ 0) ⊎ ((length vs ≡ 0) ⊎ (length ws ≡ 0)) → (map f rs ≡ xs) × (map g rs ≡ ys) × (map h rs ≡ zs)
all-made f g h rs xs us ys vs zs ws d e i l m none =
    let k = counted f rs xs us d in
    let n = counted g rs ys vs e in
    let o = counted h rs zs ws i in
    let nothing : length us ≡ 0 = ⊎_elim (λ z. z) (λ e. ⊎_elim (λ z. omega (arith, k, n, l, z)) (λ z. omega (arith, k, o, m, z)) e) none in
    (made-of f rs xs us d nothing, made-of g rs ys vs e (omega (arith, k, n, l, nothing)), made-of h rs zs ws i (omega (arith, k, o, m, nothing)))
