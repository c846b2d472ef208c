-- Numbers that are added to a list, each once.
use Rattle.std.proofs.Common.{◌≡◌, ℕ, ◌<◌, true, false, ◌||◌, cond, eqb, List, [], ◌∷◌, ◌++◌, refl, sym, ap, ◌∙◌}
use Rattle.std.specs.List.{flat_map}
use Rattle.std.proofs.Common.{inl, inr, length, get_or, take, ◌+◌}
use Rattle.std.proofs.lemmas.Bool.{cond_both, cond-true, eqb-true, false≢true, or_cases, or_right}
use Rattle.std.proofs.lemmas.List.{flat_map_more, take_more}
use Rattle.pb_inventory.specs.Graph.{is_in}
use Rattle.pb_inventory.specs.Families.{add_numbers, once}

pub is_in-joined : (n : ℕ) (ns ms : List ℕ) → is_in n (ns ++ ms) ≡ (is_in n ns || is_in n ms)
is_in-joined n [] ms = refl
is_in-joined n (x ∷ xs) ms = elim (eqb n x) as (λ b. (b || is_in n (xs ++ ms)) ≡ (b || is_in n xs || is_in n ms)) [ true ↦ refl | false ↦ is_in-joined n xs ms ]

pub add_numbers-append : (ns ms ls : List ℕ) → add_numbers ns (ms ++ ls) ≡ add_numbers (add_numbers ns ms) ls
add_numbers-append ns [] ls = refl
add_numbers-append ns (m ∷ ms) ls = add_numbers-append (cond (is_in m ns) ns (ns ++ m ∷ [])) ms ls

-- what is there stays there
pub is_in-add_numbers : (n : ℕ) (ns ms : List ℕ) → is_in n ns ≡ true → is_in n (add_numbers ns ms) ≡ true
is_in-add_numbers n ns [] h = h
is_in-add_numbers n ns (m ∷ ms) h =
    is_in-add_numbers n (cond (is_in m ns) ns (ns ++ m ∷ [])) ms
    (elim (is_in m ns) as (λ b. is_in n (cond b ns (ns ++ m ∷ [])) ≡ true) [ true ↦ h | false ↦ rw (is_in-joined n ns (m ∷ []), h) refl ])

is_in-last : (n m : ℕ) (ns : List ℕ) → eqb n m ≡ true → is_in n (cond (is_in m ns) ns (ns ++ m ∷ [])) ≡ true
is_in-last n m ns h =
    let e : n ≡ m = eqb-true n m h in
    cond_both (is_in m ns) ns (ns ++ m ∷ []) (λ xs. is_in n xs ≡ true)
    (λ there. rw e there)
    (λ _. rw (is_in-joined n ns (m ∷ []), h) (or_right (is_in n ns) true refl))

-- what is added is there
pub is_in-added : (n : ℕ) (ns ms : List ℕ) → is_in n ms ≡ true → is_in n (add_numbers ns ms) ≡ true
is_in-added n ns [] h = absurd (false≢true h)
is_in-added n ns (m ∷ ms) h =
    elim (or_cases (eqb n m) (is_in n ms) h) [
      | inl e ↦ is_in-add_numbers n (cond (is_in m ns) ns (ns ++ m ∷ [])) ms (is_in-last n m ns e)
      | inr e ↦ is_in-added n (cond (is_in m ns) ns (ns ++ m ∷ [])) ms e
    ]

add_numbers-last : (l : ℕ) (ns ms : List ℕ) → add_numbers ns (cond (is_in l ms) ms (ms ++ l ∷ []))
    ≡ cond (is_in l (add_numbers ns ms)) (add_numbers ns ms) (add_numbers ns ms ++ l ∷ [])
add_numbers-last l ns ms =
    let all = add_numbers ns ms in
    cond_both (is_in l ms) ms (ms ++ l ∷ []) (λ xs. add_numbers ns xs ≡ cond (is_in l all) all (all ++ l ∷ []))
    (λ there. sym (cond-true (is_in l all) all (all ++ l ∷ []) (is_in-added l ns ms there)))
    (λ _. add_numbers-append ns ms (l ∷ []))

-- numbers are added alike, however they were gathered
pub add_numbers-add_numbers : (ns ms ls : List ℕ) → add_numbers ns (add_numbers ms ls) ≡ add_numbers (add_numbers ns ms) ls
add_numbers-add_numbers ns ms [] = refl
add_numbers-add_numbers ns ms (l ∷ ls) =
    add_numbers-add_numbers ns (cond (is_in l ms) ms (ms ++ l ∷ [])) ls ∙ ap (λ xs. add_numbers xs ls) (add_numbers-last l ns ms)

pub add_numbers-once : (ns ms : List ℕ) → add_numbers ns (once ms) ≡ add_numbers ns ms
add_numbers-once ns ms = add_numbers-add_numbers ns [] ms

pub add_numbers-flat_map : (f : ℕ → List ℕ) (ns xs : List ℕ) → add_numbers ns (flat_map (λ x. once (f x)) xs) ≡ add_numbers ns (flat_map f xs)
add_numbers-flat_map f ns [] = refl
add_numbers-flat_map f ns (x ∷ xs) =
    add_numbers-append ns (once (f x)) (flat_map (λ y. once (f y)) xs)
    ∙ ap (λ ms. add_numbers ms (flat_map (λ y. once (f y)) xs)) (add_numbers-once ns (f x))
    ∙ add_numbers-flat_map f (add_numbers ns (f x)) xs
    ∙ sym (add_numbers-append ns (f x) (flat_map f xs))

pub once-flat_map : (f : ℕ → List ℕ) (own xs : List ℕ) → once (own ++ flat_map (λ x. once (f x)) xs) ≡ once (own ++ flat_map f xs)
once-flat_map f own xs =
    add_numbers-append [] own (flat_map (λ x. once (f x)) xs) ∙ add_numbers-flat_map f (once own) xs ∙ sym (add_numbers-append [] own (flat_map f xs))

-- one more number, and one more list, as at a step of a loop
pub add_numbers-more : (ns ms : List ℕ) (i : ℕ) → i < length ms → add_numbers (add_numbers ns (take i ms)) (get_or ms i 0 ∷ []) ≡ add_numbers ns (take (i + 1) ms)
add_numbers-more ns ms i lt =
    sym (ap (add_numbers ns) (take_more ms i 0 lt) ∙ add_numbers-append ns (take i ms) (get_or ms i 0 ∷ []))

pub once-more : (f : ℕ → List ℕ) (own xs : List ℕ) (i : ℕ) → i < length xs
    → add_numbers (once (own ++ flat_map f (take i xs))) (f (get_or xs i 0)) ≡ once (own ++ flat_map f (take (i + 1) xs))
once-more f own xs i lt =
    sym (add_numbers-append [] (own ++ flat_map f (take i xs)) (f (get_or xs i 0)))
    ∙ ap once (flat_map_more f own (take i xs) (get_or xs i 0) ∙ ap (λ ys. own ++ flat_map f ys) (sym (take_more xs i 0 lt)))
