-- The members of all groups by the places of their hosts.
use Rattle.std.proofs.Common.{◌≡◌, ℕ, zero, suc, ◌+◌, ◌<◌, List, [], ◌∷◌, ◌++◌, length, get_or, set, map, true, cond, refl, sym, ap, ◌∙◌, arith, inl, inr, add-one}
use Rattle.std.specs.List.{All, range_with_len}
use Rattle.std.proofs.lemmas.List.FromFn.{get_or-range_with_len, length-range_with_len}
use Rattle.std.specs.Str.{bytes_eq}
use Rattle.std.proofs.lemmas.Bool.{cases_eq}
use Rattle.std.proofs.lemmas.List.{get_or-set_other, length-set}
use Rattle.std.proofs.lemmas.Grind.{get_or-set_at}
use Rattle.pb_language.specs.Expression.{Name}
use Rattle.pb_language.specs.Families.{host_order, members, members_within}
use Rattle.pb_language.specs.Families as families
use Rattle.pb_language.specs.Written.{Written, all_group, ungrouped_group}
use Rattle.pb_inventory.specs.Numbered.{are_apart, name_of, named}
use Rattle.pb_inventory.proofs.Apart.{name_of-same, unlike}

get_or-shift : (h : Name) (hs : List Name) (a n : ℕ) → map (λ i. get_or (h ∷ hs) i []) (range_with_len (a + 1) n) ≡ map (λ i. get_or hs i []) (range_with_len a n)
get_or-shift h hs a zero = refl
get_or-shift h hs a (suc n) = ap (λ x. x ∷ map (λ i. get_or (h ∷ hs) i []) (range_with_len (a + 1 + 1) n)) (ap (λ k. get_or (h ∷ hs) k []) (add-one a)) ∙ ap (λ xs. get_or hs a [] ∷ xs) (get_or-shift h hs (a + 1) n)

-- the hosts at all places are all hosts
pub named-all : (hs : List Name) → named hs (range_with_len 0 (length hs)) ≡ hs
named-all [] = refl
named-all (h ∷ hs) = ap (λ xs. h ∷ xs) (get_or-shift h hs 0 (length hs) ∙ named-all hs)

members-other : (ws : List Written) (n : Name) → (n ≡ all_group → ⊥) → (n ≡ ungrouped_group → ⊥) → members ws n ≡ families.once (members_within (length ws) ws n)
members-other ws n a u =
    let rest = families.once (members_within (length ws) ws n) in
    ap (λ b. cond b (host_order ws) (cond (bytes_eq n ungrouped_group) (members ws ungrouped_group) rest)) (unlike n all_group a) ∙ ap (λ b. cond b (members ws ungrouped_group) rest) (unlike n ungrouped_group u)

-- members of the two groups that are always there stand in place of what those groups list
pub members-placed : (ws : List Written) (hs ns : List Name) (ms : List (List ℕ)) (a u : ℕ) (all none : List ℕ) → are_apart ns ≡ true → length ms ≡ length ns
    → a < length ns → name_of ns a ≡ all_group → named hs all ≡ host_order ws → u < length ns → name_of ns u ≡ ungrouped_group → named hs none ≡ members ws ungrouped_group
    → ((i : ℕ) → i < length ns → named hs (get_or ms i []) ≡ families.once (members_within (length ws) ws (name_of ns i)))
    → (i : ℕ) → i < length ns → named hs (get_or (set (set ms a all) u none) i []) ≡ members ws (name_of ns i)
members-placed ws hs ns ms a u all none apart count la na ea lu nu eu others i lt = elim (cases_eq i u) [
  | inl e ↦ ap (named hs) (get_or-set_at (set ms a all) u i none [] e (omega (arith, length-set ms a all))) ∙ eu ∙ ap (members ws) (sym (ap (name_of ns) e ∙ nu))
  | inr nu' ↦
      ap (named hs) (get_or-set_other (set ms a all) u i none [] nu') ∙ elim (cases_eq i a) [
        | inl e ↦ ap (named hs) (get_or-set_at ms a i all [] e (omega (arith))) ∙ ea ∙ ap (members ws) (sym (ap (name_of ns) e ∙ na))
        | inr na' ↦
            ap (named hs) (get_or-set_other ms a i all [] na') ∙ others i lt
            ∙ sym (members-other ws (name_of ns i) (λ e. na' (name_of-same ns apart i a lt la (e ∙ sym na))) (λ e. nu' (name_of-same ns apart i u lt lu (e ∙ sym nu))))
      ]
]

range-more : (a n : ℕ) → range_with_len a n ++ (a + n) ∷ [] ≡ range_with_len a (suc n)
range-more a zero = ap (λ k. k ∷ []) (omega arith)
range-more a (suc n) = ap (λ ks. a ∷ ks) (ap (λ k. range_with_len (a + 1) n ++ k ∷ []) (omega arith) ∙ range-more (a + 1) n)

-- one more place
pub places-more : (n : ℕ) → range_with_len 0 n ++ n ∷ [] ≡ range_with_len 0 (n + 1)
places-more n = ap (λ k. range_with_len 0 n ++ k ∷ []) (omega arith) ∙ range-more 0 n ∙ ap (range_with_len 0) (sym (add-one n))

-- places of so many hosts are below their number
pub places-below : (ps : List ℕ) (n limit : ℕ) → ps ≡ range_with_len 0 n → n ≡ limit → All (λ p. p < limit) ps
places-below ps n limit e same = λ k d lt.
    let few : k < n = omega (arith, lt, ap length e, length-range_with_len 0 n) in
    let place : get_or ps k d ≡ 0 + k = ap (λ xs. get_or xs k d) e ∙ get_or-range_with_len 0 n k d few in
    omega (arith, place, few, same)
