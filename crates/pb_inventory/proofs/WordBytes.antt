-- The words of a text, byte by byte.
use Rattle.std.proofs.Common.{◌≡◌, ℕ, zero, suc, ◌+◌, ◌-◌, ◌<◌, ◌≤◌, List, [], ◌∷◌, ◌++◌, length, get_or, take, drop, drop-cons, slice_range, Bool, true, false, ◌==◌, ◌||◌, cond, refl, sym, ap, ◌∙◌, subst, add-one, arith, length-drop, inl, inr}
use Rattle.std.proofs.lemmas.Bool.{or_cases, eqb-true}
use Rattle.std.proofs.lemmas.List.{append-nil, get_or-drop, take_more}
use Rattle.pb_language.specs.BookForm.{is_blank, turned, without_blanks, word_met, words_from}
use Rattle.pb_inventory.specs.Patterns.{words_left}

turned-more : (xs ys : List ℕ) (b : ℕ) → turned ys (xs ++ b ∷ []) ≡ b ∷ turned ys xs
turned-more [] ys b = refl
turned-more (x ∷ xs) ys b = turned-more xs (x ∷ ys) b

turned-twice : (xs ys zs : List ℕ) → turned zs (turned xs ys) ≡ turned (ys ++ zs) xs
turned-twice xs [] zs = refl
turned-twice xs (y ∷ ys) zs = turned-twice (y ∷ xs) ys zs

-- a word of which the blanks at the end and then those at the beginning are left out
pub word-trimmed : (text all word : List ℕ) → turned [] all ≡ without_blanks (turned [] text) → word ≡ without_blanks all → word ≡ word_met (turned [] text)
word-trimmed text all word last first =
    first ∙ ap without_blanks (sym (append-nil all) ∙ sym (turned-twice [] all []) ∙ ap (turned []) last)

-- ---- blanks

pub byte-at : (bs : List ℕ) (i : ℕ) → i < length bs → drop i bs ≡ get_or bs i 0 ∷ drop (i + 1) bs
byte-at bs i h = rw add-one (drop-cons bs i 0 h)

pub first-blank : (bs : List ℕ) (i : ℕ) → i < length bs → is_blank (get_or bs i 0) ≡ true → without_blanks bs ≡ without_blanks (drop i bs) → without_blanks bs ≡ without_blanks (drop (i + 1) bs)
first-blank bs i lt blank so = so ∙ ap without_blanks (byte-at bs i lt) ∙ ap (λ b. cond b (without_blanks (drop (i + 1) bs)) (get_or bs i 0 ∷ drop (i + 1) bs)) blank

pub first-letter : (bs : List ℕ) (i : ℕ) → i < length bs → is_blank (get_or bs i 0) ≡ false → without_blanks bs ≡ without_blanks (drop i bs) → drop i bs ≡ without_blanks bs
first-letter bs i lt letter so =
    sym (so ∙ ap without_blanks (byte-at bs i lt) ∙ ap (λ b. cond b (without_blanks (drop (i + 1) bs)) (get_or bs i 0 ∷ drop (i + 1) bs)) letter ∙ sym (byte-at bs i lt))

abbrev pub Ended : List ℕ → ℕ → Type 0
Ended bs end = without_blanks (turned [] bs) ≡ without_blanks (turned [] (take end bs))

last-byte : (bs : List ℕ) (end : ℕ) → 0 < end → end ≤ length bs → turned [] (take end bs) ≡ get_or bs (end - 1) 0 ∷ turned [] (take (end - 1) bs)
last-byte bs end some le =
    let e : (end - 1) + 1 ≡ end = omega (arith, some) in
    ap (λ n. turned [] (take n bs)) (sym e) ∙ ap (turned []) (take_more bs (end - 1) 0 (omega (arith, some, le))) ∙ turned-more (take (end - 1) bs) [] (get_or bs (end - 1) 0)

pub last-blank : (bs : List ℕ) (end : ℕ) → 0 < end → end ≤ length bs → is_blank (get_or bs (end - 1) 0) ≡ true → Ended bs end → Ended bs (end - 1)
last-blank bs end some le blank so =
    so ∙ ap without_blanks (last-byte bs end some le) ∙ ap (λ b. cond b (without_blanks (turned [] (take (end - 1) bs))) (get_or bs (end - 1) 0 ∷ turned [] (take (end - 1) bs))) blank

pub last-letter : (bs : List ℕ) (end : ℕ) → 0 < end → end ≤ length bs → is_blank (get_or bs (end - 1) 0) ≡ false → Ended bs end → turned [] (take end bs) ≡ without_blanks (turned [] bs)
last-letter bs end some le letter so =
    sym (so ∙ ap without_blanks (last-byte bs end some le) ∙ ap (λ b. cond b (without_blanks (turned [] (take (end - 1) bs))) (get_or bs (end - 1) 0 ∷ turned [] (take (end - 1) bs))) letter ∙ sym (last-byte bs end some le))

-- ---- dividers

abbrev is_divider : ℕ → Bool
is_divider b = (b == 58) || (b == 44)

pub words_left-drop : (bs : List ℕ) (k : ℕ) → k ≤ length bs → words_left k bs ≡ words_from [] (drop k bs)
words_left-drop bs zero le = refl
words_left-drop [] (suc k) le = absurd (omega (arith, le))
words_left-drop (b ∷ bs) (suc k) le = words_left-drop bs k (omega (arith, le))

words_left-behind : (bs : List ℕ) → words_left (suc (length bs)) bs ≡ []
words_left-behind [] = refl
words_left-behind (b ∷ bs) = words_left-behind bs

pub words_left-none : (bs : List ℕ) (k : ℕ) → length bs < k → words_left k bs ≡ []
words_left-none bs zero lt = absurd (omega (arith, lt))
words_left-none [] (suc k) lt = refl
words_left-none (b ∷ bs) (suc k) lt = words_left-none bs k (omega (arith, lt))

-- what is left, where the bytes of a word are met from a place on
abbrev pub Met : List ℕ → ℕ → ℕ → Type 0
Met bs from at = words_left from bs ≡ words_from (turned [] (slice_range bs from at)) (drop at bs)

slice-more : (bs : List ℕ) (from at : ℕ) → from ≤ at → at < length bs → slice_range bs from (at + 1) ≡ slice_range bs from at ++ get_or bs at 0 ∷ []
slice-more bs from at le lt =
    let size : (at + 1) - from ≡ (at - from) + 1 = omega (arith, le) in
    let place : from + (at - from) ≡ at = omega (arith, le) in
    ap (λ n. take n (drop from bs)) size ∙ take_more (drop from bs) (at - from) 0 (omega (arith, le, lt, length-drop from bs))
    ∙ ap (λ b. slice_range bs from at ++ b ∷ []) (get_or-drop from bs (at - from) 0 ∙ ap (λ n. get_or bs n 0) place)

pub met-first : (bs : List ℕ) (from : ℕ) → from ≤ length bs → Met bs from from
met-first bs from le =
    let none : from - from ≡ 0 = omega arith in
    words_left-drop bs from le ∙ ap (λ n. words_from (turned [] (take n (drop from bs))) (drop from bs)) (sym none)

pub met-more : (bs : List ℕ) (from at : ℕ) → from ≤ at → at < length bs → is_divider (get_or bs at 0) ≡ false → Met bs from at → Met bs from (at + 1)
met-more bs from at le lt other so =
    let met = turned [] (slice_range bs from at) in
    let rest = drop (at + 1) bs in
    so ∙ ap (words_from met) (byte-at bs at lt)
    ∙ ap (λ b. cond b (word_met met ∷ words_from [] rest) (words_from (get_or bs at 0 ∷ met) rest)) other
    ∙ ap (λ ms. words_from ms rest) (sym (turned-more (slice_range bs from at) [] (get_or bs at 0)) ∙ ap (turned []) (sym (slice-more bs from at le lt)))

pub met-word : (bs : List ℕ) (from at : ℕ) → at < length bs → is_divider (get_or bs at 0) ≡ true → Met bs from at
    → words_left from bs ≡ word_met (turned [] (slice_range bs from at)) ∷ words_left (at + 1) bs
met-word bs from at lt divides so =
    let met = turned [] (slice_range bs from at) in
    let rest = drop (at + 1) bs in
    so ∙ ap (words_from met) (byte-at bs at lt)
    ∙ ap (λ b. cond b (word_met met ∷ words_from [] rest) (words_from (get_or bs at 0 ∷ met) rest)) divides
    ∙ ap (λ ws. word_met met ∷ ws) (sym (words_left-drop bs (at + 1) (omega (arith, lt))))

drop-whole : (bs : List ℕ) → drop (length bs) bs ≡ []
drop-whole [] = refl
drop-whole (b ∷ bs) = drop-whole bs

pub met-last : (bs : List ℕ) (from at : ℕ) → at ≡ length bs → Met bs from at
    → words_left from bs ≡ word_met (turned [] (slice_range bs from (length bs))) ∷ words_left (length bs + 1) bs
met-last bs from at e so =
    let met = turned [] (slice_range bs from (length bs)) in
    subst (Met bs from) e so ∙ ap (words_from met) (drop-whole bs) ∙ ap (λ ws. word_met met ∷ ws) (sym (words_left-none bs (length bs + 1) (omega arith)))

pub divider_small : (b : ℕ) → is_divider b ≡ true → b < 128
divider_small b h = elim (or_cases (b == 58) (b == 44) h) [ inl e ↦ omega (arith, eqb-true b 58 e) | inr e ↦ omega (arith, eqb-true b 44 e) ]

pub blank_small : (b : ℕ) → is_blank b ≡ true → b < 128
blank_small b h = elim (or_cases (b == 32) ((b == 9) || ((b == 10) || (b == 13))) h) [
  | inl e ↦ omega (arith, eqb-true b 32 e)
  | inr r ↦ elim (or_cases (b == 9) ((b == 10) || (b == 13)) r) [
    | inl e ↦ omega (arith, eqb-true b 9 e)
    | inr q ↦ elim (or_cases (b == 10) (b == 13) q) [ inl e ↦ omega (arith, eqb-true b 10 e) | inr e ↦ omega (arith, eqb-true b 13 e) ]
  ]
]
