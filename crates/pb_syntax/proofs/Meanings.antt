-- What the letters of a quoted text mean, a byte at a time.
use Rattle.std.proofs.Common.{◌≡◌, ℕ, ◌+◌, ◌<◌, ◌≤◌, List, [], ◌∷◌, ◌++◌, length, drop, slice_range, slice_index, Bool, true, false, ◌==◌, Option, Some, None, append_assoc, refl, sym, ap, ◌∙◌, arith}
use Rattle.std.proofs.lemmas.List.{at_drop_more}
use Rattle.std.proofs.lemmas.List.Edits.{between_more, between_none}
use Rattle.std.proofs.lemmas.Bool.{cond-true, cond-false, eq-eqb, ne_eqb}
use Rattle.std.specs.Option.{is_some, unwrap_or}
use Rattle.pb_language.specs.Tokens.{a_text, escape_of, tokens_from}
use Rattle.pb_syntax.specs.Letters.{letter_for, unescaped}
use Rattle.pb_syntax.proofs.Scanned.{text-turn, text-escape, escape-turn}

-- behind a `\`, or behind none
abbrev pub unescaped_after : Bool → List ℕ → List ℕ
unescaped_after false bs = unescaped bs
unescaped_after true [] = []
unescaped_after true (b ∷ bs) = letter_for (escape_of b) b ∷ unescaped bs

unescaped-plain : (b : ℕ) (bs : List ℕ) → (b ≡ 92 → ⊥) → unescaped (b ∷ bs) ≡ b ∷ unescaped bs
unescaped-plain b [] plain = cond-false (b == 92) _ _ (ne_eqb b 92 plain)
unescaped-plain b (c ∷ bs) plain = cond-false (b == 92) _ _ (ne_eqb b 92 plain)

unescaped-open : (b : ℕ) (bs : List ℕ) → b ≡ 92 → unescaped (b ∷ bs) ≡ unescaped_after true bs
unescaped-open b [] escape = cond-true (b == 92) _ _ (eq-eqb b 92 escape)
unescaped-open b (c ∷ bs) escape = cond-true (b == 92) _ _ (eq-eqb b 92 escape)

-- a turn of the loop that puts letters for escapes

plain-turn : (done bs : List ℕ) (i : ℕ) → i < length bs → (slice_index bs i ≡ 92 → ⊥) → done ++ unescaped (drop i bs) ≡ (done ++ slice_index bs i ∷ []) ++ unescaped (drop (i + 1) bs)
plain-turn done bs i h plain =
    ap (λ w. done ++ w) (at_drop_more unescaped bs i 0 h ∙ unescaped-plain (slice_index bs i) (drop (i + 1) bs) plain)
    ∙ sym (append_assoc done (slice_index bs i ∷ []) (unescaped (drop (i + 1) bs)))

open-turn : (done bs : List ℕ) (i : ℕ) → i < length bs → slice_index bs i ≡ 92 → done ++ unescaped (drop i bs) ≡ done ++ unescaped_after true (drop (i + 1) bs)
open-turn done bs i h escape = ap (λ w. done ++ w) (at_drop_more unescaped bs i 0 h ∙ unescaped-open (slice_index bs i) (drop (i + 1) bs) escape)

escape-closed : (done bs : List ℕ) (i : ℕ) → i < length bs
    → done ++ unescaped_after true (drop i bs) ≡ (done ++ letter_for (escape_of (slice_index bs i)) (slice_index bs i) ∷ []) ++ unescaped (drop (i + 1) bs)
escape-closed done bs i h =
    ap (λ w. done ++ w) (at_drop_more (unescaped_after true) bs i 0 h)
    ∙ sym (append_assoc done (letter_for (escape_of (slice_index bs i)) (slice_index bs i) ∷ []) (unescaped (drop (i + 1) bs)))

unwrapped : (o : Option ℕ) (b : ℕ) → unwrap_or o b ≡ letter_for o b
unwrapped None b = refl
unwrapped (Some c) b = refl

pub plain-kept : (done now bs : List ℕ) (i : ℕ) (was is : Bool) → i < length bs → (slice_index bs i ≡ 92 → ⊥) → was ≡ false → now ≡ done ++ slice_index bs i ∷ [] → is ≡ was
    → done ++ unescaped_after was (drop i bs) ≡ unescaped bs → now ++ unescaped_after is (drop (i + 1) bs) ≡ unescaped bs
plain-kept done now bs i was is h plain before more after kept =
    ap (λ e. now ++ unescaped_after e (drop (i + 1) bs)) (after ∙ before) ∙ ap (λ w. w ++ unescaped (drop (i + 1) bs)) more
    ∙ sym (plain-turn done bs i h plain) ∙ ap (λ e. done ++ unescaped_after e (drop i bs)) (sym before) ∙ kept

pub open-kept : (done now bs : List ℕ) (i : ℕ) (was is : Bool) → i < length bs → slice_index bs i ≡ 92 → was ≡ false → now ≡ done → is ≡ true
    → done ++ unescaped_after was (drop i bs) ≡ unescaped bs → now ++ unescaped_after is (drop (i + 1) bs) ≡ unescaped bs
open-kept done now bs i was is h escape before same after kept =
    ap (λ e. now ++ unescaped_after e (drop (i + 1) bs)) after ∙ ap (λ w. w ++ unescaped_after true (drop (i + 1) bs)) same
    ∙ sym (open-turn done bs i h escape) ∙ ap (λ e. done ++ unescaped_after e (drop i bs)) (sym before) ∙ kept

pub escape-kept : (done now bs : List ℕ) (i : ℕ) (was is : Bool) → i < length bs → was ≡ true → now ≡ done ++ unwrap_or (escape_of (slice_index bs i)) (slice_index bs i) ∷ [] → is ≡ false
    → done ++ unescaped_after was (drop i bs) ≡ unescaped bs → now ++ unescaped_after is (drop (i + 1) bs) ≡ unescaped bs
escape-kept done now bs i was is h before more after kept =
    let b = slice_index bs i in
    ap (λ e. now ++ unescaped_after e (drop (i + 1) bs)) after
    ∙ ap (λ w. w ++ unescaped (drop (i + 1) bs)) (more ∙ ap (λ c. done ++ c ∷ []) (unwrapped (escape_of b) b))
    ∙ sym (escape-closed done bs i h) ∙ ap (λ e. done ++ unescaped_after e (drop i bs)) (sym before) ∙ kept

-- bytes that end no escape half-way

abbrev pub Whole : List ℕ → Type 0
Whole w = (rest : List ℕ) → unescaped (w ++ rest) ≡ unescaped w ++ unescaped rest

whole-join : (w v : List ℕ) → Whole w → Whole v → Whole (w ++ v)
whole-join w v h g = λ rest.
    ap unescaped (append_assoc w v rest) ∙ h (v ++ rest) ∙ ap (λ u. unescaped w ++ u) (g rest)
    ∙ sym (append_assoc (unescaped w) (unescaped v) (unescaped rest)) ∙ ap (λ u. u ++ unescaped rest) (sym (h v))

whole-plain : (b : ℕ) → (b ≡ 92 → ⊥) → Whole (b ∷ [])
whole-plain b plain = λ rest. unescaped-plain b rest plain ∙ ap (λ w. w ++ unescaped rest) (sym (unescaped-plain b [] plain))

whole-escape : (b c : ℕ) → b ≡ 92 → Whole (b ∷ c ∷ [])
whole-escape b c escape = λ rest. unescaped-open b (c ∷ rest) escape ∙ ap (λ w. w ++ unescaped rest) (sym (unescaped-open b (c ∷ []) escape))

pub whole-none : (bs : List ℕ) (i : ℕ) → Whole (slice_range bs i i)
whole-none bs i = λ rest. ap (λ w. unescaped (w ++ rest)) (between_none bs i) ∙ ap (λ w. unescaped w ++ unescaped rest) (sym (between_none bs i))

two-more : (bs : List ℕ) (start i : ℕ) → start ≤ i → i + 1 < length bs → slice_range bs start (i + 2) ≡ slice_range bs start i ++ (slice_index bs i ∷ slice_index bs (i + 1) ∷ [])
two-more bs start i from h =
    let both : i + 2 ≡ (i + 1) + 1 = omega arith in
    ap (slice_range bs start) both ∙ between_more bs start (i + 1) 0 (omega arith) h ∙ ap (λ w. w ++ slice_index bs (i + 1) ∷ []) (between_more bs start i 0 from (omega arith))
    ∙ append_assoc (slice_range bs start i) (slice_index bs i ∷ []) (slice_index bs (i + 1) ∷ [])

pub whole-turn : (bs : List ℕ) (start i : ℕ) → start ≤ i → i < length bs → (slice_index bs i ≡ 92 → ⊥) → Whole (slice_range bs start i) → Whole (slice_range bs start (i + 1))
whole-turn bs start i from h plain whole = λ rest.
    ap (λ w. unescaped (w ++ rest)) (between_more bs start i 0 from h)
    ∙ whole-join (slice_range bs start i) (slice_index bs i ∷ []) whole (whole-plain (slice_index bs i) plain) rest
    ∙ ap (λ w. unescaped w ++ unescaped rest) (sym (between_more bs start i 0 from h))

pub whole-escaped : (bs : List ℕ) (start i : ℕ) → start ≤ i → i + 1 < length bs → slice_index bs i ≡ 92 → Whole (slice_range bs start i) → Whole (slice_range bs start (i + 2))
whole-escaped bs start i from h escape whole = λ rest.
    ap (λ w. unescaped (w ++ rest)) (two-more bs start i from h)
    ∙ whole-join (slice_range bs start i) (slice_index bs i ∷ slice_index bs (i + 1) ∷ []) whole (whole-escape (slice_index bs i) (slice_index bs (i + 1)) escape) rest
    ∙ ap (λ w. unescaped w ++ unescaped rest) (sym (two-more bs start i from h))

-- a turn of the loop that goes to a text's end

pub meaning-turn : (q : ℕ) (bs : List ℕ) (start i : ℕ) → start ≤ i → i < length bs → (slice_index bs i ≡ q → ⊥) → (slice_index bs i ≡ 92 → ⊥) → Whole (slice_range bs start i)
    → tokens_from (a_text q (unescaped (slice_range bs start i))) (drop i bs) ≡ tokens_from (a_text q (unescaped (slice_range bs start (i + 1)))) (drop (i + 1) bs)
meaning-turn q bs start i from h other plain whole =
    text-turn q (unescaped (slice_range bs start i)) bs i h other plain
    ∙ ap (λ w. tokens_from (a_text q w) (drop (i + 1) bs))
    (ap (λ w. unescaped (slice_range bs start i) ++ w) (sym (unescaped-plain (slice_index bs i) [] plain)) ∙ sym (whole (slice_index bs i ∷ [])) ∙ ap unescaped (sym (between_more bs start i 0 from h)))

meaning-escape : (q d : ℕ) (bs : List ℕ) (start i : ℕ) → start ≤ i → i + 1 < length bs → (slice_index bs i ≡ q → ⊥) → slice_index bs i ≡ 92 → escape_of (slice_index bs (i + 1)) ≡ Some d
    → Whole (slice_range bs start i)
    → tokens_from (a_text q (unescaped (slice_range bs start i))) (drop i bs) ≡ tokens_from (a_text q (unescaped (slice_range bs start (i + 2)))) (drop (i + 2) bs)
meaning-escape q d bs start i from h other escape known whole =
    let w = unescaped (slice_range bs start i) in let b = slice_index bs i in let c = slice_index bs (i + 1) in
    let both : (i + 1) + 1 ≡ i + 2 = omega arith in
    let letter : unescaped (b ∷ c ∷ []) ≡ d ∷ [] = unescaped-open b (c ∷ []) escape ∙ ap (λ o. letter_for o c ∷ []) known in
    text-escape q w bs i (omega arith) other escape ∙ escape-turn q d w bs (i + 1) h known
    ∙ ap (λ n. tokens_from (a_text q (w ++ d ∷ [])) (drop n bs)) both
    ∙ ap (λ v. tokens_from (a_text q v) (drop (i + 2) bs)) (ap (λ v. w ++ v) (sym letter) ∙ sym (whole (b ∷ c ∷ [])) ∙ ap unescaped (sym (two-more bs start i from h)))

known_letter : (o : Option ℕ) → is_some o ≡ true → (d : ℕ) × (o ≡ Some d)
known_letter None h = absurd (cc h)
known_letter (Some d) h = (d, refl)

pub meaning-escaped : (q : ℕ) (bs : List ℕ) (start i : ℕ) → start ≤ i → i + 1 < length bs → (slice_index bs i ≡ q → ⊥) → slice_index bs i ≡ 92 → is_some (escape_of (slice_index bs (i + 1))) ≡ true
    → Whole (slice_range bs start i)
    → tokens_from (a_text q (unescaped (slice_range bs start i))) (drop i bs) ≡ tokens_from (a_text q (unescaped (slice_range bs start (i + 2)))) (drop (i + 2) bs)
meaning-escaped q bs start i from h other escape known whole =
    let letter = known_letter (escape_of (slice_index bs (i + 1))) known in
    meaning-escape q letter.0 bs start i from h other escape letter.1 whole
