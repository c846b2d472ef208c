-- The tokens of a text, a byte of it at a time.
use Rattle.std.proofs.Common.{◌≡◌, ℕ, suc, ◌+◌, ◌-◌, ◌<◌, ◌≤◌, List, [], ◌∷◌, ◌++◌, length, take, drop, slice_range, slice_index, Bool, true, false, ◌||◌, ◌&&◌, ◌==◌, cond, None, Some, append_assoc, refl, sym, ap, ◌∙◌, arith}
use Rattle.std.proofs.lemmas.List.{at_drop_more, drop-drop, drop_more}
use Rattle.std.proofs.lemmas.List.Edits.{between_more, between_none}
use Rattle.std.proofs.lemmas.Bool.{agree_below, agree_below_at, and_from, and_parts, cond-true, cond-false, eq-eqb, ne_eqb, or_parts}
use Rattle.pb_language.specs.Rules.{is_letter, is_digit, are_name_bytes}
use Rattle.pb_language.specs.Tokens.{token, quoted, a_word, a_number, a_text, an_escape, a_pair, is_blank, is_quote, is_paired, are_digits, alone_of, escape_of, number_of, number_then, pair_of, sign_then, sign_of, tokens_from, tokens_of, unreadable}
use Rattle.pb_syntax.specs.Signs.{begins_numeral, begins_other, sign_with, starts_equal}

pub first-byte : (bs : List ℕ) (i : ℕ) → i < length bs → slice_range bs i (i + 1) ≡ slice_index bs i ∷ []
first-byte bs i h = between_more bs i i 0 (omega arith) h ∙ ap (λ w. w ++ slice_index bs i ∷ []) (between_none bs i)

pub from-byte : (bs : List ℕ) (i end : ℕ) → i < end → i < length bs → slice_range bs i end ≡ slice_index bs i ∷ slice_range bs (i + 1) end
from-byte bs i end before h =
    let size : end - i ≡ suc (end - (i + 1)) = omega arith in
    ap (λ n. take n (drop i bs)) size ∙ ap (take (suc (end - (i + 1)))) (drop_more bs i 0 h)

-- what a byte begins

excluded : (f g : ℕ → Bool) → agree_below (λ b. f b && g b) (λ _. false) 256 ≡ true → (b : ℕ) → b < 256 → f b ≡ true → g b ≡ false
excluded f g table b below h = sym (ap (λ x. x && g b) h) ∙ agree_below_at (λ c. f c && g c) (λ _. false) 256 b table below

word-begun : (b : ℕ) (bs : List ℕ) → b < 256 → is_letter b ≡ true → tokens_of (b ∷ bs) ≡ tokens_from (a_word (b ∷ [])) bs
word-begun b bs below letter = cond-false (is_blank b) _ _ (excluded is_letter is_blank refl b below letter) ∙ cond-true (is_letter b) _ _ letter

pub word-begins : (bs : List ℕ) (i : ℕ) → i < length bs → slice_index bs i < 256 → is_letter (slice_index bs i) ≡ true → tokens_of (drop i bs) ≡ tokens_from (a_word (slice_range bs i (i + 1))) (drop (i + 1) bs)
word-begins bs i h below letter =
    at_drop_more tokens_of bs i 0 h ∙ word-begun (slice_index bs i) (drop (i + 1) bs) below letter
    ∙ ap (λ w. tokens_from (a_word w) (drop (i + 1) bs)) (sym (first-byte bs i h))

pub number-begins : (bs : List ℕ) (i : ℕ) → i < length bs → slice_index bs i < 256 → begins_numeral (slice_index bs i) ≡ true → tokens_of (drop i bs) ≡ tokens_from (a_number (slice_index bs i ∷ [])) (drop (i + 1) bs)
number-begins bs i h below numeral =
    let b = slice_index bs i in
    let others = or_parts (is_blank b) (is_letter b) (excluded begins_numeral (λ c. is_blank c || is_letter c) refl b below numeral) in
    at_drop_more tokens_of bs i 0 h ∙ cond-false (is_blank b) _ _ others.0 ∙ cond-false (is_letter b) _ _ others.1 ∙ cond-true (begins_numeral b) _ _ numeral

pub text-begins : (bs : List ℕ) (i : ℕ) → i < length bs → slice_index bs i < 256 → is_quote (slice_index bs i) ≡ true → tokens_of (drop i bs) ≡ tokens_from (a_text (slice_index bs i) []) (drop (i + 1) bs)
text-begins bs i h below quote =
    let b = slice_index bs i in
    let others = or_parts (is_blank b || is_letter b) (begins_numeral b) (excluded is_quote (λ c. (is_blank c || is_letter c) || begins_numeral c) refl b below quote) in
    let early = or_parts (is_blank b) (is_letter b) others.0 in
    at_drop_more tokens_of bs i 0 h
    ∙ cond-false (is_blank b) _ _ early.0 ∙ cond-false (is_letter b) _ _ early.1 ∙ cond-false (begins_numeral b) _ _ others.1 ∙ cond-true (is_quote b) _ _ quote

-- words

names-push : (w : List ℕ) (b : ℕ) → are_name_bytes w ≡ true → (is_letter b || is_digit b) ≡ true → are_name_bytes (w ++ b ∷ []) ≡ true
names-push [] b h letter = and_from (is_letter b || is_digit b) true letter refl
names-push (a ∷ w) b h letter = let parts = and_parts (is_letter a || is_digit a) (are_name_bytes w) h in and_from (is_letter a || is_digit a) (are_name_bytes (w ++ b ∷ [])) parts.0 (names-push w b parts.1 letter)

pub names-begin : (bs : List ℕ) (i : ℕ) → i < length bs → is_letter (slice_index bs i) ≡ true → are_name_bytes (slice_range bs i (i + 1)) ≡ true
names-begin bs i h letter = ap are_name_bytes (first-byte bs i h) ∙ names-push [] (slice_index bs i) refl (ap (λ x. x || is_digit (slice_index bs i)) letter)

pub names-turn : (bs : List ℕ) (start i : ℕ) → start ≤ i → i < length bs → (is_letter (slice_index bs i) || is_digit (slice_index bs i)) ≡ true → are_name_bytes (slice_range bs start i) ≡ true
    → are_name_bytes (slice_range bs start (i + 1)) ≡ true
names-turn bs start i from h letter names = ap are_name_bytes (between_more bs start i 0 from h) ∙ names-push (slice_range bs start i) (slice_index bs i) names letter

pub word-turn : (bs : List ℕ) (start i : ℕ) → start ≤ i → i < length bs → (is_letter (slice_index bs i) || is_digit (slice_index bs i)) ≡ true
    → tokens_from (a_word (slice_range bs start i)) (drop i bs) ≡ tokens_from (a_word (slice_range bs start (i + 1))) (drop (i + 1) bs)
word-turn bs start i from h letter =
    at_drop_more (tokens_from (a_word (slice_range bs start i))) bs i 0 h
    ∙ cond-true (is_letter (slice_index bs i) || is_digit (slice_index bs i)) _ _ letter
    ∙ ap (λ w. tokens_from (a_word w) (drop (i + 1) bs)) (sym (between_more bs start i 0 from h))

-- numbers

digits-push : (w : List ℕ) (b : ℕ) → are_digits w ≡ true → is_digit b ≡ true → are_digits (w ++ b ∷ []) ≡ true
digits-push [] b h digit = and_from (is_digit b) true digit refl
digits-push (a ∷ w) b h digit = let parts = and_parts (is_digit a) (are_digits w) h in and_from (is_digit a) (are_digits (w ++ b ∷ [])) parts.0 (digits-push w b parts.1 digit)

pub digits-turn : (bs : List ℕ) (start i : ℕ) → start ≤ i → i < length bs → is_digit (slice_index bs i) ≡ true → are_digits (slice_range bs start i) ≡ true → are_digits (slice_range bs start (i + 1)) ≡ true
digits-turn bs start i from h digit digits = ap are_digits (between_more bs start i 0 from h) ∙ digits-push (slice_range bs start i) (slice_index bs i) digits digit

pub number-turn : (w bs : List ℕ) (start i : ℕ) → start ≤ i → i < length bs → is_digit (slice_index bs i) ≡ true
    → tokens_from (a_number (w ++ slice_range bs start i)) (drop i bs) ≡ tokens_from (a_number (w ++ slice_range bs start (i + 1))) (drop (i + 1) bs)
number-turn w bs start i from h digit =
    at_drop_more (tokens_from (a_number (w ++ slice_range bs start i))) bs i 0 h
    ∙ cond-true (is_digit (slice_index bs i)) _ _ digit
    ∙ ap (λ v. tokens_from (a_number v) (drop (i + 1) bs)) (append_assoc w (slice_range bs start i) (slice_index bs i ∷ []) ∙ ap (λ v. w ++ v) (sym (between_more bs start i 0 from h)))

pub number-read : (bs : List ℕ) (start end : ℕ) → start < end → start < length bs → slice_index bs start < 256 → begins_numeral (slice_index bs start) ≡ true
    → ((w : List ℕ) → tokens_from (a_number w) (drop (start + 1) bs) ≡ number_then (number_of (w ++ slice_range bs (start + 1) end)) (tokens_of (drop end bs)))
    → tokens_of (drop start bs) ≡ number_then (number_of (slice_range bs start end)) (tokens_of (drop end bs))
number-read bs start end before h below numeral digits =
    number-begins bs start h below numeral ∙ digits (slice_index bs start ∷ [])
    ∙ ap (λ w. number_then (number_of w) (tokens_of (drop end bs))) (sym (from-byte bs start end before h))

-- texts

pub text-ends : (q : ℕ) (w bs : List ℕ) (i : ℕ) → i < length bs → slice_index bs i ≡ q → tokens_from (a_text q w) (drop i bs) ≡ token (quoted w) (tokens_of (drop (i + 1) bs))
text-ends q w bs i h same = at_drop_more (tokens_from (a_text q w)) bs i 0 h ∙ cond-true (slice_index bs i == q) _ _ (eq-eqb _ _ same)

pub text-turn : (q : ℕ) (w bs : List ℕ) (i : ℕ) → i < length bs → (slice_index bs i ≡ q → ⊥) → (slice_index bs i ≡ 92 → ⊥)
    → tokens_from (a_text q w) (drop i bs) ≡ tokens_from (a_text q (w ++ slice_index bs i ∷ [])) (drop (i + 1) bs)
text-turn q w bs i h other plain =
    at_drop_more (tokens_from (a_text q w)) bs i 0 h ∙ cond-false (slice_index bs i == q) _ _ (ne_eqb _ _ other) ∙ cond-false (slice_index bs i == 92) _ _ (ne_eqb _ _ plain)

pub text-escape : (q : ℕ) (w bs : List ℕ) (i : ℕ) → i < length bs → (slice_index bs i ≡ q → ⊥) → slice_index bs i ≡ 92 → tokens_from (a_text q w) (drop i bs) ≡ tokens_from (an_escape q w) (drop (i + 1) bs)
text-escape q w bs i h other escape =
    at_drop_more (tokens_from (a_text q w)) bs i 0 h ∙ cond-false (slice_index bs i == q) _ _ (ne_eqb _ _ other) ∙ cond-true (slice_index bs i == 92) _ _ (eq-eqb _ _ escape)

pub escape-turn : (q d : ℕ) (w bs : List ℕ) (i : ℕ) → i < length bs → escape_of (slice_index bs i) ≡ Some d → tokens_from (an_escape q w) (drop i bs) ≡ tokens_from (a_text q (w ++ d ∷ [])) (drop (i + 1) bs)
escape-turn q d w bs i h known = at_drop_more (tokens_from (an_escape q w)) bs i 0 h ∙ rw known refl

-- signs

double : (q : Bool) (b : ℕ) (rest : List ℕ) → true ≡ starts_equal rest
    → cond q (tokens_from (a_pair b) rest) (sign_then (sign_of b) (tokens_of rest)) ≡ sign_then (cond q (Some (pair_of b)) (sign_of b)) (tokens_of (cond q (drop 1 rest) rest))
double true b [] e = cc
double true b (c ∷ rest) e = cond-true (c == 61) _ _ (sym e)
double false b rest e = refl

single : (q : Bool) (b : ℕ) (rest : List ℕ) → false ≡ starts_equal rest
    → cond q (tokens_from (a_pair b) rest) (sign_then (sign_of b) (tokens_of rest)) ≡ sign_then (cond q (alone_of b) (sign_of b)) (tokens_of rest)
single true b [] e = refl
single true b (c ∷ rest) e = cond-false (c == 61) _ _ (sym e)
single false b rest e = refl

paired : (p : Bool) (b : ℕ) (rest : List ℕ) → p ≡ starts_equal rest
    → cond (is_paired b) (tokens_from (a_pair b) rest) (sign_then (sign_of b) (tokens_of rest)) ≡ sign_then (sign_with b p) (tokens_of (cond (p && is_paired b) (drop 1 rest) rest))
paired true b rest e = double (is_paired b) b rest e
paired false b rest e = single (is_paired b) b rest e

sign-read : (bs : List ℕ) (i : ℕ) (p : Bool) → i < length bs → begins_other (slice_index bs i) ≡ false → p ≡ starts_equal (drop (i + 1) bs)
    → tokens_of (drop i bs) ≡ sign_then (sign_with (slice_index bs i) p) (tokens_of (cond (p && is_paired (slice_index bs i)) (drop 1 (drop (i + 1) bs)) (drop (i + 1) bs)))
sign-read bs i p h apart e =
    let b = slice_index bs i in
    let halves = or_parts (is_blank b || is_letter b) (begins_numeral b || is_quote b) apart in
    let early = or_parts (is_blank b) (is_letter b) halves.0 in
    let late = or_parts (begins_numeral b) (is_quote b) halves.1 in
    at_drop_more tokens_of bs i 0 h
    ∙ cond-false (is_blank b) _ _ early.0 ∙ cond-false (is_letter b) _ _ early.1 ∙ cond-false (begins_numeral b) _ _ late.0 ∙ cond-false (is_quote b) _ _ late.1
    ∙ paired p b (drop (i + 1) bs) e

pub sign-refused : (bs : List ℕ) (i : ℕ) (p : Bool) → i < length bs → begins_other (slice_index bs i) ≡ false → p ≡ starts_equal (drop (i + 1) bs) → sign_with (slice_index bs i) p ≡ None
    → tokens_of (drop i bs) ≡ unreadable
sign-refused bs i p h apart e none =
    sign-read bs i p h apart e ∙ ap (λ o. sign_then o (tokens_of (cond (p && is_paired (slice_index bs i)) (drop 1 (drop (i + 1) bs)) (drop (i + 1) bs)))) none

pub sign-single : (bs : List ℕ) (i : ℕ) (p : Bool) → i < length bs → begins_other (slice_index bs i) ≡ false → p ≡ starts_equal (drop (i + 1) bs) → (p && is_paired (slice_index bs i)) ≡ false
    → tokens_of (drop i bs) ≡ sign_then (sign_with (slice_index bs i) p) (tokens_of (drop (i + 1) bs))
sign-single bs i p h apart e alone =
    sign-read bs i p h apart e
    ∙ ap (λ q. sign_then (sign_with (slice_index bs i) p) (tokens_of (cond q (drop 1 (drop (i + 1) bs)) (drop (i + 1) bs)))) alone

pub sign-double : (bs : List ℕ) (i : ℕ) (p : Bool) → i < length bs → begins_other (slice_index bs i) ≡ false → p ≡ starts_equal (drop (i + 1) bs) → (p && is_paired (slice_index bs i)) ≡ true
    → tokens_of (drop i bs) ≡ sign_then (sign_with (slice_index bs i) p) (tokens_of (drop (i + 2) bs))
sign-double bs i p h apart e both =
    let two : (i + 1) + 1 ≡ i + 2 = omega arith in
    sign-read bs i p h apart e
    ∙ ap (λ q. sign_then (sign_with (slice_index bs i) p) (tokens_of (cond q (drop 1 (drop (i + 1) bs)) (drop (i + 1) bs)))) both
    ∙ ap (λ w. sign_then (sign_with (slice_index bs i) p) (tokens_of w)) (drop-drop 1 (i + 1) bs ∙ ap (λ n. drop n bs) two)
