-- What `parse` reads of a numeral, and names and numerals as texts.
use Rattle.std.proofs.Common.{◌≡◌, ℕ, zero, suc, ℤ, pos, neg_ℤ, ◌<◌, List, [], ◌∷◌, drop, Bool, true, false, true≢false, ◌||◌, ◌&&◌, ◌==◌, leb, cond, Some, None, Result, Ok, Err, w64, refl, sym, ap, ◌∙◌, arith, rules}
use Rattle.std.proofs.lemmas.Bool.{and_from, and_parts, cond-true, cond-false, eqb-true, false_from_ne_true, le-leb, leb-true}
use Rattle.std.proofs.lemmas.Bool.Decides.{nat_tests}
use Rattle.std.proofs.lemmas.Str.Parse.{IsNumeralModel, numerals_by_value, parse_signed_digits, parse_signed_minus}
use Rattle.std.specs.Result.{OkIff, result_ok}
use Rattle.std.specs.Str.{IsAscii}
use Rattle.std.specs.Str.Parse.{ParsesSigned, digits_value}
use Rattle.pb_language.specs.Rules.{are_name_bytes, is_letter, is_digit}
use Rattle.pb_language.specs.Tokens.{are_digits, is_numeral}
use Rattle.pb_syntax.specs.Letters.{int_of, is_lettered, is_minus, is_number, is_spelled, negative, number_spelled, positive}
use Rattle.pb_syntax.specs.declared.lexer.Sort.{Sort}
use Rattle.pb_syntax.specs.declared.lexer.Sort.TheVariants as sort

-- bytes below 128

name_byte-below : (b : ℕ) → (is_letter b || is_digit b) ≡ true → b < 128
name_byte-below b h = grind (arith, nat_tests)

digit-below : (b : ℕ) → is_digit b ≡ true → b < 128
digit-below b h = grind (arith, nat_tests)

ascii-none : IsAscii []
ascii-none i = omega arith

ascii-more : (b : ℕ) (bs : List ℕ) → b < 128 → IsAscii bs → IsAscii (b ∷ bs)
ascii-more b bs h more zero = h
ascii-more b bs h more (suc i) = more i

pub ascii-names : (bs : List ℕ) → are_name_bytes bs ≡ true → IsAscii bs
ascii-names [] h = ascii-none
ascii-names (b ∷ bs) h = let parts = and_parts (is_letter b || is_digit b) (are_name_bytes bs) h in ascii-more b bs (name_byte-below b parts.0) (ascii-names bs parts.1)

ascii-digits : (bs : List ℕ) → are_digits bs ≡ true → IsAscii bs
ascii-digits [] h = ascii-none
ascii-digits (b ∷ bs) h = let parts = and_parts (is_digit b) (are_digits bs) h in ascii-more b bs (digit-below b parts.0) (ascii-digits bs parts.1)

-- numbers

numeral-digits : (bs : List ℕ) → is_numeral bs ≡ true → are_digits bs ≡ true
numeral-digits [] h = refl
numeral-digits (b ∷ []) h = and_from (is_digit b) true h refl
numeral-digits (b ∷ c ∷ bs) h =
    let parts = and_parts (is_digit b && leb 49 b) (are_digits (c ∷ bs)) h in and_from (is_digit b) (are_digits (c ∷ bs)) (and_parts (is_digit b) (leb 49 b) parts.0).0 parts.1

own : IsNumeralModel (λ ds. are_digits ds ≡ true) (digits_value 10)
own = numerals_by_value _ (search rules)

read-by : {E : Type 0} (r : Result ℤ E) (P : Type 0) (z : ℤ) (t : Bool) → OkIff r P z → (P → t ≡ true) → (t ≡ true → P) → result_ok r ≡ cond t (Some z) None
read-by (Ok x) P z t h to from = ap Some h.1 ∙ sym (cond-true t (Some z) None (to h.0))
read-by (Err e) P z t h to from = sym (cond-false t (Some z) None (false_from_ne_true t (λ is. h (from is))))

positive-read : {E : Type 0} (bs : List ℕ) (r : Result ℤ E) → ParsesSigned w64 10 bs r → is_numeral bs ≡ true → result_ok r ≡ positive (digits_value 10 bs)
positive-read [] r h numeral = cc
positive-read (b ∷ bs) r h numeral =
    let n = digits_value 10 (b ∷ bs) in
    read-by r _ (pos n) (leb n 9223372036854775807) (parse_signed_digits own w64 (b ∷ bs) r h (numeral-digits (b ∷ bs) numeral)) (λ p. le-leb n 9223372036854775807 (omega (arith, p.1)))
    (λ e. let below = leb-true n 9223372036854775807 e in (omega arith, omega arith))

negative-read : {E : Type 0} (bs : List ℕ) (r : Result ℤ E) → ParsesSigned w64 10 bs r → is_minus bs ≡ true → result_ok r ≡ negative (digits_value 10 (drop 1 bs))
negative-read [] r h spelled = cc
negative-read (b ∷ []) r h spelled = absurd (true≢false (sym (and_parts (b == 45) false spelled).1))
negative-read (b ∷ c ∷ bs) r h spelled =
    let n = digits_value 10 (c ∷ bs) in
    let parts = and_parts (b == 45) (is_numeral (c ∷ bs)) spelled in
    read-by r _ (neg_ℤ (pos n)) (leb n 9223372036854775808) (parse_signed_minus own w64 (b ∷ c ∷ bs) r h (eqb-true b 45 parts.0)) (λ p. le-leb n 9223372036854775808 (omega (arith, p.2)))
    (λ e. let below = leb-true n 9223372036854775808 e in (numeral-digits (c ∷ bs) parts.1, omega arith, omega arith))

-- the number of a token, by its sort
pub int-read : {E : Type 0} (s : Sort) (bs : List ℕ) (r : Result ℤ E) → is_number s ≡ true → is_spelled s bs ≡ true → ParsesSigned w64 10 bs r → result_ok r ≡ int_of s bs
int-read sort.Digits bs r is spelled h = positive-read bs r h spelled
int-read sort.Minus bs r is spelled h = negative-read bs r h spelled
int-read s bs r is spelled h = cc

minus-ascii : (bs : List ℕ) → is_minus bs ≡ true → IsAscii bs
minus-ascii [] h = ascii-none
minus-ascii (b ∷ bs) h =
    let parts = and_parts (b == 45) (is_numeral bs) h in
    let minus = eqb-true b 45 parts.0 in
    ascii-more b bs (omega (arith, minus)) (ascii-digits bs (numeral-digits bs parts.1))

pub number-ascii : (s : Sort) (bs : List ℕ) → is_number s ≡ true → is_spelled s bs ≡ true → IsAscii bs
number-ascii sort.Digits bs is spelled = ascii-digits bs (numeral-digits bs spelled)
number-ascii sort.Minus bs is spelled = minus-ascii bs spelled
number-ascii s bs is spelled = cc

-- names
pub spelled-names : (s : Sort) (bs : List ℕ) → is_lettered s ≡ true → is_spelled s bs ≡ true → are_name_bytes bs ≡ true
spelled-names s bs is spelled = sym (ap (λ b. cond b (are_name_bytes bs) (number_spelled s bs)) is) ∙ spelled

pub names-spelled : (s : Sort) (bs : List ℕ) → is_lettered s ≡ true → are_name_bytes bs ≡ true → is_spelled s bs ≡ true
names-spelled s bs is names = ap (λ b. cond b (are_name_bytes bs) (number_spelled s bs)) is ∙ names
