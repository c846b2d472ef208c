-- What a byte begins, and the sign that a byte makes with a `=` behind it.
use Rattle.std.specs.Prelude.{ℕ, List, [], ◌∷◌, Bool, true, false, ◌||◌, ◌==◌, cond, Option, Some}
use Rattle.pb_language.specs.Rules.{is_letter, is_digit}
use Rattle.pb_language.specs.Tokens.{Sign, is_blank, is_quote, is_paired, sign_of, pair_of}
use Rattle.pb_language.specs.Tokens.{alone_of}
use Rattle.pb_syntax.specs.declared.lexer.Sort.{Sort}
use Rattle.pb_syntax.specs.declared.lexer.Sort.TheVariants as sort

abbrev pub begins_numeral : ℕ → Bool
begins_numeral b = is_digit b || (b == 45)

-- a byte that is no sign
abbrev pub begins_other : ℕ → Bool
begins_other b = (is_blank b || is_letter b) || (begins_numeral b || is_quote b)

-- `==`, `!=`, `<=` and `>=`
abbrev pub is_double : Sort → Bool
is_double sort.Equal = true
is_double sort.Unequal = true
is_double sort.AtMost = true
is_double sort.AtLeast = true
is_double s = false

abbrev pub starts_equal : List ℕ → Bool
starts_equal [] = false
starts_equal (b ∷ bs) = b == 61

-- the sign of a byte, with a `=` behind it or with none
abbrev pub sign_with : ℕ → Bool → Option Sign
sign_with b true = cond (is_paired b) (Some (pair_of b)) (sign_of b)
sign_with b false = cond (is_paired b) (alone_of b) (sign_of b)
