-- The tokens that a text has from a token of the code on.
use Rattle.std.specs.Prelude.{◌≡◌, ℕ, ◌+◌, ◌-◌, List, [], ◌∷◌, Bool, true, false, ◌==◌, cond}
use Rattle.std.specs.Prelude.{Option, Some, None, ℤ, pos, neg_ℤ, nat_le, ◌&&◌, drop, slice_range}
use Rattle.std.specs.Str.Parse.{digits_value}
use Rattle.pb_language.specs.Expression.{Name, equal, less, at_most, more, at_least}
use Rattle.pb_language.specs.Rules.{are_name_bytes}
use Rattle.pb_language.specs.Tokens as language
use Rattle.pb_language.specs.Tokens.{Tokens, finish, token, word, digits, minus, quoted, sign}
use Rattle.pb_language.specs.Tokens.{and_word, or_word, not_word, in_word, is_word, truth_word}
use Rattle.pb_language.specs.Tokens.{none_word, other_word, opening, closing, dot, compares}
use Rattle.pb_language.specs.Tokens.{differs, bar, opening_bracket, closing_bracket, comma}
use Rattle.pb_language.specs.Tokens.{escape_of, is_numeral, tokens_of}
use Rattle.pb_syntax.specs.declared.lexer.Sort.{Sort}
use Rattle.pb_syntax.specs.declared.lexer.Sort.TheVariants as sort
use Rattle.pb_syntax.specs.declared.lexer.Token.{Token}

-- an escape that is no such one stands for its second byte
abbrev pub letter_for : Option ℕ → ℕ → ℕ
letter_for None b = b
letter_for (Some c) b = c

-- what the bytes between two quotes mean
abbrev pub unescaped : List ℕ → List ℕ
unescaped [] = []
unescaped (b ∷ []) = cond (b == 92) [] (b ∷ [])
unescaped (b ∷ c ∷ bs) =
    cond (b == 92) (letter_for (escape_of c) c ∷ unescaped bs) (b ∷ unescaped (c ∷ bs))

-- what a text means that stands from the first place to before the second, with its quotes
abbrev pub quoted_letters : List ℕ → ℕ → ℕ → List ℕ
quoted_letters bs from to = unescaped (slice_range bs (from + 1) (to - 1))

-- a token of that sort, with its letters and with what it means as a text, and the tokens behind it
abbrev pub sort_tokens : Sort → Name → Name → Tokens → Tokens
sort_tokens sort.End n w ts = finish
sort_tokens sort.Name n w ts = token (language.name n) ts
sort_tokens sort.And n w ts = token (word and_word n) ts
sort_tokens sort.Or n w ts = token (word or_word n) ts
sort_tokens sort.Not n w ts = token (word not_word n) ts
sort_tokens sort.In n w ts = token (word in_word n) ts
sort_tokens sort.Is n w ts = token (word is_word n) ts
sort_tokens sort.True n w ts = token (word (truth_word true) n) ts
sort_tokens sort.False n w ts = token (word (truth_word false) n) ts
sort_tokens sort.None n w ts = token (word none_word n) ts
sort_tokens sort.Reserved n w ts = token (word other_word n) ts
sort_tokens sort.Digits n w ts = token (digits (digits_value 10 n)) ts
sort_tokens sort.Minus n w ts = token (minus (digits_value 10 (drop 1 n))) ts
sort_tokens sort.Text n w ts = token (quoted w) ts
sort_tokens sort.Open n w ts = token (sign opening) ts
sort_tokens sort.Close n w ts = token (sign closing) ts
sort_tokens sort.Dot n w ts = token (sign dot) ts
sort_tokens sort.Equal n w ts = token (sign (compares equal)) ts
sort_tokens sort.Unequal n w ts = token (sign differs) ts
sort_tokens sort.Less n w ts = token (sign (compares less)) ts
sort_tokens sort.AtMost n w ts = token (sign (compares at_most)) ts
sort_tokens sort.More n w ts = token (sign (compares more)) ts
sort_tokens sort.AtLeast n w ts = token (sign (compares at_least)) ts
sort_tokens sort.Pipe n w ts = token (sign bar) ts
sort_tokens sort.OpenBracket n w ts = token (sign opening_bracket) ts
sort_tokens sort.CloseBracket n w ts = token (sign closing_bracket) ts
sort_tokens sort.Comma n w ts = token (sign comma) ts

abbrev pub letters_at : List ℕ → Token → Name
letters_at bs t = slice_range bs t.start t.end

abbrev pub meaning_at : List ℕ → Token → Name
meaning_at bs t = quoted_letters bs t.start t.end

-- the tokens of a text from that one on
abbrev pub tokens_at : List ℕ → Token → Tokens
tokens_at bs t = sort_tokens t.sort (letters_at bs t) (meaning_at bs t) (tokens_of (drop t.end bs))

abbrev pub is_lettered : Sort → Bool
is_lettered sort.Name = true
is_lettered sort.And = true
is_lettered sort.Or = true
is_lettered sort.Not = true
is_lettered sort.In = true
is_lettered sort.Is = true
is_lettered sort.True = true
is_lettered sort.False = true
is_lettered sort.None = true
is_lettered sort.Reserved = true
is_lettered s = false

abbrev pub is_number : Sort → Bool
is_number sort.Digits = true
is_number sort.Minus = true
is_number s = false

-- the letters of a name or a word, and the digits of a number
abbrev pub is_minus : Name → Bool
is_minus [] = false
is_minus (b ∷ ds) = (b == 45) && is_numeral ds

abbrev pub number_spelled : Sort → Name → Bool
number_spelled sort.Digits n = is_numeral n
number_spelled sort.Minus n = is_minus n
number_spelled s n = true

abbrev pub is_spelled : Sort → Name → Bool
is_spelled s n = cond (is_lettered s) (are_name_bytes n) (number_spelled s n)

abbrev pub IsSpelled : List ℕ → Token → Type 0
IsSpelled bs t = is_spelled t.sort (letters_at bs t) ≡ true

-- the number that digits spell, where it has 64 bits
abbrev pub positive : ℕ → Option ℤ
positive n = cond (nat_le n 9223372036854775807) (Some (pos n)) None

abbrev pub negative : ℕ → Option ℤ
negative n = cond (nat_le n 9223372036854775808) (Some (neg_ℤ (pos n))) None

abbrev pub int_of : Sort → Name → Option ℤ
int_of sort.Minus n = negative (digits_value 10 (drop 1 n))
int_of s n = positive (digits_value 10 n)
