-- The parts of a text that its readers ask for one by one: its first literal, what relates two
-- operands or stands between them, its filters and tests, and where its braces stand.
use Rattle.std.specs.Prelude.{ℕ, List, [], ◌∷◌, Option, None, codes, option_map}
use Rattle.pb_language.specs.Expression.{Expression, Expressions, Name, negation, comparison}
use Rattle.pb_language.specs.Expression.{equal, less, at_most, more, at_least}
use Rattle.pb_language.specs.Expression.{no_expressions, expression}
use Rattle.pb_language.specs.Grammar as grammar
use Rattle.pb_language.specs.Grammar.{Cut, Deeper, Reader, Reading, byte_before, contained}
use Rattle.pb_language.specs.Grammar.{in_group}
use Rattle.pb_language.specs.Grammar.{literal_of, negation_of, conjunction_of, disjunction_of}
use Rattle.pb_language.specs.Grammar.{before_some, letters_of}
use Rattle.pb_language.specs.Tokens.{Tokens, token}
use Rattle.pb_syntax.specs.declared.filter.Filter.{Filter}
use Rattle.pb_syntax.specs.declared.filter.Filter.TheVariants as filters
use Rattle.pb_syntax.specs.declared.test.Test.{Test}
use Rattle.pb_syntax.specs.declared.test.Test.TheVariants as tests
use Rattle.pb_syntax.specs.declared.parse.Link.{Link}
use Rattle.pb_syntax.specs.declared.parse.Link.TheVariants as links
use Rattle.pb_syntax.specs.declared.lexer.Sort.{Sort}
use Rattle.pb_syntax.specs.declared.lexer.Sort.TheVariants as sort

abbrev pub first_literal : Tokens → Option Expression
first_literal (token t ts) = literal_of t
first_literal ts = None

-- `not in` for `not`, and `in` for any sort that relates nothing
abbrev pub related_by : Sort → Expression → Expression → Expression
related_by sort.Equal a b = comparison equal a b
related_by sort.Unequal a b = negation (comparison equal a b)
related_by sort.Less a b = comparison less a b
related_by sort.AtMost a b = comparison at_most a b
related_by sort.More a b = comparison more a b
related_by sort.AtLeast a b = comparison at_least a b
related_by sort.Not a b = negation (contained a b)
related_by s a b = contained a b

-- what stands between operands: the language's word for it, its sort, and how the operands are read
abbrev pub link_view : Link → grammar.Link
link_view links.And = grammar.and_link
link_view links.Or = grammar.or_link
link_view links.Comma = grammar.comma_link

abbrev pub link_sort : Link → Sort
link_sort links.And = sort.And
link_sort links.Or = sort.Or
link_sort links.Comma = sort.Comma

abbrev pub linked_of : Link → Deeper → Reader
linked_of links.And d = negation_of d
linked_of links.Or d = conjunction_of d
linked_of links.Comma d = disjunction_of d

abbrev pub filter_name : Filter → Name
filter_name filters.Default = codes "default"
filter_name filters.Length = codes "length"
filter_name filters.Join = codes "join"

abbrev pub test_name : Test → Name
test_name tests.Defined = codes "defined"
test_name tests.Undefined = codes "undefined"
test_name tests.Failed = codes "failed"
test_name tests.Succeeded = codes "succeeded"
test_name tests.Changed = codes "changed"
test_name tests.Skipped = codes "skipped"

-- the name that the tokens begin with
abbrev pub name_behind : Tokens → Option (Reading Name)
name_behind (token t ts) = before_some (letters_of t) ts
name_behind ts = None

-- a group and a place there
abbrev pub member_of : List Name → Tokens → Option (Reading (Name × ℕ))
member_of ns ts = in_group (λ g k. (g, k)) ns ts

-- these bytes before the place of a cut
abbrev pub bytes_before : List ℕ → Cut → Cut
bytes_before [] c = c
bytes_before (b ∷ bs) c = byte_before b (bytes_before bs c)

abbrev pub with_byte : ℕ → Option Cut → Option Cut
with_byte b c = option_map (byte_before b) c

abbrev pub with_bytes : List ℕ → Option Cut → Option Cut
with_bytes [] c = c
with_bytes (b ∷ bs) c = with_byte b (with_bytes bs c)

-- the parts that are read, before the others
abbrev pub parts_before : Expressions → Option Expressions → Option Expressions
parts_before no_expressions r = r
parts_before (expression e es) r = option_map (λ es. expression e es) (parts_before es r)
