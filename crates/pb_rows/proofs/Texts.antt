-- The trees of some texts, computed.
use Rattle.std.specs.Prelude.{◌≡◌, refl, pos, negsuc, [], ◌∷◌, ◌++◌, List, ℕ, true, Some, None, codes, suc, zero}
use Rattle.pb_semantics.specs.Data.{boolean, int, text}
use Rattle.pb_language.specs.Expression.{equal, literal, path, negation, conjunction, disjunction, comparison, membership, concatenation, member, other, named_host, group_member, hostvars_alone, undefinable, in_batch, variable, Expression, no_expressions, expression}
use Rattle.pb_language.specs.Tokens.{finish, token, quoted, sign, compares, tokens_of}
use Rattle.pb_language.specs.Grammar.{cut, ending_in, expression_of, template_of}

abbrev one : Expression
one = literal (int (pos 1))

abbrev two : Expression
two = literal (int (pos 2))

-- `or` binds least, then `and`, then `not`, then what compares; parentheses leave no trace
binds : expression_of (codes "not 1 == 2 and 1 or (2 != 1)") ≡ Some (disjunction (expression (conjunction (expression (negation (comparison equal one two)) (expression one no_expressions))) (expression (negation (comparison equal two one)) no_expressions)))
binds = refl

not_in : expression_of (codes "a.in not in b_.c1") ≡ Some (negation (membership (path (variable (codes "a")) (codes "in" ∷ [])) (path (variable (codes "b_")) (codes "c1" ∷ []))))
not_in = refl

chains : expression_of (codes "1 or 2 or True") ≡ Some (disjunction (expression one (expression two (expression (literal (boolean true)) no_expressions))))
chains = refl

-- `'a\'b' == "\n"`
escapes : tokens_of ((39 ∷ 97 ∷ 92 ∷ 39 ∷ 98 ∷ 39 ∷ []) ++ (codes " == " ++ (34 ∷ 92 ∷ 110 ∷ 34 ∷ []))) ≡ token (quoted (97 ∷ 39 ∷ 98 ∷ [])) (token (sign (compares equal)) (token (quoted (10 ∷ [])) finish))
escapes = refl

-- `'\a'`
no_escape : expression_of (39 ∷ 92 ∷ 97 ∷ 39 ∷ []) ≡ None
no_escape = refl

least : expression_of (codes "-9223372036854775808") ≡ Some (literal (int (negsuc 9223372036854775807)))
least = refl

past_the_greatest : expression_of (codes "9223372036854775808") ≡ None
past_the_greatest = refl

minus_zero : expression_of (codes "-0") ≡ Some (literal (int (pos 0)))
minus_zero = refl

leading_zero : expression_of (codes "01") ≡ None
leading_zero = refl

apart_from_its_sign : expression_of (codes "- 1") ≡ None
apart_from_its_sign = refl

ends_too_soon : expression_of (codes "a ==") ≡ None
ends_too_soon = refl

no_such_sign : expression_of (codes "a + b") ≡ None
no_such_sign = refl

a_word : expression_of (codes "if") ≡ None
a_word = refl

nothing_there : expression_of (codes " ") ≡ None
nothing_there = refl

chained : expression_of (codes "1 == 1 == 1") ≡ None
chained = refl

abbrev opened : ℕ → List ℕ → List ℕ
opened zero bs = bs
opened (suc n) bs = (40 ∷ []) ++ (opened n bs ++ (41 ∷ []))

deep : expression_of (opened 32 (codes "1")) ≡ Some one
deep = refl

too_deep : expression_of (opened 33 (codes "1")) ≡ None
too_deep = refl

sixteen_steps : expression_of (codes "a.b.b.b.b.b.b.b.b.b.b.b.b.b.b.b.b.b") ≡ None
sixteen_steps = refl

plain : template_of (codes "a { b } }}") ≡ Some (literal (text (codes "a { b } }}")))
plain = refl

whole : template_of (codes "{{ 1 }}") ≡ Some one
whole = refl

-- `'}}'}}`
quoted_end : ending_in None ((39 ∷ []) ++ (codes "}}" ++ ((39 ∷ []) ++ codes "}}"))) ≡ Some (cut ((39 ∷ []) ++ (codes "}}" ++ (39 ∷ []))) [])
quoted_end = refl

statement : template_of (codes "{% 1 %}") ≡ None
statement = refl

no_end : template_of (codes "{{ 1 }") ≡ None
no_end = refl

in_a_text : template_of (codes "n={{ 1 }}") ≡ Some (concatenation (expression (literal (text (codes "n="))) (expression one no_expressions)))
in_a_text = refl

nothing_but_marks : template_of (codes "{{1}}{{2}}") ≡ Some (concatenation (expression one (expression two no_expressions)))
nothing_but_marks = refl

empty : template_of [] ≡ Some (literal (text []))
empty = refl

comment : template_of (codes "n {# 1 #}") ≡ None
comment = refl

abbrev bracketed : ℕ → List ℕ
bracketed zero = []
bracketed (suc n) = (91 ∷ []) ++ (bracketed n ++ (93 ∷ []))

-- an empty list is a level too
too_many_brackets : expression_of (bracketed 33) ≡ None
too_many_brackets = refl

-- a place past every group's end
far_place : expression_of (codes "groups.g[99999999999999999999]") ≡ Some (path (member (codes "g") 1024) [])
far_place = refl

signed_place : expression_of (codes "groups.g[-1]") ≡ None
signed_place = refl

place_of_no_group : expression_of (codes "g.g[1]") ≡ None
place_of_no_group = refl

host_of_a_group : expression_of (codes "hostvars[groups.g[0]].x in ansible_play_batch") ≡ Some (membership (path (other (group_member (codes "g") 0) (codes "x")) []) (path (variable (codes "ansible_play_batch")) []))
host_of_a_group = refl

batch : expression_of (codes "(groups.g[0]) not in (ansible_play_batch)") ≡ Some (negation (in_batch (group_member (codes "g") 0)))
batch = refl

no_variable : expression_of (codes "hostvars.h is defined") ≡ Some (undefinable (hostvars_alone None))
no_variable = refl

-- `hostvars.h` is a step, and fifteen more may follow
fifteen_more : expression_of (codes "hostvars.h.x.b.b.b.b.b.b.b.b.b.b.b.b.b.b") ≡ Some (path (other (named_host (codes "h")) (codes "x")) (codes "b" ∷ codes "b" ∷ codes "b" ∷ codes "b" ∷ codes "b" ∷ codes "b" ∷ codes "b" ∷ codes "b" ∷ codes "b" ∷ codes "b" ∷ codes "b" ∷ codes "b" ∷ codes "b" ∷ codes "b" ∷ []))
fifteen_more = refl

sixteen_more : expression_of (codes "hostvars.h.x.b.b.b.b.b.b.b.b.b.b.b.b.b.b.b") ≡ None
sixteen_more = refl
