-- The grammar of expressions as productions: which lists of tokens have which trees, in no order of
-- reading; and the law that a text's tree is the one that they derive.
use Rattle.std.specs.Prelude.{◌≡◌, ◌≤◌, ℕ, zero, suc, List, [], ◌∷◌, ◌++◌, true, false, Option}
use Rattle.std.specs.Prelude.{Some}
use Rattle.std.specs.Prelude.{None, length, codes}
use Rattle.std.specs.Str.{is_utf8, bytes_eq}
use Rattle.pb_semantics.specs.Limits.{most_nesting, most_path_steps}
use Rattle.pb_language.specs.Expression.{Name, Comparison, equal, Term, named_host, group_member}
use Rattle.pb_language.specs.Expression.{Expression, path, hostvars_alone, negation, conjunction}
use Rattle.pb_language.specs.Expression.{disjunction, comparison, list_of, variable, member}
use Rattle.pb_language.specs.Expression.{Expressions, no_expressions, expression}
use Rattle.pb_language.specs.Grammar.{expression_of, place_of, term_named, host_path, literal_of}
use Rattle.pb_language.specs.Grammar.{filter_named, filter_with, test_named, contained, Link}
use Rattle.pb_language.specs.Grammar.{and_link, or_link, comma_link}
use Rattle.pb_language.specs.Tokens.{Word, and_word, or_word, not_word, in_word, is_word, opening}
use Rattle.pb_language.specs.Tokens.{closing, dot, compares, differs, bar, opening_bracket}
use Rattle.pb_language.specs.Tokens.{closing_bracket, comma, Token, name, word, digits, quoted}
use Rattle.pb_language.specs.Tokens.{sign, Tokens, finish, unreadable, token, tokens_of}

-- these tokens have that tree
abbrev pub Derivation : Type 1
Derivation = List Token → Expression → Type 0

-- what stands one level deeper: in parentheses, behind a `not`, and between brackets
pub record Nested : Type 1 where
  pub whole : Derivation
  pub negated : Derivation
  pub items : List Token → Expressions → Type 0

-- step := "." letters | "[" text "]"
pub data Letters : Token → Name → Type 0 where
  letters_of_name : {n : Name} → Letters (name n) n
  letters_of_word : {w : Word} {n : Name} → Letters (word w n) n

pub data Steps : List Token → List Name → Type 0 where
  no_steps : Steps [] []
  dotted : {t : Token} {n : Name} {ts : List Token} {ns : List Name} → Letters t n → Steps ts ns
      → Steps (sign dot ∷ t ∷ ts) (n ∷ ns)
  bracketed : {w : Name} {ts : List Token} {ns : List Name} → is_utf8 w ≡ true → Steps ts ns
      → Steps (sign opening_bracket ∷ quoted w ∷ sign closing_bracket ∷ ts) (w ∷ ns)

-- "[" digits "]"
abbrev pub place : ℕ → List Token
place k = sign opening_bracket ∷ digits k ∷ sign closing_bracket ∷ []

-- term := text | "inventory_hostname" | "item" | "groups" step "[" digits "]"
pub data HostTerm : List Token → Term → Type 0 where
  a_host_name : {w : Name} → is_utf8 w ≡ true → HostTerm (quoted w ∷ []) (named_host w)
  a_named_term : {n : Name} {h : Term} → term_named n ≡ Some h → HostTerm (name n ∷ []) h
  a_group_term : {ts : List Token} {g : Name} → (k : ℕ) → Steps ts (g ∷ [])
      → HostTerm (name (codes "groups") ∷ ts ++ place k) (group_member g (place_of k))

-- the host that stands behind `hostvars`: "." letters, or "[" term "]"
pub data HostStep : List Token → Term → Type 0 where
  a_dotted_host : {t : Token} {n : Name} → Letters t n
      → HostStep (sign dot ∷ t ∷ []) (named_host n)
  a_bracketed_host : {ts : List Token} {h : Term} → HostTerm ts h
      → HostStep (sign opening_bracket ∷ ts ++ sign closing_bracket ∷ []) h

-- path := name steps | "hostvars" [host steps] | "groups" step "[" digits "]", 16 steps at most
pub data Path : List Token → Expression → Type 0 where
  own_path : {n : Name} {ts : List Token} {ns : List Name} → bytes_eq n (codes "hostvars") ≡ false
      → Steps ts ns → length ns ≤ most_path_steps → Path (name n ∷ ts) (path (variable n) ns)
  group_place : {ts : List Token} {g : Name} → (k : ℕ) → Steps ts (g ∷ [])
      → Path (name (codes "groups") ∷ ts ++ place k) (path (member g (place_of k)) [])
  no_host : Path (name (codes "hostvars") ∷ []) (hostvars_alone None)
  hosts_path : {ts us : List Token} {h : Term} {ns : List Name} → HostStep ts h → Steps us ns
      → suc (length ns) ≤ most_path_steps
      → Path (name (codes "hostvars") ∷ ts ++ us) (host_path h ns)

-- operand := number | text | truth value | none | path | "(" or ")" | "[" items "]"
pub data Operand (d : Nested) : List Token → Expression → Type 0 where
  a_literal : {t : Token} {e : Expression} → literal_of t ≡ Some e → Operand d (t ∷ []) e
  a_path : {ts : List Token} {e : Expression} → Path ts e → Operand d ts e
  enclosed : {ts : List Token} {e : Expression} → d.whole ts e
      → Operand d (sign opening ∷ ts ++ sign closing ∷ []) e
  a_list : {ts : List Token} {es : Expressions} → d.items ts es
      → Operand d (sign opening_bracket ∷ ts ++ sign closing_bracket ∷ []) (list_of es)

-- filters := ("|" name ["(" or ")"])*, behind an expression
pub data Filters (d : Nested) : Expression → List Token → Expression → Type 0 where
  no_filter : {e : Expression} → Filters d e [] e
  filter : {f : Name} {ts : List Token} {e b c : Expression} → filter_named f e ≡ Some b
      → Filters d b ts c → Filters d e (sign bar ∷ name f ∷ ts) c
  filter_given : {f : Name} {ts us : List Token} {e a b c : Expression} → d.whole ts a
      → filter_with f e a ≡ Some b → Filters d b us c
      → Filters d e (sign bar ∷ name f ∷ sign opening ∷ ts ++ sign closing ∷ us) c

pub data Filtered (d : Nested) : List Token → Expression → Type 0 where
  an_operand : {ts us : List Token} {a b : Expression} → Operand d ts a → Filters d a us b
      → Filtered d (ts ++ us) b

-- relation := operand [compared operand | ["not"] "in" operand | "is" ["not"] test]
pub data Relation (d : Nested) : List Token → Expression → Type 0 where
  one_operand : {ts : List Token} {a : Expression} → Filtered d ts a → Relation d ts a
  are_compared : (c : Comparison) {ts us : List Token} {a b : Expression} → Filtered d ts a
      → Filtered d us b → Relation d (ts ++ sign (compares c) ∷ us) (comparison c a b)
  are_different : {ts us : List Token} {a b : Expression} → Filtered d ts a → Filtered d us b
      → Relation d (ts ++ sign differs ∷ us) (negation (comparison equal a b))
  is_in : (n : Name) {ts us : List Token} {a b : Expression} → Filtered d ts a → Filtered d us b
      → Relation d (ts ++ word in_word n ∷ us) (contained a b)
  is_not_in : (n m : Name) {ts us : List Token} {a b : Expression} → Filtered d ts a
      → Filtered d us b
      → Relation d (ts ++ word not_word n ∷ word in_word m ∷ us) (negation (contained a b))
  passes : (n t : Name) {ts : List Token} {a e : Expression} → Filtered d ts a
      → test_named t a ≡ Some e → Relation d (ts ++ word is_word n ∷ name t ∷ []) e
  fails : (n m t : Name) {ts : List Token} {a e : Expression} → Filtered d ts a
      → test_named t a ≡ Some e
      → Relation d (ts ++ word is_word n ∷ word not_word m ∷ name t ∷ []) (negation e)

-- not := "not" not | relation
pub data Negation (d : Nested) : List Token → Expression → Type 0 where
  a_relation : {ts : List Token} {e : Expression} → Relation d ts e → Negation d ts e
  a_negation : {n : Name} {ts : List Token} {e : Expression} → d.negated ts e
      → Negation d (word not_word n ∷ ts) (negation e)

-- what stands between operands
pub data Links : Link → Token → Type 0 where
  an_and : {n : Name} → Links and_link (word and_word n)
  an_or : {n : Name} → Links or_link (word or_word n)
  a_comma : Links comma_link (sign comma)

-- operand (link operand)*
pub data Chain (l : Link) (operand : Derivation) : List Token → Expressions → Type 0 where
  last : {ts : List Token} {e : Expression} → operand ts e
      → Chain l operand ts (expression e no_expressions)
  more : {t : Token} {ts us : List Token} {e : Expression} {es : Expressions} → Links l t
      → operand ts e → Chain l operand us es → Chain l operand (ts ++ t ∷ us) (expression e es)

-- one operand is itself, and more of them are one tree
pub data Joined (l : Link) (make : Expressions → Expression) (operand : Derivation) : List Token
    → Expression → Type 0 where
  alone : {ts : List Token} {e : Expression} → operand ts e → Joined l make operand ts e
  several : {t : Token} {ts us : List Token} {e : Expression} {es : Expressions} → Links l t
      → operand ts e → Chain l operand us es
      → Joined l make operand (ts ++ t ∷ us) (make (expression e es))

-- and := not ("and" not)*, or := and ("or" and)*
abbrev pub Conjunction : Nested → Derivation
Conjunction d = Joined and_link (λ es. conjunction es) (Negation d)

abbrev pub Disjunction : Nested → Derivation
Disjunction d = Joined or_link (λ es. disjunction es) (Conjunction d)

-- items := [or ("," or)*]
pub data Items (whole : Derivation) : List Token → Expressions → Type 0 where
  no_items : Items whole [] no_expressions
  some_items : {ts : List Token} {es : Expressions} → Chain comma_link whole ts es
      → Items whole ts es

-- parentheses, lists, `not` and what a filter is given nest at most so deep
abbrev pub nested : ℕ → Nested
nested zero = record { whole = λ ts e. ⊥; negated = λ ts e. ⊥; items = λ ts es. ⊥ }
nested (suc d) = record {
  whole = Disjunction (nested d);
  negated = Negation (nested d);
  items = Items (Disjunction (nested d));
}

abbrev pub Derives : ℕ → Derivation
Derives d = Disjunction (nested d)

-- the tokens of a text that can be read to its end
abbrev pub with_token : Token → Option (List Token) → Option (List Token)
with_token t None = None
with_token t (Some ts) = Some (t ∷ ts)

abbrev pub listed : Tokens → Option (List Token)
listed finish = Some []
listed unreadable = None
listed (token t ts) = with_token t (listed ts)

-- a text's tree is derived
abbrev pub TreesAreDerived : Type 0
TreesAreDerived = (bs : List ℕ) (e : Expression) → expression_of bs ≡ Some e
    → (ts : List Token) × (listed (tokens_of bs) ≡ Some ts) × Derives most_nesting ts e

-- and a tree that is derived is the text's
abbrev pub DerivedAreTrees : Type 0
DerivedAreTrees = (bs : List ℕ) (e : Expression) (ts : List Token) → listed (tokens_of bs) ≡ Some ts
    → Derives most_nesting ts e → expression_of bs ≡ Some e
