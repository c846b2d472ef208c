-- The trees of texts (Ansible's pages on templating, tests and filters), by cases on their tokens
-- from left to right.
use Rattle.std.specs.Prelude.{ℕ, zero, suc, pred, min, pos, neg_ℤ, List, [], ◌∷◌, Bool, false}
use Rattle.std.specs.Prelude.{◌&&◌, ◌||◌, ◌==◌, nat_le, cond, Option, Some, None, drop, length}
use Rattle.std.specs.Prelude.{codes, option_map}
use Rattle.std.specs.Str.{is_utf8, bytes_eq}
use Rattle.pb_semantics.specs.Data.{boolean, int, null, text}
use Rattle.pb_semantics.specs.Limits.{most_hosts, most_nesting, most_path_steps}
use Rattle.pb_language.specs.Expression.{Name, equal, is_failed, is_changed, is_skipped, Status}
use Rattle.pb_language.specs.Expression.{Term, named_host, this_host, item_host, group_member}
use Rattle.pb_language.specs.Expression.{Expression, literal, path, hostvars_alone, negation}
use Rattle.pb_language.specs.Expression.{conjunction, disjunction, comparison, membership, in_batch}
use Rattle.pb_language.specs.Expression.{defined, undefinable, path_status, value_status, path_or}
use Rattle.pb_language.specs.Expression.{value_or, length_of, joined_by, concatenation, list_of}
use Rattle.pb_language.specs.Expression.{Root, variable, other, member, Expressions}
use Rattle.pb_language.specs.Expression.{no_expressions, expression}
use Rattle.pb_language.specs.Tokens.{and_word, or_word, not_word, in_word, is_word, truth_word}
use Rattle.pb_language.specs.Tokens.{none_word, opening, closing, dot, compares, differs, bar}
use Rattle.pb_language.specs.Tokens.{opening_bracket, closing_bracket, comma, Token, name, word}
use Rattle.pb_language.specs.Tokens.{digits, minus, quoted, sign, Tokens, finish, unreadable, token}
use Rattle.pb_language.specs.Tokens.{is_quote, tokens_of}

-- what tokens begin with, and the tokens behind it
pub data Reading (T : Type 0) : Type 0 where
  reading : T → Tokens → Reading T

abbrev pub Reader : Type 0
Reader = Tokens → Option (Reading Expression)

-- how what stands one level deeper is read: in parentheses, behind a `not`, and behind a `[`
pub record Deeper : Type 0 where
  pub whole : Reader
  pub negated : Reader
  pub items : Tokens → Option (Reading Expressions)

-- something before tokens that can be read
abbrev pub before : {T : Type 0} → T → Tokens → Option (Reading T)
before e unreadable = None
before e finish = Some (reading e finish)
before e (token t ts) = Some (reading e (token t ts))

abbrev pub with_tree : {S T : Type 0} → (S → T) → Option (Reading S) → Option (Reading T)
with_tree f None = None
with_tree f (Some (reading e ts)) = Some (reading (f e) ts)

-- what was read, and how the tokens behind it go on
abbrev pub then_on : {S T : Type 0} → Option (Reading S) → (S → Tokens → Option (Reading T))
    → Option (Reading T)
then_on None f = None
then_on (Some (reading e ts)) f = f e ts

abbrev pub before_some : {T : Type 0} → Option T → Tokens → Option (Reading T)
before_some None ts = None
before_some (Some e) ts = before e ts

-- a step: "." letters, or "[" text "]"
pub data Next : Type 0 where
  no_step : Next
  broken_step : Next
  a_step : Name → Tokens → Next

abbrev pub letters_of : Token → Option Name
letters_of (name n) = Some n
letters_of (word w n) = Some n
letters_of t = None

abbrev pub valid : Name → Option Name
valid w = cond (is_utf8 w) (Some w) None

abbrev pub step_to : Option Name → Tokens → Next
step_to None ts = broken_step
step_to (Some n) ts = a_step n ts

abbrev pub dotted_step : Tokens → Next
dotted_step (token t ts) = step_to (letters_of t) ts
dotted_step ts = broken_step

abbrev pub bracketed_step : Tokens → Next
bracketed_step unreadable = broken_step
bracketed_step (token (quoted w) (token (sign closing_bracket) ts)) = step_to (valid w) ts
bracketed_step (token (quoted w) ts) = broken_step
bracketed_step ts = no_step

abbrev pub next_step : Tokens → Next
next_step unreadable = broken_step
next_step (token (sign dot) ts) = dotted_step ts
next_step (token (sign opening_bracket) ts) = bracketed_step ts
next_step ts = no_step

-- steps, so many at most
abbrev pub go_on : Next → Tokens → (Tokens → Option (Reading (List Name)))
    → Option (Reading (List Name))
go_on no_step ts steps = Some (reading [] ts)
go_on broken_step ts steps = None
go_on (a_step n us) ts steps = with_tree (λ ns. n ∷ ns) (steps us)

abbrev pub steps_of : ℕ → Tokens → Option (Reading (List Name))
steps_of zero ts = go_on (next_step ts) ts (λ us. None)
steps_of (suc n) ts = go_on (next_step ts) ts (steps_of n)

-- no other `[` stands behind them
abbrev pub unbracketed : Option (Reading (List Name)) → Option (Reading (List Name))
unbracketed (Some (reading ns (token (sign opening_bracket) ts))) = None
unbracketed r = r

-- "[" digits "]" behind the one step that names a group; a place past the most hosts is, as theirs
-- is, past the end of each group
abbrev pub place_of : ℕ → ℕ
place_of n = min n most_hosts

abbrev pub in_group : {T : Type 0} → (Name → ℕ → T) → List Name → Tokens → Option (Reading T)
in_group make (g ∷ []) (token (digits k) (token (sign closing_bracket) ts)) =
    before (make g (place_of k)) ts
in_group make ns ts = None

-- term := text | "inventory_hostname" | "item" | "groups" step "[" digits "]"
abbrev pub term_named : Name → Option Term
term_named n =
    cond (bytes_eq n (codes "inventory_hostname")) (Some this_host)
    (cond (bytes_eq n (codes "item")) (Some item_host) None)

abbrev pub group_term : Option (Reading (List Name)) → Option (Reading Term)
group_term (Some (reading ns (token (sign opening_bracket) ts))) =
    in_group (λ g k. group_member g k) ns ts
group_term r = None

abbrev pub name_term : Name → Tokens → Option (Reading Term)
name_term n ts =
    cond (bytes_eq n (codes "groups")) (group_term (steps_of most_path_steps ts))
    (before_some (term_named n) ts)

abbrev pub term_of : Tokens → Option (Reading Term)
term_of (token (quoted w) ts) = before_some (option_map (λ w. named_host w) (valid w)) ts
term_of (token (name n) ts) = name_term n ts
term_of ts = None

-- the host behind `hostvars`, which is a step: "." letters, or "[" term "]"
abbrev pub dotted_host : Tokens → Option (Reading Term)
dotted_host (token t ts) = before_some (option_map (λ n. named_host n) (letters_of t)) ts
dotted_host ts = None

abbrev pub bracketed_host : Option (Reading Term) → Option (Reading Term)
bracketed_host (Some (reading h (token (sign closing_bracket) ts))) = before h ts
bracketed_host r = None

-- a path of `hostvars`: a variable of that host, or none
abbrev pub host_path : Term → List Name → Expression
host_path h [] = hostvars_alone (Some h)
host_path h (n ∷ ns) = path (other h n) ns

abbrev pub host_steps : Term → Tokens → Option (Reading Expression)
host_steps h ts = with_tree (host_path h) (unbracketed (steps_of (pred most_path_steps) ts))

abbrev pub hostvars_of : Reader
hostvars_of (token (sign dot) ts) = then_on (dotted_host ts) host_steps
hostvars_of (token (sign opening_bracket) ts) = then_on (bracketed_host (term_of ts)) host_steps
hostvars_of ts = before (hostvars_alone None) ts

-- a path of `groups`: a host of a group by its place, or the record of lists
abbrev pub group_path : Option (Reading (List Name)) → Option (Reading Expression)
group_path (Some (reading ns (token (sign opening_bracket) ts))) =
    in_group (λ g k. path (member g k) []) ns ts
group_path r = with_tree (λ ns. path (variable (codes "groups")) ns) r

-- path := name steps | "hostvars" [host steps] | "groups" step "[" digits "]"
abbrev pub path_of : Name → Reader
path_of n ts =
    cond (bytes_eq n (codes "hostvars")) (hostvars_of ts)
    (cond (bytes_eq n (codes "groups")) (group_path (steps_of most_path_steps ts))
    (with_tree (λ ns. path (variable n) ns) (unbracketed (steps_of most_path_steps ts))))

-- operand := number | text | truth value | none | path | "(" or ")" | "[" [or ("," or)*] "]"
abbrev pub closed : Option (Reading Expression) → Option (Reading Expression)
closed (Some (reading e (token (sign closing) ts))) = before e ts
closed r = None

abbrev pub literal_of : Token → Option Expression
literal_of (digits n) = cond (nat_le n 9223372036854775807) (Some (literal (int (pos n)))) None
literal_of (minus n) =
    cond (nat_le n 9223372036854775808) (Some (literal (int (neg_ℤ (pos n))))) None
literal_of (word (truth_word b) n) = Some (literal (boolean b))
literal_of (word none_word n) = Some (literal null)
literal_of (quoted w) = option_map (λ w. literal (text w)) (valid w)
literal_of t = None

abbrev pub operand_at : Deeper → Reader
operand_at d finish = None
operand_at d unreadable = None
operand_at d (token (sign opening) ts) = closed (d.whole ts)
operand_at d (token (sign opening_bracket) ts) = with_tree (λ es. list_of es) (d.items ts)
operand_at d (token (name n) ts) = path_of n ts
operand_at d (token t ts) = before_some (literal_of t) ts

-- filter := "default" "(" or ")" | "length" | "join" ["(" or ")"]
abbrev pub default_of : Expression → Expression → Expression
default_of (path r ns) a = path_or r ns a
default_of (hostvars_alone h) a = value_or (hostvars_alone None) a
default_of e a = value_or e a

abbrev pub filter_named : Name → Expression → Option Expression
filter_named f e =
    cond (bytes_eq f (codes "length")) (Some (length_of e))
    (cond (bytes_eq f (codes "join")) (Some (joined_by e (literal (text [])))) None)

abbrev pub filter_with : Name → Expression → Expression → Option Expression
filter_with f e a =
    cond (bytes_eq f (codes "default")) (Some (default_of e a))
    (cond (bytes_eq f (codes "join")) (Some (joined_by e a)) None)

abbrev pub filter_of : Deeper → Expression → Reader
filter_of d e (token (name f) (token (sign opening) ts)) =
    then_on (closed (d.whole ts)) (λ a us. before_some (filter_with f e a) us)
filter_of d e (token (name f) ts) = before_some (filter_named f e) ts
filter_of d e ts = None

-- an operand, and filters behind it, each after a `|`; at most so many
abbrev pub filtered : Deeper → ℕ → Expression → Reader
filtered d (suc n) e (token (sign bar) ts) = then_on (filter_of d e ts) (filtered d n)
filtered d n e ts = Some (reading e ts)

abbrev pub count_of : Tokens → ℕ
count_of finish = 0
count_of unreadable = 0
count_of (token t ts) = suc (count_of ts)

abbrev pub operand_of : Deeper → Reader
operand_of d ts = then_on (operand_at d ts) (filtered d (count_of ts))

-- test := "defined" | "undefined" | "failed" | "succeeded" | "changed" | "skipped"
abbrev pub defined_of : Expression → Expression
defined_of (path r ns) = defined r ns
defined_of (hostvars_alone h) = undefinable (hostvars_alone None)
defined_of e = undefinable e

abbrev pub status_of : Status → Expression → Expression
status_of s (path r ns) = path_status s r ns
status_of s e = value_status s e

abbrev pub test_named : Name → Expression → Option Expression
test_named t e =
    cond (bytes_eq t (codes "defined")) (Some (defined_of e))
    (cond (bytes_eq t (codes "undefined")) (Some (negation (defined_of e)))
    (cond (bytes_eq t (codes "failed")) (Some (status_of is_failed e))
    (cond (bytes_eq t (codes "succeeded")) (Some (negation (status_of is_failed e)))
    (cond (bytes_eq t (codes "changed")) (Some (status_of is_changed e))
    (cond (bytes_eq t (codes "skipped")) (Some (status_of is_skipped e)) None)))))

abbrev pub test_of : Expression → Reader
test_of e (token (name t) ts) = before_some (test_named t e) ts
test_of e ts = None

abbrev pub tested : Expression → Reader
tested e (token (word not_word n) ts) = with_tree (λ e. negation e) (test_of e ts)
tested e ts = test_of e ts

-- `a in b`: of a host in the batch, where `a` names one and `b` is the batch
abbrev pub path_host : Root → List Name → Option Term
path_host (variable n) [] = term_named n
path_host (member g k) [] = Some (group_member g k)
path_host r ns = None

abbrev pub host_of : Expression → Option Term
host_of (literal (text w)) = Some (named_host w)
host_of (path r ns) = path_host r ns
host_of e = None

abbrev pub is_batch : Expression → Bool
is_batch (path (variable n) []) = bytes_eq n (codes "ansible_play_batch")
is_batch e = false

abbrev pub batch_or : Option Term → Expression → Expression → Expression
batch_or None a b = membership a b
batch_or (Some h) a b = cond (is_batch b) (in_batch h) (membership a b)

abbrev pub contained : Expression → Expression → Expression
contained a b = batch_or (host_of a) a b

-- relation := operand [compared operand | "in" operand | "not" "in" operand | "is" ["not"] test]
abbrev pub related : Reader → Expression → Reader
related operand a (token (sign (compares c)) ts) = with_tree (λ b. comparison c a b) (operand ts)
related operand a (token (sign differs) ts) =
    with_tree (λ b. negation (comparison equal a b)) (operand ts)
related operand a (token (word in_word n) ts) = with_tree (λ b. contained a b) (operand ts)
related operand a (token (word not_word n) (token (word in_word m) ts)) =
    with_tree (λ b. negation (contained a b)) (operand ts)
related operand a (token (word not_word n) ts) = None
related operand a (token (word is_word n) ts) = tested a ts
related operand a ts = Some (reading a ts)

abbrev pub relation_of : Deeper → Reader
relation_of d ts = then_on (operand_of d ts) (related (operand_of d))

-- not := "not" not | relation
abbrev pub negation_of : Deeper → Reader
negation_of d (token (word not_word n) ts) = with_tree (λ e. negation e) (d.negated ts)
negation_of d ts = relation_of d ts

-- what stands between operands
pub data Link : Type 0 where
  and_link : Link
  or_link : Link
  comma_link : Link

abbrev pub behind_link : Link → Tokens → Option Tokens
behind_link and_link (token (word and_word n) ts) = Some ts
behind_link or_link (token (word or_word n) ts) = Some ts
behind_link comma_link (token (sign comma) ts) = Some ts
behind_link l ts = None

-- operands with that between them, at most so many
abbrev pub chain_on : Expression → Tokens → Option Tokens → (Tokens → Option (Reading Expressions))
    → Option (Reading Expressions)
chain_on e ts None more = Some (reading (expression e no_expressions) ts)
chain_on e ts (Some us) more = with_tree (λ es. expression e es) (more us)

abbrev pub chain_of : Link → Reader → ℕ → Tokens → Option (Reading Expressions)
chain_of l operand zero ts = None
chain_of l operand (suc n) ts =
    then_on (operand ts) (λ e us. chain_on e us (behind_link l us) (chain_of l operand n))

-- one operand is itself
abbrev pub joined : (Expressions → Expression) → Expressions → Expression
joined make (expression e no_expressions) = e
joined make es = make es

-- and := not ("and" not)*, or := and ("or" and)*
abbrev pub conjunction_of : Deeper → Reader
conjunction_of d ts =
    with_tree (joined (λ es. conjunction es)) (chain_of and_link (negation_of d) (count_of ts) ts)

abbrev pub disjunction_of : Deeper → Reader
disjunction_of d ts =
    with_tree (joined (λ es. disjunction es)) (chain_of or_link (conjunction_of d) (count_of ts) ts)

-- the items of a list, up to its `]`
abbrev pub closed_items : Option (Reading Expressions) → Option (Reading Expressions)
closed_items (Some (reading es (token (sign closing_bracket) ts))) = before es ts
closed_items r = None

abbrev pub items_of : Reader → Tokens → Option (Reading Expressions)
items_of whole (token (sign closing_bracket) ts) = before no_expressions ts
items_of whole ts = closed_items (chain_of comma_link whole (count_of ts) ts)

-- parentheses, lists, `not` and what a filter is given nest at most so deep
abbrev pub deeper : ℕ → Deeper
deeper zero = record { whole = λ ts. None; negated = λ ts. None; items = λ ts. None }
deeper (suc d) = record {
  whole = disjunction_of (deeper d);
  negated = negation_of (deeper d);
  items = items_of (disjunction_of (deeper d));
}

abbrev pub all_of : Option (Reading Expression) → Option Expression
all_of (Some (reading e finish)) = Some e
all_of r = None

-- the tree of an expression's text, if it has one
abbrev pub expression_of : List ℕ → Option Expression
expression_of bs = all_of (disjunction_of (deeper most_nesting) (tokens_of bs))

-- `{{`, `{%` or `{#`
abbrev pub is_mark : ℕ → Bool
is_mark b = (b == 123) || ((b == 37) || (b == 35))

abbrev pub has_mark : List ℕ → Bool
has_mark [] = false
has_mark (b ∷ bs) = is_mark b

abbrev pub opens_here : ℕ → List ℕ → Bool
opens_here b bs = (b == 123) && has_mark bs

-- what stands before a place, and what stands behind it
pub data Cut : Type 0 where
  cut : List ℕ → List ℕ → Cut

abbrev pub byte_before : ℕ → Cut → Cut
byte_before b (cut bs rest) = cut (b ∷ bs) rest

-- the first such mark
abbrev pub opening_in : List ℕ → Cut
opening_in [] = cut [] []
opening_in (b ∷ bs) = cond (opens_here b bs) (cut [] (b ∷ bs)) (byte_before b (opening_in bs))

abbrev pub ends_here : ℕ → List ℕ → Bool
ends_here b [] = false
ends_here b (c ∷ bs) = (b == 125) && (c == 125)

-- the first `}}` that isn't inside a quoted text; inside a text in that quote, or in none
abbrev pub ending_in : Option ℕ → List ℕ → Option Cut
ending_in q [] = None
ending_in None (b ∷ bs) = cond (ends_here b bs) (Some (cut [] (drop 1 bs)))
    (option_map (byte_before b) (ending_in (cond (is_quote b) (Some b) None) bs))
ending_in (Some q) (b ∷ []) = None
ending_in (Some q) (b ∷ c ∷ bs) =
    cond (b == 92) (option_map (λ r. byte_before b (byte_before c r)) (ending_in (Some q) bs))
    (option_map (byte_before b) (ending_in (cond (b == q) None (Some q)) (c ∷ bs)))

-- the parts of a template: texts that aren't empty, and expressions; at most so many of these
abbrev pub with_text : List ℕ → Expressions → Expressions
with_text [] es = es
with_text (b ∷ bs) es = expression (literal (text (b ∷ bs))) es

abbrev pub with_part : Option Expression → Option Expressions → Option Expressions
with_part (Some e) (Some es) = Some (expression e es)
with_part e es = None

abbrev pub braced_parts : (List ℕ → Option Expressions) → Option Cut → Option Expressions
braced_parts parts None = None
braced_parts parts (Some (cut bs rest)) = with_part (expression_of bs) (parts rest)

abbrev pub marked_parts : (List ℕ → Option Expressions) → List ℕ → Option Expressions
marked_parts parts [] = Some no_expressions
marked_parts parts (b ∷ []) = None
marked_parts parts (b ∷ c ∷ bs) = cond (c == 123) (braced_parts parts (ending_in None bs)) None

abbrev pub cut_parts : (List ℕ → Option Expressions) → Cut → Option Expressions
cut_parts parts (cut bs rest) = option_map (with_text bs) (marked_parts parts rest)

abbrev pub parts_of : ℕ → List ℕ → Option Expressions
parts_of zero bs = None
parts_of (suc n) bs = cut_parts (parts_of n) (opening_in bs)

-- without parts it is the empty text, and one part is itself
abbrev pub template_tree : Expressions → Expression
template_tree no_expressions = literal (text [])
template_tree es = joined (λ es. concatenation es) es

-- the tree of a text that may have templates
abbrev pub template_of : List ℕ → Option Expression
template_of bs = option_map template_tree (parts_of (suc (length bs)) bs)
