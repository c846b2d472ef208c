-- The value of an expression in a world, where it has one (Ansible's pages on templating, tests,
-- filters and conditionals).
use Rattle.std.specs.Prelude.{ℕ, ℤ, suc, pos, List, [], ◌∷◌, ◌++◌, Bool, true, false, not, ◌&&◌}
use Rattle.std.specs.Prelude.{◌||◌, cond, Option, Some, None, is_some, nat_le, nat_lt, int_le}
use Rattle.std.specs.Prelude.{int_lt, codes}
use Rattle.pb_semantics.specs.Data.{Data, Items, Fields, boolean, int, text, list, rec, opaque}
use Rattle.pb_semantics.specs.Data.{no_items, item, no_fields, field, field_value, count_of}
use Rattle.pb_semantics.specs.Equal.{data_eq, is_item, is_part}
use Rattle.pb_semantics.specs.Keeps.{is_among, flag_is}
use Rattle.pb_semantics.specs.Render.{is_plain, rendered}
use Rattle.pb_language.specs.Expression.{Name, Comparison, equal, less, at_most, more, at_least}
use Rattle.pb_language.specs.Expression.{Status, is_failed, is_changed, is_skipped, Term}
use Rattle.pb_language.specs.Expression.{named_host, this_host, item_host, group_member, Expression}
use Rattle.pb_language.specs.Expression.{literal, path, hostvars_alone, negation, conjunction}
use Rattle.pb_language.specs.Expression.{disjunction, comparison, membership, in_batch, defined}
use Rattle.pb_language.specs.Expression.{undefinable, path_status, value_status, path_or, value_or}
use Rattle.pb_language.specs.Expression.{length_of, joined_by, concatenation, list_of, record_of}
use Rattle.pb_language.specs.Expression.{Root, variable, alias, other, member, Expressions}
use Rattle.pb_language.specs.Expression.{no_expressions, expression, Parts, no_parts, part}
use Rattle.pb_language.specs.World.{World, variables_of, member_of}

-- why a step can't be made
pub data Stuck : Type 0 where
  undefined : Stuck
  no_field : Stuck
  wrong_sort : Stuck
  no_handler : Stuck

pub data Outcome : Type 0 where
  value : Data → Outcome
  stuck : Stuck → Outcome

-- what stands at a name: a value, nothing, or a value of `vars` that has none
pub data Look : Type 0 where
  there : Data → Look
  absent : Look
  failing : Stuck → Look

-- the host that a term names
pub data Named : Type 0 where
  host_named : Name → Named
  no_host : Named
  not_a_host : Named

abbrev pub then_go : Outcome → (Data → Outcome) → Outcome
then_go (value d) go = go d
then_go (stuck s) go = stuck s

abbrev pub or_stuck : Stuck → (Data → Outcome) → Option Data → Outcome
or_stuck s go None = stuck s
or_stuck s go (Some d) = go d

-- the value below a value: each step is into a record that has the field
abbrev pub value_below : List Name → Data → Outcome
value_below [] d = value d
value_below (n ∷ ns) (rec fs) = or_stuck no_field (value_below ns) (field_value n fs)
value_below (n ∷ ns) d = stuck wrong_sort

abbrev pub is_value : Outcome → Bool
is_value (value d) = true
is_value (stuck s) = false

abbrev pub found : Option Data → Look
found None = absent
found (Some d) = there d

-- a value that may not be read stands for nothing
abbrev pub readable : Outcome → Look
readable (value opaque) = failing wrong_sort
readable (value d) = there d
readable (stuck s) = failing s

abbrev pub name_in : Option Data → Named
name_in None = no_host
name_in (Some (text s)) = host_named s
name_in (Some d) = not_a_host

abbrev pub member_named : Option Name → Named
member_named None = no_host
member_named (Some h) = host_named h

abbrev pub member_text : Option Name → Option Data
member_text None = None
member_text (Some h) = Some (text h)

abbrev pub host_of : World → Term → Named
host_of w (named_host n) = host_named n
host_of w this_host = host_named w.this
host_of w item_host = name_in (field_value (codes "item") w.mine)
host_of w (group_member g n) = member_named (member_of g n w.groups)

abbrev pub look_there : World → Name → Named → Look
look_there w x (host_named g) = found (field_value x (variables_of g w.hosts))
look_there w x no_host = absent
look_there w x not_a_host = failing wrong_sort

abbrev pub read : List Name → Look → Outcome
read ns (there d) = value_below ns d
read ns absent = stuck undefined
read ns (failing s) = stuck s

-- no step is missing, and each is into a record
abbrev pub is_there : List Name → Look → Outcome
is_there ns (there d) = value (boolean (is_value (value_below ns d)))
is_there ns absent = value (boolean false)
is_there ns (failing s) = stuck s

abbrev pub value_else : Outcome → Outcome → Outcome
value_else (value d) o = value d
value_else (stuck s) o = o

abbrev pub or_else : List Name → Look → Outcome → Outcome
or_else ns (there d) o = value_else (value_below ns d) o
or_else ns absent o = o
or_else ns (failing s) o = stuck s

abbrev pub only_boolean : Data → Outcome
only_boolean (boolean b) = value (boolean b)
only_boolean d = stuck wrong_sort

abbrev pub negated : Data → Outcome
negated (boolean b) = value (boolean (not b))
negated d = stuck wrong_sort

-- the second is looked at only where the first is true
abbrev pub and_then : Data → Outcome → Outcome
and_then (boolean true) o = then_go o only_boolean
and_then (boolean false) o = value (boolean false)
and_then d o = stuck wrong_sort

-- the second is looked at only where the first is false
abbrev pub or_then : Data → Outcome → Outcome
or_then (boolean false) o = then_go o only_boolean
or_then (boolean true) o = value (boolean true)
or_then d o = stuck wrong_sort

-- what may not be read lies in it, at any depth; of a name that stands twice the first counts
abbrev mutual
  pub holds_opaque : Data → Bool
  holds_opaque opaque = true
  holds_opaque (list ds) = any_item_opaque ds
  holds_opaque (rec fs) = any_field_opaque [] fs
  holds_opaque d = false

  pub any_item_opaque : Items → Bool
  any_item_opaque no_items = false
  any_item_opaque (item d ds) = holds_opaque d || any_item_opaque ds

  pub any_field_opaque : List Name → Fields → Bool
  any_field_opaque seen no_fields = false
  any_field_opaque seen (field n d fs) =
      (not (is_among n seen) && holds_opaque d) || any_field_opaque (n ∷ seen) fs

-- neither holds what may not be read
abbrev pub equal_values : Data → Data → Outcome
equal_values d e =
    cond (holds_opaque d || holds_opaque e) (stuck wrong_sort) (value (boolean (data_eq d e)))

abbrev pub ordered : (ℤ → ℤ → Bool) → Data → Data → Outcome
ordered f (int y) (int z) = value (boolean (f y z))
ordered f d e = stuck wrong_sort

abbrev pub compared : Comparison → Data → Data → Outcome
compared equal d e = equal_values d e
compared less d e = ordered (λ y z. int_lt y z) d e
compared at_most d e = ordered (λ y z. int_le y z) d e
compared more d e = ordered (λ y z. int_lt z y) d e
compared at_least d e = ordered (λ y z. int_le z y) d e

-- an equal item, a part of a text, or a field of a record
abbrev pub found_in : Data → Data → Outcome
found_in d (list es) =
    cond (holds_opaque d || any_item_opaque es) (stuck wrong_sort) (value (boolean (is_item d es)))
found_in (text s) (text t) = value (boolean (is_part s t))
found_in (text s) (rec fs) = value (boolean (is_some (field_value s fs)))
found_in d e = stuck wrong_sort

abbrev pub is_text_among : Data → List Name → Outcome
is_text_among (text s) ns = value (boolean (is_among s ns))
is_text_among d ns = cond (holds_opaque d) (stuck wrong_sort) (value (boolean false))

abbrev pub member_among : Option Name → List Name → Outcome
member_among None ns = stuck undefined
member_among (Some h) ns = value (boolean (is_among h ns))

abbrev pub is_active : World → Term → Outcome
is_active w (named_host n) = value (boolean (is_among n w.batch))
is_active w this_host = value (boolean (is_among w.this w.batch))
is_active w item_host =
    or_stuck undefined (λ d. is_text_among d w.batch) (field_value (codes "item") w.mine)
is_active w (group_member g n) = member_among (member_of g n w.groups) w.batch

abbrev pub is_truth : Option Data → Bool
is_truth (Some (boolean b)) = true
is_truth o = false

abbrev pub may_be_truth : Option Data → Bool
may_be_truth None = true
may_be_truth o = is_truth o

-- a result has `changed` and `failed`, and perhaps `skipped`, each a truth value
abbrev pub has_statuses : Fields → Bool
has_statuses fs = is_truth (field_value (codes "changed") fs)
    && (is_truth (field_value (codes "failed") fs)
    && may_be_truth (field_value (codes "skipped") fs))

abbrev pub status_name : Status → Name
status_name is_failed = codes "failed"
status_name is_changed = codes "changed"
status_name is_skipped = codes "skipped"

-- the field of that name is there and true
abbrev pub status_of : Status → Data → Outcome
status_of s (rec fs) = cond (has_statuses fs)
    (value (boolean (flag_is true (field_value (status_name s) fs)))) (stuck wrong_sort)
status_of s d = stuck wrong_sort

abbrev pub field_count : Fields → ℕ
field_count no_fields = 0
field_count (field n d fs) = suc (field_count fs)

-- the bytes that begin a character
abbrev pub character_count : List ℕ → ℕ
character_count [] = 0
character_count (b ∷ bs) =
    cond (nat_lt b 128 || nat_le 192 b) (suc (character_count bs)) (character_count bs)

abbrev pub counted : Data → Outcome
counted (list ds) = value (int (pos (count_of ds)))
counted (text s) = value (int (pos (character_count s)))
counted (rec fs) = value (int (pos (field_count fs)))
counted d = stuck wrong_sort

-- a text, a whole number or a truth value, as text
abbrev pub plain_text : Data → (List ℕ → Outcome) → Outcome
plain_text d go = cond (is_plain d) (go (rendered d)) (stuck wrong_sort)

abbrev pub with_text : List ℕ → Data → Outcome
with_text s (text t) = value (text (s ++ t))
with_text s d = stuck wrong_sort

abbrev pub joined_items : List ℕ → Items → Outcome
joined_items s no_items = value (text [])
joined_items s (item d no_items) = plain_text d (λ t. value (text t))
joined_items s (item d (item e ds)) =
    plain_text d (λ t. then_go (joined_items s (item e ds)) (with_text (t ++ s)))

abbrev pub joined : Data → Data → Outcome
joined (list ds) (text s) = joined_items s ds
joined d e = stuck wrong_sort

-- an opaque value may not be put into another
abbrev pub put_item : Data → Outcome → Outcome
put_item opaque o = stuck wrong_sort
put_item d (value (list ds)) = value (list (item d ds))
put_item d (value e) = stuck wrong_sort
put_item d (stuck s) = stuck s

abbrev pub put_part : Name → Data → Outcome → Outcome
put_part n opaque o = stuck wrong_sort
put_part n d (value (rec fs)) = value (rec (field n d fs))
put_part n d (value e) = stuck wrong_sort
put_part n d (stuck s) = stuck s

-- a value that is chosen with `default` may be anything that may be read
abbrev pub given : Data → Outcome
given opaque = stuck wrong_sort
given d = value d

abbrev mutual
  pub eval : World → Expression → Outcome
  eval w (literal d) = value d
  eval w (path r ns) = read ns (look w r)
  eval w (hostvars_alone o) = stuck wrong_sort
  eval w (negation e) = then_go (eval w e) negated
  eval w (conjunction es) = eval_all w es
  eval w (disjunction es) = eval_any w es
  eval w (comparison c a b) = then_go (eval w a) (λ d. then_go (eval w b) (compared c d))
  eval w (membership a b) = then_go (eval w a) (λ d. then_go (eval w b) (found_in d))
  eval w (in_batch t) = is_active w t
  eval w (defined r ns) = is_there ns (look w r)
  eval w (undefinable e) = then_go (eval w e) (λ d. stuck wrong_sort)
  eval w (path_status s r ns) = then_go (read ns (look w r)) (status_of s)
  eval w (value_status s e) = then_go (eval w e) (status_of s)
  eval w (path_or r ns e) = or_else ns (look w r) (then_go (eval w e) given)
  eval w (value_or a e) = eval w a
  eval w (length_of e) = then_go (eval w e) counted
  eval w (joined_by e s) = then_go (eval w e) (λ d. then_go (eval w s) (joined d))
  eval w (concatenation es) = eval_text w es
  eval w (list_of es) = eval_items w es
  eval w (record_of ps) = eval_parts w ps

  pub look : World → Root → Look
  look w (variable n) = found (field_value n w.mine)
  look w (alias n e) = readable (eval w e)
  look w (other t x) = look_there w x (host_of w t)
  look w (member g n) = found (member_text (member_of g n w.groups))

  pub eval_all : World → Expressions → Outcome
  eval_all w no_expressions = value (boolean true)
  eval_all w (expression e es) = then_go (eval w e) (λ d. and_then d (eval_all w es))

  pub eval_any : World → Expressions → Outcome
  eval_any w no_expressions = value (boolean false)
  eval_any w (expression e es) = then_go (eval w e) (λ d. or_then d (eval_any w es))

  pub eval_text : World → Expressions → Outcome
  eval_text w no_expressions = value (text [])
  eval_text w (expression e es) =
      then_go (eval w e) (λ d. plain_text d (λ s. then_go (eval_text w es) (with_text s)))

  pub eval_items : World → Expressions → Outcome
  eval_items w no_expressions = value (list no_items)
  eval_items w (expression e es) = then_go (eval w e) (λ d. put_item d (eval_items w es))

  pub eval_parts : World → Parts → Outcome
  eval_parts w no_parts = value (rec no_fields)
  eval_parts w (part n e ps) = then_go (eval w e) (λ d. put_part n d (eval_parts w ps))
