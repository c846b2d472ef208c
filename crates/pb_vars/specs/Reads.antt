-- Where an expression reads something, and what is asked of each such place.
use Rattle.std.specs.Prelude.{List, Bool, true, false, not, ◌&&◌, Option, is_some, codes}
use Rattle.std.specs.Str.{bytes_eq}
use Rattle.pb_language.specs.Expression.{Name, Term, Expression, literal, path, hostvars_alone}
use Rattle.pb_language.specs.Expression.{negation, conjunction, disjunction, comparison, membership}
use Rattle.pb_language.specs.Expression.{in_batch, defined, undefinable, path_status, value_status}
use Rattle.pb_language.specs.Expression.{path_or, value_or, length_of, joined_by, concatenation}
use Rattle.pb_language.specs.Expression.{list_of, record_of, Root, variable, alias, other, member}
use Rattle.pb_language.specs.Expression.{Expressions, no_expressions, expression, Parts, no_parts}
use Rattle.pb_language.specs.Expression.{part}
use Rattle.pb_language.specs.Expansion.{expanded}
use Rattle.pb_language.specs.Program.{Inventory}
use Rattle.pb_language.specs.Rules.{is_known_member, is_known_option, is_known_term}
use Rattle.pb_language.specs.Rules.{is_known_variable}
use Rattle.pb_language.specs.World.{member_of}

-- a value that is read, with the fields that are read below it; what is tested to be there;
-- `hostvars` without a variable; a host that is looked for in the batch
pub data Read : Type 0 where
  value_at : Root → List Name → Read
  tested_at : Root → Read
  alone : Option Term → Read
  looked_for : Term → Read

-- each place where the expression, or a tree of a name of `vars` in it, reads something
abbrev mutual
  pub every_read : (Read → Bool) → Expression → Bool
  every_read f (literal d) = true
  every_read f (path r ns) = value_read f r ns
  every_read f (hostvars_alone o) = f (alone o)
  every_read f (negation e) = every_read f e
  every_read f (conjunction es) = all_every_read f es
  every_read f (disjunction es) = all_every_read f es
  every_read f (comparison c a b) = every_read f a && every_read f b
  every_read f (membership a b) = every_read f a && every_read f b
  every_read f (in_batch t) = f (looked_for t)
  every_read f (defined r ns) = root_tested f r
  every_read f (undefinable e) = every_read f e
  every_read f (path_status s r ns) = value_read f r ns
  every_read f (value_status s e) = every_read f e
  every_read f (path_or r ns e) = root_tested f r && every_read f e
  every_read f (value_or a e) = every_read f a && every_read f e
  every_read f (length_of e) = every_read f e
  every_read f (joined_by e s) = every_read f e && every_read f s
  every_read f (concatenation es) = all_every_read f es
  every_read f (list_of es) = all_every_read f es
  every_read f (record_of ps) = parts_every_read f ps

  pub value_read : (Read → Bool) → Root → List Name → Bool
  value_read f (variable n) ns = f (value_at (variable n) ns)
  value_read f (alias n e) ns = every_read f e
  value_read f (other t x) ns = f (value_at (other t x) ns)
  value_read f (member g i) ns = f (value_at (member g i) ns)

  pub root_tested : (Read → Bool) → Root → Bool
  root_tested f (variable n) = f (tested_at (variable n))
  root_tested f (alias n e) = every_read f e
  root_tested f (other t x) = f (tested_at (other t x))
  root_tested f (member g i) = f (tested_at (member g i))

  pub all_every_read : (Read → Bool) → Expressions → Bool
  all_every_read f no_expressions = true
  all_every_read f (expression e es) = every_read f e && all_every_read f es

  pub parts_every_read : (Read → Bool) → Parts → Bool
  parts_every_read f no_parts = true
  parts_every_read f (part n e ps) = every_read f e && parts_every_read f ps

-- each place of each expression, where names of `vars` stand for their trees
abbrev pub expanded_every_read : (Name → Option Expression) → (Read → Bool) → Expressions → Bool
expanded_every_read t f no_expressions = true
expanded_every_read t f (expression e es) =
    every_read f (expanded t e) && expanded_every_read t f es

-- the host's own: neither `hostvars` nor the batch
abbrev pub is_own_root : Root → Bool
is_own_root (variable n) = not (bytes_eq n (codes "ansible_play_batch"))
is_own_root (alias n e) = true
is_own_root (other t x) = false
is_own_root (member g i) = true

abbrev pub is_own : Read → Bool
is_own (value_at r ns) = is_own_root r
is_own (tested_at r) = is_own_root r
is_own (alone o) = false
is_own (looked_for t) = false

-- hosts and groups that the inventory has; what is only tested names nothing
abbrev pub is_known_root : Inventory → Root → List Name → Bool
is_known_root v (variable n) ns = is_known_variable v n ns
is_known_root v (alias n e) ns = true
is_known_root v (other t x) ns = is_known_term v t
is_known_root v (member g i) ns = is_some (member_of g i v.groups)

abbrev pub is_known : Inventory → Read → Bool
is_known v (value_at r ns) = is_known_root v r ns
is_known v (tested_at r) = true
is_known v (alone o) = is_known_option v o
is_known v (looked_for t) = is_known_member v t
