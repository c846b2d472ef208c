-- The values of `vars` in the expressions that read them (Ansible's page on variables).
use Rattle.std.specs.Prelude.{ℕ, zero, suc, max, cond, Option, Some, None, option_map}
use Rattle.std.specs.Str.{bytes_eq}
use Rattle.pb_language.specs.Expression.{Name, Expression, literal, path, hostvars_alone, negation}
use Rattle.pb_language.specs.Expression.{conjunction, disjunction, comparison, membership, in_batch}
use Rattle.pb_language.specs.Expression.{defined, undefinable, path_status, value_status, path_or}
use Rattle.pb_language.specs.Expression.{value_or, length_of, joined_by, concatenation, list_of}
use Rattle.pb_language.specs.Expression.{record_of, Root, variable, alias, other, member}
use Rattle.pb_language.specs.Expression.{Expressions, no_expressions, expression, Parts, no_parts}
use Rattle.pb_language.specs.Expression.{part}

-- the value of a name, the innermost first
abbrev pub part_named : Name → Parts → Option Expression
part_named n no_parts = None
part_named n (part m e ps) = cond (bytes_eq n m) (Some e) (part_named n ps)

abbrev pub root_named : Name → Option Expression → Root
root_named n None = variable n
root_named n (Some e) = alias n e

-- each name that is a value of `vars`, with its tree
abbrev mutual
  pub expanded : (Name → Option Expression) → Expression → Expression
  expanded f (literal d) = literal d
  expanded f (path r ns) = path (expanded_root f r) ns
  expanded f (hostvars_alone o) = hostvars_alone o
  expanded f (negation e) = negation (expanded f e)
  expanded f (conjunction es) = conjunction (all_expanded f es)
  expanded f (disjunction es) = disjunction (all_expanded f es)
  expanded f (comparison c a b) = comparison c (expanded f a) (expanded f b)
  expanded f (membership a b) = membership (expanded f a) (expanded f b)
  expanded f (in_batch t) = in_batch t
  expanded f (defined r ns) = defined (expanded_root f r) ns
  expanded f (undefinable e) = undefinable (expanded f e)
  expanded f (path_status s r ns) = path_status s (expanded_root f r) ns
  expanded f (value_status s e) = value_status s (expanded f e)
  expanded f (path_or r ns e) = path_or (expanded_root f r) ns (expanded f e)
  expanded f (value_or a e) = value_or (expanded f a) (expanded f e)
  expanded f (length_of e) = length_of (expanded f e)
  expanded f (joined_by e s) = joined_by (expanded f e) (expanded f s)
  expanded f (concatenation es) = concatenation (all_expanded f es)
  expanded f (list_of es) = list_of (all_expanded f es)
  expanded f (record_of ps) = record_of (parts_expanded f ps)

  pub expanded_root : (Name → Option Expression) → Root → Root
  expanded_root f (variable n) = root_named n (f n)
  expanded_root f (alias n e) = alias n (expanded f e)
  expanded_root f (other t x) = other t x
  expanded_root f (member g n) = member g n

  pub all_expanded : (Name → Option Expression) → Expressions → Expressions
  all_expanded f no_expressions = no_expressions
  all_expanded f (expression e es) = expression (expanded f e) (all_expanded f es)

  pub parts_expanded : (Name → Option Expression) → Parts → Parts
  parts_expanded f no_parts = no_parts
  parts_expanded f (part n e ps) = part n (expanded f e) (parts_expanded f ps)

-- the tree of a name, through at most so many names
abbrev pub tree_of : ℕ → Parts → Name → Option Expression
tree_of zero scope n = None
tree_of (suc k) scope n = option_map (expanded (tree_of k scope)) (part_named n scope)

-- a chain has at most eight names, and each tree in it stands whole
abbrev pub trees : Parts → Name → Option Expression
trees scope = tree_of 17 scope

-- the greatest of the numbers of the names that are read
abbrev mutual
  pub depth_in : (Name → ℕ) → Expression → ℕ
  depth_in f (literal d) = 0
  depth_in f (path r ns) = root_depth f r
  depth_in f (hostvars_alone o) = 0
  depth_in f (negation e) = depth_in f e
  depth_in f (conjunction es) = depth_in_all f es
  depth_in f (disjunction es) = depth_in_all f es
  depth_in f (comparison c a b) = max (depth_in f a) (depth_in f b)
  depth_in f (membership a b) = max (depth_in f a) (depth_in f b)
  depth_in f (in_batch t) = 0
  depth_in f (defined r ns) = root_depth f r
  depth_in f (undefinable e) = depth_in f e
  depth_in f (path_status s r ns) = root_depth f r
  depth_in f (value_status s e) = depth_in f e
  depth_in f (path_or r ns e) = max (root_depth f r) (depth_in f e)
  depth_in f (value_or a e) = max (depth_in f a) (depth_in f e)
  depth_in f (length_of e) = depth_in f e
  depth_in f (joined_by e s) = max (depth_in f e) (depth_in f s)
  depth_in f (concatenation es) = depth_in_all f es
  depth_in f (list_of es) = depth_in_all f es
  depth_in f (record_of ps) = depth_in_parts f ps

  pub root_depth : (Name → ℕ) → Root → ℕ
  root_depth f (variable n) = f n
  root_depth f (alias n e) = depth_in f e
  root_depth f (other t x) = 0
  root_depth f (member g n) = 0

  pub depth_in_all : (Name → ℕ) → Expressions → ℕ
  depth_in_all f no_expressions = 0
  depth_in_all f (expression e es) = max (depth_in f e) (depth_in_all f es)

  pub depth_in_parts : (Name → ℕ) → Parts → ℕ
  depth_in_parts f no_parts = 0
  depth_in_parts f (part n e ps) = max (depth_in f e) (depth_in_parts f ps)

abbrev pub suc_depth : (Expression → ℕ) → Option Expression → ℕ
suc_depth f None = 0
suc_depth f (Some e) = suc (f e)

-- how many names the longest chain from a name has, counted up to a number
abbrev pub chain_length : ℕ → Parts → Name → ℕ
chain_length zero scope n = 0
chain_length (suc k) scope n = suc_depth (depth_in (chain_length k scope)) (part_named n scope)
