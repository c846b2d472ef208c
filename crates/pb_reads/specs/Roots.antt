-- The roots of the paths of expressions, from left to right.
use Rattle.std.specs.Prelude.{List, [], ◌∷◌, ◌++◌}
use Rattle.pb_language.specs.Expression.{Expression, literal, path, hostvars_alone, negation}
use Rattle.pb_language.specs.Expression.{conjunction, disjunction, comparison, membership, in_batch}
use Rattle.pb_language.specs.Expression.{defined, undefinable, path_status, value_status, path_or}
use Rattle.pb_language.specs.Expression.{value_or, length_of, joined_by, concatenation, list_of}
use Rattle.pb_language.specs.Expression.{record_of, Root, Expressions, no_expressions, expression}
use Rattle.pb_language.specs.Expression.{Parts, no_parts, part}

abbrev mutual
  pub roots_in : Expression → List Root
  roots_in (literal d) = []
  roots_in (path r ns) = r ∷ []
  roots_in (hostvars_alone o) = []
  roots_in (negation e) = roots_in e
  roots_in (conjunction es) = all_roots es
  roots_in (disjunction es) = all_roots es
  roots_in (comparison c a b) = roots_in a ++ roots_in b
  roots_in (membership a b) = roots_in a ++ roots_in b
  roots_in (in_batch t) = []
  roots_in (defined r ns) = r ∷ []
  roots_in (undefinable e) = roots_in e
  roots_in (path_status s r ns) = r ∷ []
  roots_in (value_status s e) = roots_in e
  roots_in (path_or r ns e) = r ∷ roots_in e
  roots_in (value_or a b) = roots_in a ++ roots_in b
  roots_in (length_of e) = roots_in e
  roots_in (joined_by a b) = roots_in a ++ roots_in b
  roots_in (concatenation es) = all_roots es
  roots_in (list_of es) = all_roots es
  roots_in (record_of ps) = part_roots ps

  pub all_roots : Expressions → List Root
  all_roots no_expressions = []
  all_roots (expression e es) = roots_in e ++ all_roots es

  pub part_roots : Parts → List Root
  part_roots no_parts = []
  part_roots (part n e ps) = roots_in e ++ part_roots ps
