-- What reads the host's own name, place by place.
use Rattle.std.proofs.Common.{◌≡◌, List, Bool, true, false, not, ◌&&◌, ◌||◌, Option, refl, ap, ◌∙◌}
use Rattle.pb_language.specs.Expression.{Name, Expression, literal, path, hostvars_alone, negation, conjunction, disjunction, comparison, membership, in_batch, defined, undefinable, path_status, value_status, path_or, value_or, length_of, joined_by, concatenation, list_of, record_of, Root, variable, alias, other, member, Expressions, no_expressions, expression, Parts, no_parts, part}
use Rattle.pb_language.specs.Expansion.{expanded}
use Rattle.pb_alike.specs.Named.{reads_name, root_reads_name, any_reads_name, part_reads_name, expanded_reads_name}
use Rattle.pb_vars.specs.Reads.{every_read, value_read, root_tested, all_every_read, parts_every_read, expanded_every_read}
use Rattle.pb_rules.specs.Named.{reads_no_name}

pub either : (a b c d : Bool) → a ≡ not c → b ≡ not d → a || b ≡ not (c && d)
either a b true d p q = ap (λ x. x || b) p ∙ q
either a b false d p q = ap (λ x. x || b) p

pub twice : (a : Bool) → a ≡ not (not a)
twice true = refl
twice false = refl

mutual
  pub name-reads : (e : Expression) → reads_name e ≡ not (every_read reads_no_name e)
  name-reads (literal d) = refl
  name-reads (path r ns) = name-value r ns
  name-reads (hostvars_alone o) = refl
  name-reads (negation e) = name-reads e
  name-reads (conjunction es) = name-all es
  name-reads (disjunction es) = name-all es
  name-reads (comparison c a b) = either _ _ _ _ (name-reads a) (name-reads b)
  name-reads (membership a b) = either _ _ _ _ (name-reads a) (name-reads b)
  name-reads (in_batch t) = refl
  name-reads (defined r ns) = name-tested r
  name-reads (undefinable e) = name-reads e
  name-reads (path_status s r ns) = name-value r ns
  name-reads (value_status s e) = name-reads e
  name-reads (path_or r ns e) = either _ _ _ _ (name-tested r) (name-reads e)
  name-reads (value_or a e) = either _ _ _ _ (name-reads a) (name-reads e)
  name-reads (length_of e) = name-reads e
  name-reads (joined_by e s) = either _ _ _ _ (name-reads e) (name-reads s)
  name-reads (concatenation es) = name-all es
  name-reads (list_of es) = name-all es
  name-reads (record_of ps) = name-parts ps

  name-value : (r : Root) (ns : List Name) → root_reads_name r ≡ not (value_read reads_no_name r ns)
  name-value (variable n) ns = twice _
  name-value (alias n e) ns = name-reads e
  name-value (other t x) ns = refl
  name-value (member g i) ns = refl

  name-tested : (r : Root) → root_reads_name r ≡ not (root_tested reads_no_name r)
  name-tested (variable n) = twice _
  name-tested (alias n e) = name-reads e
  name-tested (other t x) = refl
  name-tested (member g i) = refl

  name-all : (es : Expressions) → any_reads_name es ≡ not (all_every_read reads_no_name es)
  name-all no_expressions = refl
  name-all (expression e es) = either _ _ _ _ (name-reads e) (name-all es)

  name-parts : (ps : Parts) → part_reads_name ps ≡ not (parts_every_read reads_no_name ps)
  name-parts no_parts = refl
  name-parts (part n e ps) = either _ _ _ _ (name-reads e) (name-parts ps)

pub name-expanded : (t : Name → Option Expression) (es : Expressions) → expanded_reads_name t es ≡ not (expanded_every_read t reads_no_name es)
name-expanded t no_expressions = refl
name-expanded t (expression e es) = either _ _ _ _ (name-reads (expanded t e)) (name-expanded t es)
