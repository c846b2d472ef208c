-- What has a root of which something holds, place by place.
use Rattle.std.proofs.Common.{◌≡◌, List, Bool, not, Option, refl}
use Rattle.pb_language.specs.Expression.{Name, Expression, literal, path, hostvars_alone, negation, conjunction, disjunction, comparison, membership, in_batch, defined, undefinable, path_status, value_status, path_or, value_or, length_of, joined_by, concatenation, list_of, record_of, Root, variable, alias, other, member, Expressions, no_expressions, expression, Parts, no_parts, part}
use Rattle.pb_language.specs.Expansion.{expanded}
use Rattle.pb_others.specs.Rooted.{has_root, root_holds, any_has_root, part_has_root, expanded_has_root}
use Rattle.pb_vars.specs.Reads.{every_read, value_read, root_tested, all_every_read, parts_every_read, expanded_every_read}
use Rattle.pb_rules.specs.Theirs.{none_holds}
use Rattle.pb_rules.proofs.Nameless.{either, twice}

module _ (q : Root → Bool) where
  mutual
    pub rooted-reads : (e : Expression) → has_root q e ≡ not (every_read (none_holds q) e)
    rooted-reads (literal d) = refl
    rooted-reads (path r ns) = rooted-value r ns
    rooted-reads (hostvars_alone o) = refl
    rooted-reads (negation e) = rooted-reads e
    rooted-reads (conjunction es) = rooted-all es
    rooted-reads (disjunction es) = rooted-all es
    rooted-reads (comparison c a b) = either _ _ _ _ (rooted-reads a) (rooted-reads b)
    rooted-reads (membership a b) = either _ _ _ _ (rooted-reads a) (rooted-reads b)
    rooted-reads (in_batch t) = refl
    rooted-reads (defined r ns) = rooted-tested r
    rooted-reads (undefinable e) = rooted-reads e
    rooted-reads (path_status s r ns) = rooted-value r ns
    rooted-reads (value_status s e) = rooted-reads e
    rooted-reads (path_or r ns e) = either _ _ _ _ (rooted-tested r) (rooted-reads e)
    rooted-reads (value_or a e) = either _ _ _ _ (rooted-reads a) (rooted-reads e)
    rooted-reads (length_of e) = rooted-reads e
    rooted-reads (joined_by e s) = either _ _ _ _ (rooted-reads e) (rooted-reads s)
    rooted-reads (concatenation es) = rooted-all es
    rooted-reads (list_of es) = rooted-all es
    rooted-reads (record_of ps) = rooted-parts ps

    rooted-value : (r : Root) (ns : List Name) → root_holds q r ≡ not (value_read (none_holds q) r ns)
    rooted-value (variable n) ns = twice _
    rooted-value (alias n e) ns = rooted-reads e
    rooted-value (other t x) ns = twice _
    rooted-value (member g i) ns = twice _

    rooted-tested : (r : Root) → root_holds q r ≡ not (root_tested (none_holds q) r)
    rooted-tested (variable n) = twice _
    rooted-tested (alias n e) = rooted-reads e
    rooted-tested (other t x) = twice _
    rooted-tested (member g i) = twice _

    rooted-all : (es : Expressions) → any_has_root q es ≡ not (all_every_read (none_holds q) es)
    rooted-all no_expressions = refl
    rooted-all (expression e es) = either _ _ _ _ (rooted-reads e) (rooted-all es)

    rooted-parts : (ps : Parts) → part_has_root q ps ≡ not (parts_every_read (none_holds q) ps)
    rooted-parts no_parts = refl
    rooted-parts (part n e ps) = either _ _ _ _ (rooted-reads e) (rooted-parts ps)

  pub rooted-expanded : (t : Name → Option Expression) (es : Expressions) → expanded_has_root q t es ≡ not (expanded_every_read t (none_holds q) es)
  rooted-expanded t no_expressions = refl
  rooted-expanded t (expression e es) = either _ _ _ _ (rooted-reads (expanded t e)) (rooted-expanded t es)
