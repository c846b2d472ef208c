-- What reads others' values, place by place.
use Rattle.std.proofs.Common.{◌≡◌, List, Bool, true, false, not, ◌&&◌, ◌||◌, Option, refl, ap, ◌∙◌}
use Rattle.pb_language.specs.Expression.{Name, Expression, literal, path, hostvars_alone, negation, conjunction, disjunction, comparison, membership, in_batch, defined, undefinable, path_status, value_status, path_or, value_or, length_of, joined_by, concatenation, list_of, record_of, Root, variable, alias, other, member, Expressions, no_expressions, expression, Parts, no_parts, part}
use Rattle.pb_language.specs.Expansion.{expanded}
use Rattle.pb_language.specs.Rules.{reads_others, root_reads_others, any_reads_others, part_reads_others, expanded_reads}
use Rattle.pb_vars.specs.Reads.{every_read, value_read, root_tested, all_every_read, parts_every_read, expanded_every_read, is_own}

either : (a b c d : Bool) → a ≡ not c → b ≡ not d → a || b ≡ not (c && d)
either a b true d p q = ap (λ x. x || b) p ∙ q
either a b false d p q = ap (λ x. x || b) p

twice : (a : Bool) → a ≡ not (not a)
twice true = refl
twice false = refl

mutual
  pub own-reads : (e : Expression) → reads_others e ≡ not (every_read is_own e)
  own-reads (literal d) = refl
  own-reads (path r ns) = own-value r ns
  own-reads (hostvars_alone o) = refl
  own-reads (negation e) = own-reads e
  own-reads (conjunction es) = own-all es
  own-reads (disjunction es) = own-all es
  own-reads (comparison c a b) = either _ _ _ _ (own-reads a) (own-reads b)
  own-reads (membership a b) = either _ _ _ _ (own-reads a) (own-reads b)
  own-reads (in_batch t) = refl
  own-reads (defined r ns) = own-tested r
  own-reads (undefinable e) = own-reads e
  own-reads (path_status s r ns) = own-value r ns
  own-reads (value_status s e) = own-reads e
  own-reads (path_or r ns e) = either _ _ _ _ (own-tested r) (own-reads e)
  own-reads (value_or a e) = either _ _ _ _ (own-reads a) (own-reads e)
  own-reads (length_of e) = own-reads e
  own-reads (joined_by e s) = either _ _ _ _ (own-reads e) (own-reads s)
  own-reads (concatenation es) = own-all es
  own-reads (list_of es) = own-all es
  own-reads (record_of ps) = own-parts ps

  own-value : (r : Root) (ns : List Name) → root_reads_others r ≡ not (value_read is_own r ns)
  own-value (variable n) ns = twice _
  own-value (alias n e) ns = own-reads e
  own-value (other t x) ns = refl
  own-value (member g i) ns = refl

  own-tested : (r : Root) → root_reads_others r ≡ not (root_tested is_own r)
  own-tested (variable n) = twice _
  own-tested (alias n e) = own-reads e
  own-tested (other t x) = refl
  own-tested (member g i) = refl

  own-all : (es : Expressions) → any_reads_others es ≡ not (all_every_read is_own es)
  own-all no_expressions = refl
  own-all (expression e es) = either _ _ _ _ (own-reads e) (own-all es)

  own-parts : (ps : Parts) → part_reads_others ps ≡ not (parts_every_read is_own ps)
  own-parts no_parts = refl
  own-parts (part n e ps) = either _ _ _ _ (own-reads e) (own-parts ps)

pub own-expanded : (t : Name → Option Expression) (es : Expressions) → expanded_reads t es ≡ not (expanded_every_read t is_own es)
own-expanded t no_expressions = refl
own-expanded t (expression e es) = either _ _ _ _ (own-reads (expanded t e)) (own-expanded t es)
