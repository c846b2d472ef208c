-- Which hosts and groups are known, place by place.
use Rattle.std.proofs.Common.{◌≡◌, List, Bool, ◌&&◌, Option, refl, ap, ◌∙◌}
use Rattle.pb_language.specs.Expression.{Name, Expression, literal, path, hostvars_alone, negation, conjunction, disjunction, comparison, membership, in_batch, defined, undefinable, path_status, value_status, path_or, value_or, length_of, joined_by, concatenation, list_of, record_of, Root, variable, alias, other, member, Expressions, no_expressions, expression, Parts, no_parts, part}
use Rattle.pb_language.specs.Expansion.{expanded}
use Rattle.pb_language.specs.Program.{Inventory}
use Rattle.pb_language.specs.Rules.{names_known, root_known, tested_known, all_names_known, parts_names_known, expanded_known}
use Rattle.pb_vars.specs.Reads.{every_read, value_read, root_tested, all_every_read, parts_every_read, expanded_every_read, is_known}

pub both-same : (a b c d : Bool) → a ≡ c → b ≡ d → a && b ≡ c && d
both-same a b c d p q = ap (λ x. x && b) p ∙ ap (λ x. c && x) q

mutual
  pub known-reads : (v : Inventory) (e : Expression) → names_known v e ≡ every_read (is_known v) e
  known-reads v (literal d) = refl
  known-reads v (path r ns) = known-value v r ns
  known-reads v (hostvars_alone o) = refl
  known-reads v (negation e) = known-reads v e
  known-reads v (conjunction es) = known-all v es
  known-reads v (disjunction es) = known-all v es
  known-reads v (comparison c a b) = both-same _ _ _ _ (known-reads v a) (known-reads v b)
  known-reads v (membership a b) = both-same _ _ _ _ (known-reads v a) (known-reads v b)
  known-reads v (in_batch t) = refl
  known-reads v (defined r ns) = known-tested v r
  known-reads v (undefinable e) = known-reads v e
  known-reads v (path_status s r ns) = known-value v r ns
  known-reads v (value_status s e) = known-reads v e
  known-reads v (path_or r ns e) = both-same _ _ _ _ (known-tested v r) (known-reads v e)
  known-reads v (value_or a e) = both-same _ _ _ _ (known-reads v a) (known-reads v e)
  known-reads v (length_of e) = known-reads v e
  known-reads v (joined_by e s) = both-same _ _ _ _ (known-reads v e) (known-reads v s)
  known-reads v (concatenation es) = known-all v es
  known-reads v (list_of es) = known-all v es
  known-reads v (record_of ps) = known-parts v ps

  known-value : (v : Inventory) (r : Root) (ns : List Name) → root_known v r ns ≡ value_read (is_known v) r ns
  known-value v (variable n) ns = refl
  known-value v (alias n e) ns = known-reads v e
  known-value v (other t x) ns = refl
  known-value v (member g i) ns = refl

  known-tested : (v : Inventory) (r : Root) → tested_known v r ≡ root_tested (is_known v) r
  known-tested v (variable n) = refl
  known-tested v (alias n e) = known-reads v e
  known-tested v (other t x) = refl
  known-tested v (member g i) = refl

  known-all : (v : Inventory) (es : Expressions) → all_names_known v es ≡ all_every_read (is_known v) es
  known-all v no_expressions = refl
  known-all v (expression e es) = both-same _ _ _ _ (known-reads v e) (known-all v es)

  known-parts : (v : Inventory) (ps : Parts) → parts_names_known v ps ≡ parts_every_read (is_known v) ps
  known-parts v no_parts = refl
  known-parts v (part n e ps) = both-same _ _ _ _ (known-reads v e) (known-parts v ps)

pub known-expanded : (v : Inventory) (t : Name → Option Expression) (es : Expressions) → expanded_known v t es ≡ expanded_every_read t (is_known v) es
known-expanded v t no_expressions = refl
known-expanded v t (expression e es) = both-same _ _ _ _ (known-reads v (expanded t e)) (known-expanded v t es)
