-- Where there are no names of `vars`.
use Rattle.std.proofs.Common.{◌≡◌, refl, ap, ◌∙◌}
use Rattle.pb_language.specs.Expression.{Expression, literal, path, hostvars_alone, negation, conjunction, disjunction, comparison, membership, in_batch, defined, undefinable, path_status, value_status, path_or, value_or, length_of, joined_by, concatenation, list_of, record_of, Root, variable, alias, other, member, Expressions, no_expressions, expression, Parts, no_parts, part}
use Rattle.pb_language.specs.Expansion.{expanded, expanded_root, all_expanded, parts_expanded}
use Rattle.pb_syntax.specs.Aliases.{no_trees}

-- where there are no `vars`, each tree is whole
mutual
  pub no-names : (e : Expression) → expanded no_trees e ≡ e
  no-names (literal d) = refl
  no-names (path r ns) = ap (λ x. path x ns) (no-names-root r)
  no-names (hostvars_alone o) = refl
  no-names (negation e) = ap negation (no-names e)
  no-names (conjunction es) = ap conjunction (no-names-all es)
  no-names (disjunction es) = ap disjunction (no-names-all es)
  no-names (comparison c a b) = ap (λ x. comparison c x (expanded no_trees b)) (no-names a) ∙ ap (comparison c a) (no-names b)
  no-names (membership a b) = ap (λ x. membership x (expanded no_trees b)) (no-names a) ∙ ap (membership a) (no-names b)
  no-names (in_batch t) = refl
  no-names (defined r ns) = ap (λ x. defined x ns) (no-names-root r)
  no-names (undefinable e) = ap undefinable (no-names e)
  no-names (path_status s r ns) = ap (λ x. path_status s x ns) (no-names-root r)
  no-names (value_status s e) = ap (value_status s) (no-names e)
  no-names (path_or r ns e) = ap (λ x. path_or x ns (expanded no_trees e)) (no-names-root r) ∙ ap (path_or r ns) (no-names e)
  no-names (value_or a e) = ap (λ x. value_or x (expanded no_trees e)) (no-names a) ∙ ap (value_or a) (no-names e)
  no-names (length_of e) = ap length_of (no-names e)
  no-names (joined_by a b) = ap (λ x. joined_by x (expanded no_trees b)) (no-names a) ∙ ap (joined_by a) (no-names b)
  no-names (concatenation es) = ap concatenation (no-names-all es)
  no-names (list_of es) = ap list_of (no-names-all es)
  no-names (record_of ps) = ap record_of (no-names-parts ps)

  pub no-names-root : (r : Root) → expanded_root no_trees r ≡ r
  no-names-root (variable n) = refl
  no-names-root (alias n e) = ap (alias n) (no-names e)
  no-names-root (other t x) = refl
  no-names-root (member g n) = refl

  pub no-names-all : (es : Expressions) → all_expanded no_trees es ≡ es
  no-names-all no_expressions = refl
  no-names-all (expression e es) = ap (λ x. expression x (all_expanded no_trees es)) (no-names e) ∙ ap (expression e) (no-names-all es)

  pub no-names-parts : (ps : Parts) → parts_expanded no_trees ps ≡ ps
  no-names-parts no_parts = refl
  no-names-parts (part n e ps) = ap (λ x. part n x (parts_expanded no_trees ps)) (no-names e) ∙ ap (part n e) (no-names-parts ps)
