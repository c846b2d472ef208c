-- What an expression expands to depends on the trees at its roots alone.
use Rattle.std.proofs.Common.{◌≡◌, ◌∙◌, List, [], ◌∷◌, ◌++◌, refl, ap}
use Rattle.std.specs.List.{Contains}
use Rattle.std.proofs.lemmas.List.Elements.{Contains-append_left, Contains-append_right}
use Rattle.pb_language.specs.Expansion.{expanded, expanded_root, all_expanded, parts_expanded}
use Rattle.pb_language.specs.Expression.{Name, Expression, literal, path, hostvars_alone, negation, conjunction, disjunction, comparison, membership, in_batch, defined, undefinable, path_status, value_status, path_or, value_or, length_of, joined_by, concatenation, list_of, record_of, Term, Root, Expressions, no_expressions, expression, Parts, no_parts, part}
use Rattle.pb_syntax.specs.Aliases.{Trees}
use Rattle.pb_reads.specs.Needed.{AreSameAt}
use Rattle.pb_reads.specs.Roots.{roots_in, all_roots, part_roots}
use Rattle.pb_reads.proofs.Reached.{here, later}

both-args : {A B C : Type 0} (f : A → B → C) {a c : A} {b d : B} → a ≡ c → b ≡ d → f a b ≡ f c d
both-args f {c = c} {b = b} p q = ap (λ x. f x b) p ∙ ap (f c) q

module _ (f g : Trees) where
  pub at-first : (rs qs : List Root) → AreSameAt (rs ++ qs) f g → AreSameAt rs f g
  at-first rs qs h r c = h r (Contains-append_left rs qs r c)

  pub at-others : (rs qs : List Root) → AreSameAt (rs ++ qs) f g → AreSameAt qs f g
  at-others rs qs h r c = h r (Contains-append_right rs qs r c)

  at-one : (r : Root) (rs : List Root) → AreSameAt (r ∷ rs) f g → expanded_root f r ≡ expanded_root g r
  at-one r rs h = h r (here r rs)

  at-later : (r : Root) (rs : List Root) → AreSameAt (r ∷ rs) f g → AreSameAt rs f g
  at-later r rs h q c = h q (later r rs q c)

  mutual
    pub same-expanded : (e : Expression) → AreSameAt (roots_in e) f g → expanded f e ≡ expanded g e
    same-expanded (literal d) h = refl
    same-expanded (path r ns) h = ap (λ x. path x ns) (at-one r [] h)
    same-expanded (hostvars_alone o) h = refl
    same-expanded (negation e) h = ap negation (same-expanded e h)
    same-expanded (conjunction es) h = ap conjunction (same-all es h)
    same-expanded (disjunction es) h = ap disjunction (same-all es h)
    same-expanded (comparison c x y) h = both-args (comparison c) (same-expanded x (at-first (roots_in x) (roots_in y) h)) (same-expanded y (at-others (roots_in x) (roots_in y) h))
    same-expanded (membership x y) h = both-args membership (same-expanded x (at-first (roots_in x) (roots_in y) h)) (same-expanded y (at-others (roots_in x) (roots_in y) h))
    same-expanded (in_batch t) h = refl
    same-expanded (defined r ns) h = ap (λ x. defined x ns) (at-one r [] h)
    same-expanded (undefinable e) h = ap undefinable (same-expanded e h)
    same-expanded (path_status q r ns) h = ap (λ x. path_status q x ns) (at-one r [] h)
    same-expanded (value_status q e) h = ap (value_status q) (same-expanded e h)
    same-expanded (path_or r ns y) h = both-args (λ x z. path_or x ns z) (at-one r (roots_in y) h) (same-expanded y (at-later r (roots_in y) h))
    same-expanded (value_or x y) h = both-args value_or (same-expanded x (at-first (roots_in x) (roots_in y) h)) (same-expanded y (at-others (roots_in x) (roots_in y) h))
    same-expanded (length_of e) h = ap length_of (same-expanded e h)
    same-expanded (joined_by x y) h = both-args joined_by (same-expanded x (at-first (roots_in x) (roots_in y) h)) (same-expanded y (at-others (roots_in x) (roots_in y) h))
    same-expanded (concatenation es) h = ap concatenation (same-all es h)
    same-expanded (list_of es) h = ap list_of (same-all es h)
    same-expanded (record_of ps) h = ap record_of (same-parts ps h)

    pub same-all : (es : Expressions) → AreSameAt (all_roots es) f g → all_expanded f es ≡ all_expanded g es
    same-all no_expressions h = refl
    same-all (expression e es) h = both-args expression (same-expanded e (at-first (roots_in e) (all_roots es) h)) (same-all es (at-others (roots_in e) (all_roots es) h))

    pub same-parts : (ps : Parts) → AreSameAt (part_roots ps) f g → parts_expanded f ps ≡ parts_expanded g ps
    same-parts no_parts h = refl
    same-parts (part n e ps) h = both-args (part n) (same-expanded e (at-first (roots_in e) (part_roots ps) h)) (same-parts ps (at-others (roots_in e) (part_roots ps) h))
