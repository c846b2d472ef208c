-- What is read through values of `vars` is what is read through their trees.
use Rattle.std.proofs.Common.{◌≡◌, ◌∙◌, List, [], ◌∷◌, ◌++◌, Option, Some, None, option_map, map, refl, sym, ap, subst, inl, inr, ◌⊎◌, ⊎_elim}
use Rattle.std.proofs.lemmas.List.{map-append}
use Rattle.std.specs.List.{Contains}
use Rattle.pb_language.specs.Expansion.{expanded, expanded_root, all_expanded, parts_expanded, part_named, root_named}
use Rattle.pb_language.specs.Expression.{Name, Expression, literal, path, hostvars_alone, negation, conjunction, disjunction, comparison, membership, in_batch, defined, undefinable, path_status, value_status, path_or, value_or, length_of, joined_by, concatenation, list_of, record_of, Term, Root, variable, alias, other, member, Expressions, no_expressions, expression, Parts, no_parts, part}
use Rattle.pb_reads.specs.Roots.{roots_in, all_roots, part_roots}
use Rattle.pb_reads.specs.Reads.{IsRead, of_the_host, of_another, through, in_a_tree}
use Rattle.pb_reads.proofs.Reached.{first-or-later, here, later, no-element}

-- the roots of an expanded expression are the expanded roots
module _ (f : Name → Option Expression) where
  abbrev whole : List Root → List Root
  whole rs = map (expanded_root f) rs

  pub two : (rs qs xs ys : List Root) → xs ≡ whole rs → ys ≡ whole qs → xs ++ ys ≡ whole (rs ++ qs)
  two rs qs xs ys p q = ap (λ z. z ++ ys) p ∙ ap (λ z. whole rs ++ z) q ∙ sym (map-append (expanded_root f) rs qs)

  mutual
    pub roots-expanded : (e : Expression) → roots_in (expanded f e) ≡ whole (roots_in e)
    roots-expanded (literal d) = refl
    roots-expanded (path r ns) = refl
    roots-expanded (hostvars_alone o) = refl
    roots-expanded (negation e) = roots-expanded e
    roots-expanded (conjunction es) = all-expanded es
    roots-expanded (disjunction es) = all-expanded es
    roots-expanded (comparison c x y) = two (roots_in x) (roots_in y) _ _ (roots-expanded x) (roots-expanded y)
    roots-expanded (membership x y) = two (roots_in x) (roots_in y) _ _ (roots-expanded x) (roots-expanded y)
    roots-expanded (in_batch t) = refl
    roots-expanded (defined r ns) = refl
    roots-expanded (undefinable e) = roots-expanded e
    roots-expanded (path_status q r ns) = refl
    roots-expanded (value_status q e) = roots-expanded e
    roots-expanded (path_or r ns y) = ap (λ z. expanded_root f r ∷ z) (roots-expanded y)
    roots-expanded (value_or x y) = two (roots_in x) (roots_in y) _ _ (roots-expanded x) (roots-expanded y)
    roots-expanded (length_of e) = roots-expanded e
    roots-expanded (joined_by x y) = two (roots_in x) (roots_in y) _ _ (roots-expanded x) (roots-expanded y)
    roots-expanded (concatenation es) = all-expanded es
    roots-expanded (list_of es) = all-expanded es
    roots-expanded (record_of ps) = parts-expanded ps

    pub all-expanded : (es : Expressions) → all_roots (all_expanded f es) ≡ whole (all_roots es)
    all-expanded no_expressions = refl
    all-expanded (expression e es) = two (roots_in e) (all_roots es) _ _ (roots-expanded e) (all-expanded es)

    parts-expanded : (ps : Parts) → part_roots (parts_expanded f ps) ≡ whole (part_roots ps)
    parts-expanded no_parts = refl
    parts-expanded (part n e ps) = two (roots_in e) (part_roots ps) _ _ (roots-expanded e) (parts-expanded ps)

-- elements of lists that are mapped
module _ (f : Root → Root) where
  pub mapped : (rs : List Root) (r : Root) → Contains rs r → Contains (map f rs) (f r)
  mapped [] r c = no-element r c
  mapped (q ∷ rs) r c = ⊎_elim (λ e. subst (λ x. Contains (f q ∷ map f rs) (f x)) e (here (f q) (map f rs))) (λ x. later (f q) (map f rs) (f r) (mapped rs r x)) (first-or-later q rs r c)

  abbrev From : List Root → Root → Type 0
  From rs y = (x : Root) × (Contains rs x) × (f x ≡ y)

  from-later : (q : Root) (rs : List Root) (y : Root) → From rs y → From (q ∷ rs) y
  from-later q rs y t = (t.0, later q rs t.0 t.1, t.2)

  pub mapped-from : (rs : List Root) (y : Root) → Contains (map f rs) y → From rs y
  mapped-from [] y c = no-element y c
  mapped-from (q ∷ rs) y c = ⊎_elim (λ e. (q, here q rs, e)) (λ m. from-later q rs y (mapped-from rs y m)) (first-or-later (f q) (map f rs) y c)

-- trees, each of which is its value with the trees of the names that it reads
module _ (scope : Parts) (f : Name → Option Expression) (fixed : (n : Name) → f n ≡ option_map (expanded f) (part_named n scope)) where
  abbrev tree : Root → Root
  tree r = expanded_root f r

  outside : (n : Name) → part_named n scope ≡ None → tree (variable n) ≡ variable n
  outside n p = ap (root_named n) (fixed n ∙ ap (option_map (expanded f)) p)

  within : (m : Name) (e : Expression) → part_named m scope ≡ Some e → tree (variable m) ≡ alias m (expanded f e)
  within m e p = ap (root_named m) (fixed m ∙ ap (option_map (expanded f)) p)

  pub in-trees : (rs : List Root) (n : Name) → IsRead scope rs n → IsRead no_parts (map tree rs) n
  in-trees rs n (of_the_host c p) = of_the_host (subst (Contains (map tree rs)) (outside n p) (mapped tree rs (variable n) c)) refl
  in-trees rs n (of_another t c) = of_another t (mapped tree rs (other t n) c)
  in-trees rs n (through m e c p x) =
      in_a_tree m (expanded f e) (subst (Contains (map tree rs)) (within m e p) (mapped tree rs (variable m) c))
      (subst (λ qs. IsRead no_parts qs n) (sym (roots-expanded f e)) (in-trees (roots_in e) n x))
  in-trees rs n (in_a_tree m e c x) =
      in_a_tree m (expanded f e) (mapped tree rs (alias m e) c) (subst (λ qs. IsRead no_parts qs n) (sym (roots-expanded f e)) (in-trees (roots_in e) n x))

  -- which roots have become these
  no-tree : (o : Option Expression) (m n : Name) → root_named m o ≡ variable n → (o ≡ None) × (m ≡ n)
  no-tree None m n h = (refl, cc)
  no-tree (Some e) m n h = absurd (cc)

  some-tree : (o : Option Expression) (m k : Name) (e : Expression) → root_named m o ≡ alias k e → o ≡ Some e
  some-tree None m k e h = absurd (cc)
  some-tree (Some v) m k e h = cc

  no-value : (o : Option Expression) → option_map (expanded f) o ≡ None → o ≡ None
  no-value None h = refl
  no-value (Some e) h = absurd (cc)

  some-value : (o : Option Expression) (e : Expression) → option_map (expanded f) o ≡ Some e → (v : Expression) × (o ≡ Some v) × (expanded f v ≡ e)
  some-value None e h = absurd (cc)
  some-value (Some v) e h = (v, refl, cc)

  from-variable : (rs : List Root) (n : Name) (r : Root) → Contains rs r → tree r ≡ variable n → IsRead scope rs n
  from-variable rs n (variable m) c e =
      let t = no-tree (f m) m n e in
      of_the_host (subst (λ k. Contains rs (variable k)) t.1 c) (subst (λ k. part_named k scope ≡ None) t.1 (no-value (part_named m scope) (sym (fixed m) ∙ t.0)))
  from-variable rs n (alias m v) c e = absurd (cc)
  from-variable rs n (other t m) c e = absurd (cc)
  from-variable rs n (member g i) c e = absurd (cc)

  from-other : (rs : List Root) (n : Name) (t : Term) (r : Root) → Contains rs r → tree r ≡ other t n → IsRead scope rs n
  from-other rs n t (variable m) c e = not-other (f m) e where
    not-other : (o : Option Expression) → root_named m o ≡ other t n → IsRead scope rs n
    not-other None h = absurd (cc)
    not-other (Some v) h = absurd (cc)
  from-other rs n t (alias m v) c e = absurd (cc)
  from-other rs n t (other u m) c e = of_another t (subst (Contains rs) e c)
  from-other rs n t (member g i) c e = absurd (cc)

  from-tree : (rs : List Root) (n k : Name) (v : Expression) (r : Root) → Contains rs r → tree r ≡ alias k v → ((w : Expression) → expanded f w ≡ v → IsRead scope (roots_in w) n) → IsRead scope rs n
  from-tree rs n k v (variable m) c e inner =
      let t = some-value (part_named m scope) v (sym (fixed m) ∙ some-tree (f m) m k v e) in
      through m t.0 c t.1 (inner t.0 t.2)
  from-tree rs n k v (alias m w) c e inner = in_a_tree m w c (inner w cc)
  from-tree rs n k v (other u m) c e inner = absurd (cc)
  from-tree rs n k v (member g i) c e inner = absurd (cc)

  from-trees : (rs qs : List Root) (n : Name) → qs ≡ map tree rs → IsRead no_parts qs n → IsRead scope rs n
  from-trees rs qs n same (of_the_host c p) =
      let t = mapped-from tree rs (variable n) (subst (λ xs. Contains xs (variable n)) same c) in
      from-variable rs n t.0 t.1 t.2
  from-trees rs qs n same (of_another u c) =
      let t = mapped-from tree rs (other u n) (subst (λ xs. Contains xs (other u n)) same c) in
      from-other rs n u t.0 t.1 t.2
  from-trees rs qs n same (through m e c p x) = absurd (cc)
  from-trees rs qs n same (in_a_tree m e c x) =
      let t = mapped-from tree rs (alias m e) (subst (λ xs. Contains xs (alias m e)) same c) in
      from-tree rs n m e t.0 t.1 t.2 (λ w q. from-trees (roots_in w) (roots_in e) n (ap roots_in (sym q) ∙ roots-expanded f w) x)

  pub out-of-trees : (rs : List Root) (n : Name) → IsRead no_parts (map tree rs) n → IsRead scope rs n
  out-of-trees rs n x = from-trees rs (map tree rs) n refl x
