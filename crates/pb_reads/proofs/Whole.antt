-- All that is read is told, where each name of `vars` stands behind those that its value reads.
use Rattle.std.proofs.Common.{◌≡◌, ◌∙◌, ℕ, ◌≤◌, max, List, [], ◌∷◌, ◌++◌, Bool, true, false, not, ◌||◌, bytes_eq, cond, Option, Some, None, is_some, refl, sym, ap, subst, ◌⊎◌, ⊎_elim, arith}
use Rattle.std.specs.List.{Contains}
use Rattle.std.proofs.lemmas.List.Elements.{Contains-append_left, Contains-append_right}
use Rattle.pb_semantics.specs.Keeps.{is_among}
use Rattle.pb_semantics.proofs.Bools.{untrue, true-false}
use Rattle.pb_semantics.proofs.Names.{same_name}
use Rattle.pb_language.specs.Expansion.{part_named, depth_in, root_depth, depth_in_all, depth_in_parts}
use Rattle.pb_language.specs.Expression.{Name, Expression, literal, path, hostvars_alone, negation, conjunction, disjunction, comparison, membership, in_batch, defined, undefinable, path_status, value_status, path_or, value_or, length_of, joined_by, concatenation, list_of, record_of, Term, Root, variable, alias, other, member, Expressions, no_expressions, expression, Parts, no_parts, part}
use denote.Ref.{Bor}
use Rattle.pb_syntax.specs.ExprView.{root_view}
use Rattle.pb_syntax.specs.declared.expr.Root.{Root as WrittenRoot}
use Rattle.pb_syntax.specs.declared.expr.Root.TheVariants as roots
use Rattle.pb_reads.specs.RootsView.{roots_view}
use Rattle.pb_syntax.specs.Aliases.{unknown_in, IsInOrder}
use Rattle.pb_reads.specs.Roots.{roots_in, all_roots, part_roots}
use Rattle.pb_reads.specs.Reads.{IsRead, of_the_host, of_another, through, in_a_tree}
use Rattle.pb_reads.specs.Reached.{own_name, own_names, value_roots, with_value, reached, told_name, told_names}
use Rattle.pb_reads.proofs.Reached.{Within, among-first, among-second, among-itself, among-one, first-or-later, no-element, own-cases, own-there}

left-least : (m n : ℕ) → max m n ≤ 0 → m ≤ 0
left-least m n h = omega (arith, h)

right-least : (m n : ℕ) → max m n ≤ 0 → n ≤ 0
right-least m n h = omega (arith, h)

-- the own names of an expression that reads none but known ones are known
module _ (f : Name → ℕ) (n : Name) where
  abbrev Has : List Root → Type 0
  Has rs = is_among n (own_names rs) ≡ true

  two : (rs qs : List Root) → (Has rs → f n ≤ 0) → (Has qs → f n ≤ 0) → Has (rs ++ qs) → f n ≤ 0
  two rs qs a b h = ⊎_elim a b (own-cases n rs qs h)

  mutual
    pub known-in : (e : Expression) → depth_in f e ≤ 0 → Has (roots_in e) → f n ≤ 0
    known-in (literal d) l h = untrue h
    known-in (path r ns) l h = known-root r l h
    known-in (hostvars_alone o) l h = untrue h
    known-in (negation e) l h = known-in e l h
    known-in (conjunction es) l h = known-all es l h
    known-in (disjunction es) l h = known-all es l h
    known-in (comparison c x y) l h = two (roots_in x) (roots_in y) (λ g. known-in x (left-least _ (depth_in f y) l) g) (λ g. known-in y (right-least (depth_in f x) _ l) g) h
    known-in (membership x y) l h = two (roots_in x) (roots_in y) (λ g. known-in x (left-least _ (depth_in f y) l) g) (λ g. known-in y (right-least (depth_in f x) _ l) g) h
    known-in (in_batch t) l h = untrue h
    known-in (defined r ns) l h = known-root r l h
    known-in (undefinable e) l h = known-in e l h
    known-in (path_status q r ns) l h = known-root r l h
    known-in (value_status q e) l h = known-in e l h
    known-in (path_or r ns y) l h = two (r ∷ []) (roots_in y) (λ g. known-root r (left-least _ (depth_in f y) l) g) (λ g. known-in y (right-least (root_depth f r) _ l) g) h
    known-in (value_or x y) l h = two (roots_in x) (roots_in y) (λ g. known-in x (left-least _ (depth_in f y) l) g) (λ g. known-in y (right-least (depth_in f x) _ l) g) h
    known-in (length_of e) l h = known-in e l h
    known-in (joined_by x y) l h = two (roots_in x) (roots_in y) (λ g. known-in x (left-least _ (depth_in f y) l) g) (λ g. known-in y (right-least (depth_in f x) _ l) g) h
    known-in (concatenation es) l h = known-all es l h
    known-in (list_of es) l h = known-all es l h
    known-in (record_of ps) l h = known-parts ps l h

    known-root : (r : Root) → root_depth f r ≤ 0 → Has (r ∷ []) → f n ≤ 0
    known-root (variable m) l h = rw (among-one n m h) l
    known-root (alias m e) l h = untrue h
    known-root (other t m) l h = untrue h
    known-root (member g i) l h = untrue h

    known-all : (es : Expressions) → depth_in_all f es ≤ 0 → Has (all_roots es) → f n ≤ 0
    known-all no_expressions l h = untrue h
    known-all (expression e es) l h = two (roots_in e) (all_roots es) (λ g. known-in e (left-least _ (depth_in_all f es) l) g) (λ g. known-all es (right-least (depth_in f e) _ l) g) h

    known-parts : (ps : Parts) → depth_in_parts f ps ≤ 0 → Has (part_roots ps) → f n ≤ 0
    known-parts no_parts l h = untrue h
    known-parts (part m e ps) l h = two (roots_in e) (part_roots ps) (λ g. known-in e (left-least _ (depth_in_parts f ps) l) g) (λ g. known-parts ps (right-least (depth_in f e) _ l) g) h

-- a name of `vars` that isn't known isn't read
not-known : {A : Type 0} (a b : Bool) → a ≡ false → b ≡ true → cond (a || not b) 0 1 ≤ 0 → A
not-known true b p q l = untrue (sym p)
not-known false false p q l = untrue q
not-known false true p q l = absurd (none l) where
  none : 1 ≤ 0 → ⊥
  none m = omega (arith, m)

there-is : (o : Option Expression) (e : Expression) → o ≡ Some e → is_some o ≡ true
there-is o e p = ap is_some p

-- the values of names that aren't among these have all their roots there
abbrev pub Closed : Parts → List Name → List Root → Type 0
Closed scope seen rs = (m : Name) (e : Expression) → is_among m (own_names rs) ≡ true → part_named m scope ≡ Some e → is_among m seen ≡ false → Within (roots_in e) rs

closed-step : (scope : Parts) (seen : List Name) (k : Name) (v : Expression) (rs : List Root) (b : Bool) → is_among k (own_names rs) ≡ b → part_named k scope ≡ Some v → depth_in (unknown_in scope seen) v ≤ 0
    → Closed scope (k ∷ seen) rs → Closed scope seen (cond b (rs ++ value_roots (part_named k scope)) rs)
closed-step scope seen k v rs false is named known old m e own here new = old m e own here (other-name (bytes_eq m k) refl) where
  other-name : (b : Bool) → bytes_eq m k ≡ b → bytes_eq m k || is_among m seen ≡ false
  other-name true q = true-false (is_among k (own_names rs)) (subst (λ x. is_among x (own_names rs) ≡ true) (same_name m k q) own) is
  other-name false q = ap (λ x. x || is_among m seen) q ∙ new
closed-step scope seen k v rs true is named known old m e own here new = ⊎_elim first second (own-cases m rs (value_roots (part_named k scope)) own) where
  same : m ≡ k → Within (roots_in e) (rs ++ value_roots (part_named k scope))
  same q r c =
      let roots : value_roots (part_named k scope) ≡ roots_in e = ap value_roots (ap (λ x. part_named x scope) (sym q) ∙ here) in
      Contains-append_right rs (value_roots (part_named k scope)) r (subst (λ xs. Contains xs r) (sym roots) c)

  by-name : (b : Bool) → bytes_eq m k ≡ b → is_among m (own_names rs) ≡ true → Within (roots_in e) (rs ++ value_roots (part_named k scope))
  by-name true q x r c = same (same_name m k q) r c
  by-name false q x r c = Contains-append_left rs (value_roots (part_named k scope)) r (old m e x here (ap (λ y. y || is_among m seen) q ∙ new) r c)

  first : is_among m (own_names rs) ≡ true → Within (roots_in e) (rs ++ value_roots (part_named k scope))
  first x = by-name (bytes_eq m k) refl x

  second : is_among m (own_names (value_roots (part_named k scope))) ≡ true → Within (roots_in e) (rs ++ value_roots (part_named k scope))
  second x =
      let there : is_among m (own_names (roots_in v)) ≡ true = ap (λ o. is_among m (own_names (value_roots o))) (sym named) ∙ x in
      not-known (is_among m seen) (is_some (part_named m scope)) new (there-is (part_named m scope) e here) (known-in (unknown_in scope seen) m v known there)

pub closed-all : (scope : Parts) (seen : List Name) (ps : Parts) → IsInOrder scope seen ps → (rs : List Root) → Closed scope seen (reached scope ps rs)
closed-all scope seen no_parts h rs m e own here new = true-false (is_among m seen) (h m (there-is (part_named m scope) e here)) new
closed-all scope seen (part k v ps) h rs m e own here new =
    closed-step scope seen k v (reached scope ps rs) (is_among k (own_names (reached scope ps rs))) refl h.0 h.1 (closed-all scope (k ∷ seen) ps h.2 rs) m e own here new

-- those that were there are still there
kept-step : (rs qs : List Root) (b : Bool) (r : Root) → Contains rs r → Contains (cond b (rs ++ qs) rs) r
kept-step rs qs true r c = Contains-append_left rs qs r c
kept-step rs qs false r c = c

pub kept : (scope ps : Parts) (rs : List Root) (r : Root) → Contains rs r → Contains (reached scope ps rs) r
kept scope no_parts rs r c = c
kept scope (part k v ps) rs r c = kept-step (reached scope ps rs) (value_roots (part_named k scope)) (is_among k (own_names (reached scope ps rs))) r (kept scope ps rs r c)

-- variables that are there are told
told-at : (scope : Parts) (rs : List Root) (r : Root) (n : Name) → is_among n (told_name scope r) ≡ true → Contains rs r → is_among n (told_names scope rs) ≡ true
told-at scope [] r n t c = no-element r c
told-at scope (q ∷ rs) r n t c =
    ⊎_elim (λ e. among-first n (told_name scope q) (told_names scope rs) (subst (λ x. is_among n (told_name scope x) ≡ true) (sym e) t))
    (λ x. among-second n (told_name scope q) (told_names scope rs) (told-at scope rs r n t x)) (first-or-later q rs r c)

told-outside : (scope : Parts) (n : Name) → part_named n scope ≡ None → is_among n (told_name scope (variable n)) ≡ true
told-outside scope n p = ap (λ o. is_among n (cond (is_some o) [] (n ∷ []))) p ∙ among-itself n

-- none of these stands with its tree
abbrev pub AreWritten : List Root → Type 0
AreWritten rs = (m : Name) (e : Expression) → Contains rs (alias m e) → ⊥

all-told : (scope : Parts) (all rs : List Root) (n : Name) → AreWritten all → Closed scope [] all → Within rs all → IsRead scope rs n → is_among n (told_names scope all) ≡ true
all-told scope all rs n written closed sub (of_the_host c p) = told-at scope all (variable n) n (told-outside scope n p) (sub (variable n) c)
all-told scope all rs n written closed sub (of_another t c) = told-at scope all (other t n) n (among-itself n) (sub (other t n) c)
all-told scope all rs n written closed sub (through m e c p x) = all-told scope all (roots_in e) n written closed (closed m e (own-there all m (sub (variable m) c)) p refl) x
all-told scope all rs n written closed sub (in_a_tree m e c x) = absurd (written m e (sub (alias m e) c))

pub read-is-told : (scope ps : Parts) (rs : List Root) (n : Name) → AreWritten (reached scope ps rs) → IsInOrder scope [] ps → IsRead scope rs n → is_among n (told_names scope (reached scope ps rs)) ≡ true
read-is-told scope ps rs n written order x = all-told scope (reached scope ps rs) rs n written (closed-all scope [] ps order rs) (λ r c. kept scope ps rs r c) x

-- a root that is written is no tree
not-a-tree : (r : WrittenRoot) (m : Name) (e : Expression) → root_view r ≡ alias m e → ⊥
not-a-tree (roots.Variable n) m e h = absurd (cc)
not-a-tree (roots.Other t x) m e h = absurd (cc)
not-a-tree (roots.Member g) m e h = absurd (cc)

pub written : (rs : List (Bor WrittenRoot)) → AreWritten (roots_view rs)
written [] m e c = no-element (alias m e) c
written (r ∷ rs) m e c = ⊎_elim (not-a-tree r.now m e) (written rs m e) (first-or-later (root_view r.now) (roots_view rs) (alias m e) c)
