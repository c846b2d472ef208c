-- Names whose chains are short: what they expand to is the same, however many names it may go through.
use Rattle.std.proofs.Common.{◌≡◌, ℕ, zero, suc, ◌≤◌, max, Option, Some, None, option_map, refl, sym, ap, ◌∙◌, arith}
use Rattle.std.proofs.Math.Path.{fun_ext}
use Rattle.pb_language.specs.Expression.{Name, Expression, literal, path, hostvars_alone, negation, conjunction, disjunction, comparison, membership, in_batch, defined, undefinable, path_status, value_status, path_or, value_or, length_of, joined_by, concatenation, list_of, record_of, Root, variable, alias, other, member, Expressions, no_expressions, expression, Parts, no_parts, part}
use Rattle.pb_language.specs.Expansion.{expanded, expanded_root, all_expanded, parts_expanded, root_named, part_named, tree_of, trees, depth_in, root_depth, depth_in_all, depth_in_parts, suc_depth, chain_length}

both-args : {A B C : Type 0} (f : A → B → C) {a c : A} {b d : B} → a ≡ c → b ≡ d → f a b ≡ f c d
both-args f {c = c} {b = b} p q = ap (λ x. f x b) p ∙ ap (f c) q

left-least : (m n b : ℕ) → max m n ≤ b → m ≤ b
left-least m n b h = omega (arith, h)

right-least : (m n b : ℕ) → max m n ≤ b → n ≤ b
right-least m n b h = omega (arith, h)

-- names whose numbers are small enough have one tree under both
module _ (f g : Name → Option Expression) (h : Name → ℕ) (b : ℕ) (s : (m : Name) → h m ≤ b → f m ≡ g m) where
  mutual
    pub same-expanded : (e : Expression) → depth_in h e ≤ b → expanded f e ≡ expanded g e
    same-expanded (literal d) l = refl
    same-expanded (path r ns) l = ap (λ x. path x ns) (same-root r l)
    same-expanded (hostvars_alone o) l = refl
    same-expanded (negation e) l = ap negation (same-expanded e l)
    same-expanded (conjunction es) l = ap conjunction (same-all es l)
    same-expanded (disjunction es) l = ap disjunction (same-all es l)
    same-expanded (comparison c x y) l = both-args (comparison c) (same-expanded x (left-least _ (depth_in h y) b l)) (same-expanded y (right-least (depth_in h x) _ b l))
    same-expanded (membership x y) l = both-args membership (same-expanded x (left-least _ (depth_in h y) b l)) (same-expanded y (right-least (depth_in h x) _ b l))
    same-expanded (in_batch t) l = refl
    same-expanded (defined r ns) l = ap (λ x. defined x ns) (same-root r l)
    same-expanded (undefinable e) l = ap undefinable (same-expanded e l)
    same-expanded (path_status q r ns) l = ap (λ x. path_status q x ns) (same-root r l)
    same-expanded (value_status q e) l = ap (value_status q) (same-expanded e l)
    same-expanded (path_or r ns y) l = both-args (λ x z. path_or x ns z) (same-root r (left-least _ (depth_in h y) b l)) (same-expanded y (right-least (root_depth h r) _ b l))
    same-expanded (value_or x y) l = both-args value_or (same-expanded x (left-least _ (depth_in h y) b l)) (same-expanded y (right-least (depth_in h x) _ b l))
    same-expanded (length_of e) l = ap length_of (same-expanded e l)
    same-expanded (joined_by x y) l = both-args joined_by (same-expanded x (left-least _ (depth_in h y) b l)) (same-expanded y (right-least (depth_in h x) _ b l))
    same-expanded (concatenation es) l = ap concatenation (same-all es l)
    same-expanded (list_of es) l = ap list_of (same-all es l)
    same-expanded (record_of ps) l = ap record_of (same-parts ps l)

    same-root : (r : Root) → root_depth h r ≤ b → expanded_root f r ≡ expanded_root g r
    same-root (variable n) l = ap (root_named n) (s n l)
    same-root (alias n e) l = ap (alias n) (same-expanded e l)
    same-root (other t x) l = refl
    same-root (member q n) l = refl

    same-all : (es : Expressions) → depth_in_all h es ≤ b → all_expanded f es ≡ all_expanded g es
    same-all no_expressions l = refl
    same-all (expression e es) l = both-args expression (same-expanded e (left-least _ (depth_in_all h es) b l)) (same-all es (right-least (depth_in h e) _ b l))

    same-parts : (ps : Parts) → depth_in_parts h ps ≤ b → parts_expanded f ps ≡ parts_expanded g ps
    same-parts no_parts l = refl
    same-parts (part n e ps) l = both-args (part n) (same-expanded e (left-least _ (depth_in_parts h ps) b l)) (same-parts ps (right-least (depth_in h e) _ b l))

not-least : (m : ℕ) → suc m ≤ 0 → ⊥
not-least m h = omega (arith, h)

suc-least : (k m : ℕ) → suc m ≤ suc k → m ≤ k
suc-least k m h = omega (arith, h)

first-step : (f : Name → Option Expression) (t : Option Expression) (h : Name → ℕ) → suc_depth (depth_in h) t ≤ 0 → option_map (expanded f) t ≡ None
first-step f None h l = refl
first-step f (Some e) h l = absurd (not-least (depth_in h e) l)

next-step : (f g : Name → Option Expression) (h : Name → ℕ) (k : ℕ) → ((m : Name) → h m ≤ k → f m ≡ g m) → (t : Option Expression) → suc_depth (depth_in h) t ≤ suc k
    → option_map (expanded f) t ≡ option_map (expanded g) t
next-step f g h k s None l = refl
next-step f g h k s (Some e) l = ap Some (same-expanded f g h k s e (suc-least k (depth_in h e) l))

-- a chain of at most so many names is whole after as many
whole-after : (k : ℕ) (scope : Parts) (n : Name) → chain_length (suc k) scope n ≤ k → tree_of (suc k) scope n ≡ tree_of k scope n
whole-after zero scope n l = first-step (tree_of zero scope) (part_named n scope) (chain_length zero scope) l
whole-after (suc k) scope n l =
    next-step (tree_of (suc k) scope) (tree_of k scope) (chain_length (suc k) scope) k (whole-after k scope) (part_named n scope) l

abbrev AreWhole : ℕ → Parts → Type 0
AreWhole k scope = tree_of (suc k) scope ≡ tree_of k scope

whole-next : (k : ℕ) (scope : Parts) → AreWhole k scope → AreWhole (suc k) scope
whole-next k scope h = ap (λ f n. option_map (expanded f) (part_named n scope)) h

-- where no chain is too long, each tree is its value, with the trees of the names that it reads
pub trees-whole : (scope : Parts) → ((n : Name) → chain_length 9 scope n ≤ 8) → (n : Name) → trees scope n ≡ option_map (expanded (trees scope)) (part_named n scope)
trees-whole scope short =
    let w8 : AreWhole 8 scope = fun_ext (λ n. whole-after 8 scope n (short n)) in
    let w12 : AreWhole 12 scope = whole-next 11 scope (whole-next 10 scope (whole-next 9 scope (whole-next 8 scope w8))) in
    let w16 : AreWhole 16 scope = whole-next 15 scope (whole-next 14 scope (whole-next 13 scope (whole-next 12 scope w12))) in
    λ n. sym (ap (λ f. f n) (whole-next 16 scope w16))
