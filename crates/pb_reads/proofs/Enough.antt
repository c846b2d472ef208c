-- The names of `vars` that are reached, worked out in their order, have the trees that all of them have.
use denote.Ref.{Bor}
use Rattle.std.proofs.Common.{◌≡◌, ◌∙◌, ℕ, ◌+◌, ◌<◌, ◌≤◌, length, get_or, drop, List, [], ◌∷◌, ◌++◌, Bool, true, false, not, ◌||◌, bytes_eq, cond, Option, Some, None, option_map, is_some, refl, sym, ap, subst, ◌⊎◌, inl, inr, ⊎_elim, arith}
use Rattle.std.specs.List.{Contains}
use Rattle.std.proofs.lemmas.List.Elements.{Contains-append_cases}
use Rattle.pb_semantics.specs.Keeps.{is_among}
use Rattle.pb_semantics.proofs.Bools.{untrue, true-false, or-cases}
use Rattle.pb_semantics.proofs.Names.{same_name}
use Rattle.pb_language.specs.Expansion.{expanded, expanded_root, part_named, root_named, depth_in}
use Rattle.pb_language.specs.Expression.{Name, Expression, Root, variable, alias, other, member, Parts, no_parts, part}
use Rattle.pb_language.specs.Plays.{append_parts}
use Rattle.pb_language.specs.Rules.{part_names}
use Rattle.pb_syntax.specs.ExprView.{expr_view}
use Rattle.pb_syntax.proofs.Left.{drop-at}
use Rattle.pb_template.specs.declared.entry.Entry.{Entry}
use Rattle.pb_vars.specs.Borrowed.{borrowed_view, entry_name}
use Rattle.pb_syntax.specs.Aliases.{Trees, no_trees, with_tree, trees_after, trees_in, unknown_in, IsInOrder}
use Rattle.pb_reads.specs.Needed.{AreSameAt, IsReached, itself, behind, parts_among}
use Rattle.pb_reads.specs.Reached.{own_names, value_roots, reached}
use Rattle.pb_reads.specs.Roots.{roots_in}
use Rattle.pb_reads.proofs.Reached.{Within, no-element, own-there, there-own}
use Rattle.pb_reads.proofs.Same.{same-expanded}
use Rattle.pb_reads.proofs.Whole.{AreWritten, Closed, known-in}

not-least : 1 ≤ 0 → ⊥
not-least h = omega (arith, h)

zero-least : 0 ≤ 0
zero-least = omega arith

-- a name that is known so far and isn't in scope has no tree
outside : (o : Option Expression) → cond (false || not (is_some o)) 0 1 ≤ 0 → o ≡ None
outside None l = refl
outside (Some e) l = absurd (not-least l)

all-known : (b t : Bool) → (t ≡ true → b ≡ true) → cond (b || not t) 0 1 ≤ 0
all-known true t h = zero-least
all-known false true h = untrue (h refl)
all-known false false h = zero-least

module _ (scope : Parts) (T : Trees) (whole : (n : Name) → T n ≡ option_map (expanded T) (part_named n scope)) (all : List Root) (written : AreWritten all) (closed : Closed scope [] all) where
  abbrev has : Name → Bool
  has n = is_among n (own_names all)

  -- the reached names that are known so far have their trees
  abbrev AreKnown : Trees → List Name → Type 0
  AreKnown f seen = (m : Name) → has m ≡ true → unknown_in scope seen m ≤ 0 → f m ≡ T m

  root-same : (f : Trees) (seen : List Name) → AreKnown f seen → (e : Expression) → depth_in (unknown_in scope seen) e ≤ 0 → Within (roots_in e) all
      → (r : Root) → Contains (roots_in e) r → expanded_root f r ≡ expanded_root T r
  root-same f seen known e l sub (variable m) c = ap (root_named m) (known m (own-there all m (sub (variable m) c)) (known-in (unknown_in scope seen) m e l (own-there (roots_in e) m c)))
  root-same f seen known e l sub (alias m v) c = absurd (written m v (sub (alias m v) c))
  root-same f seen known e l sub (other t x) c = refl
  root-same f seen known e l sub (member g i) c = refl

  one-known : (f : Trees) (seen : List Name) (n m : Name) (x : Expression) (b : Bool) → bytes_eq m n ≡ b → Some x ≡ T n
      → (unknown_in scope seen m ≤ 0 → f m ≡ T m) → cond ((b || is_among m seen) || not (is_some (part_named m scope))) 0 1 ≤ 0 → cond b (Some x) (f m) ≡ T m
  one-known f seen n m x true q tree old l = tree ∙ ap T (sym (same_name m n q))
  one-known f seen n m x false q tree old l = old l

  -- a name that isn't reached is none of them
  not-it : (f : Trees) (seen : List Name) (n m : Name) (b : Bool) → bytes_eq m n ≡ b → has n ≡ false → has m ≡ true
      → (unknown_in scope seen m ≤ 0 → f m ≡ T m) → cond ((b || is_among m seen) || not (is_some (part_named m scope))) 0 1 ≤ 0 → f m ≡ T m
  not-it f seen n m true q out own old l = true-false (has n) (subst (λ x. has x ≡ true) (same_name m n q) own) out
  not-it f seen n m false q out own old l = old l

  -- one name more, reached or not, given what the others come to
  one-more : (seen : List Name) (f : Trees) → AreKnown f seen → (m : Name) (e : Expression) (ps : Parts) → IsInOrder scope seen (part m e ps) → (n : Name) (b : Bool) → has m ≡ b
      → ((more : List Name) (g : Trees) → AreKnown g more → IsInOrder scope more ps → trees_after g (parts_among has ps) n ≡ T n)
      → trees_after f (cond b (part m e (parts_among has ps)) (parts_among has ps)) n ≡ T n
  one-more seen f known m e ps h n true there others =
      let same : expanded f e ≡ expanded T e = same-expanded f T e (root-same f seen known e h.1 (closed m e there h.0 refl)) in
      let tree : Some (expanded f e) ≡ T m = ap Some same ∙ sym (whole m ∙ ap (option_map (expanded T)) h.0) in
      others (m ∷ seen) (with_tree f m (expanded f e)) (λ p own-p l. one-known f seen m p (expanded f e) (bytes_eq p m) refl tree (known p own-p) l) h.2
  one-more seen f known m e ps h n false out others = others (m ∷ seen) f (λ p own-p l. not-it f seen m p (bytes_eq p m) refl out own-p (known p own-p) l) h.2

  in-order : (seen : List Name) (f : Trees) → AreKnown f seen → (ps : Parts) → IsInOrder scope seen ps → (n : Name) → has n ≡ true → trees_after f (parts_among has ps) n ≡ T n
  in-order seen f known no_parts h n own = known n own (all-known (is_among n seen) (is_some (part_named n scope)) (h n))
  in-order seen f known (part m e ps) h n own = one-more seen f known m e ps h n (has m) refl (λ more g k o. in-order more g k ps o n own)

  none-known : AreKnown no_trees []
  none-known m own l = sym (whole m ∙ ap (option_map (expanded T)) (outside (part_named m scope) l))

  pub same-at : (ps : Parts) → IsInOrder scope [] ps → (rs : List Root) → Within rs all → (r : Root) → Contains rs r → expanded_root (trees_in (parts_among has ps)) r ≡ expanded_root T r
  same-at ps order rs sub (variable m) c = ap (root_named m) (in-order [] no_trees none-known ps order m (own-there all m (sub (variable m) c)))
  same-at ps order rs sub (alias m v) c = absurd (written m v (sub (alias m v) c))
  same-at ps order rs sub (other t x) c = refl
  same-at ps order rs sub (member g i) c = refl

-- what the roots reach that were put to others, those others reach
module _ (scope : Parts) where
  reach-cases : (rs qs : List Root) (n : Name) → IsReached scope (rs ++ qs) n → IsReached scope rs n ⊎ IsReached scope qs n
  reach-cases rs qs n (itself c) = ⊎_elim (λ x. inl (itself x)) (λ x. inr (itself x)) (Contains-append_cases rs qs _ c)
  reach-cases rs qs n (behind m e c p x) = ⊎_elim (λ y. inl (behind m e y p x)) (λ y. inr (behind m e y p x)) (Contains-append_cases rs qs _ c)

  reach-none : {A : Type 0} (rs : List Root) (n : Name) → rs ≡ [] → IsReached scope rs n → A
  reach-none rs n e (itself c) = no-element (variable n) (subst (λ xs. Contains xs (variable n)) e c)
  reach-none rs n e (behind m v c p x) = no-element (variable m) (subst (λ xs. Contains xs (variable m)) e c)

  value-reached : (k : Name) (rs : List Root) (n : Name) (o : Option Expression) → part_named k scope ≡ o → is_among k (own_names rs) ≡ true → IsReached scope (value_roots o) n → IsReached scope rs n
  value-reached k rs n None p own x = reach-none [] n refl x
  value-reached k rs n (Some e) p own x = behind k e (there-own rs k own) p x

  value-back : (k : Name) (rs : List Root) (n : Name) (b : Bool) → is_among k (own_names rs) ≡ b → IsReached scope (cond b (rs ++ value_roots (part_named k scope)) rs) n → IsReached scope rs n
  value-back k rs n true own x = ⊎_elim (λ y. y) (λ y. value-reached k rs n (part_named k scope) refl own y) (reach-cases rs (value_roots (part_named k scope)) n x)
  value-back k rs n false own x = x

  reached-back : (ps : Parts) (rs : List Root) (n : Name) → IsReached scope (reached scope ps rs) n → IsReached scope rs n
  reached-back no_parts rs n x = x
  reached-back (part k v ps) rs n x = reached-back ps rs n (value-back k (reached scope ps rs) n (is_among k (own_names (reached scope ps rs))) refl x)

  among-kept : (f : Name → Bool) (n : Name) (ps : Parts) → is_among n (part_names (parts_among f ps)) ≡ true → f n ≡ true
  among-kept f n no_parts h = untrue h
  among-kept f n (part m e ps) h = by-name (f m) refl h (among-kept f n ps) where
    by-name : (b : Bool) → f m ≡ b → is_among n (part_names (cond b (part m e (parts_among f ps)) (parts_among f ps))) ≡ true → (is_among n (part_names (parts_among f ps)) ≡ true → f n ≡ true) → f n ≡ true
    by-name true q x rest = ⊎_elim (λ y. ap f (same_name n m y) ∙ q) rest (or-cases (bytes_eq n m) (is_among n (part_names (parts_among f ps))) x)
    by-name false q x rest = rest x

  pub kept-is-reached : (order ps : Parts) (rs : List Root) (n : Name) → is_among n (part_names (parts_among (λ m. is_among m (own_names (reached scope order rs))) ps)) ≡ true → IsReached scope rs n
  kept-is-reached order ps rs n h =
      reached-back order rs n (itself (there-own (reached scope order rs) n (among-kept (λ m. is_among m (own_names (reached scope order rs))) n ps h)))

-- one entry more of a list, kept or passed over
append-none : (ps : Parts) → append_parts ps no_parts ≡ ps
append-none no_parts = refl
append-none (part n e ps) = ap (part n e) (append-none ps)

pushed : (es : List (Bor Entry)) (e : Bor Entry) (ps : Parts) → append_parts (borrowed_view (es ++ e ∷ [])) ps ≡ append_parts (borrowed_view es) (part (entry_name e) (expr_view e.now.value) ps)
pushed [] e ps = refl
pushed (x ∷ es) e ps = ap (part (entry_name x) (expr_view x.now.value)) (pushed es e ps)

module _ (f : Name → Bool) (all : Parts) (found : List (Bor Entry)) (es : List (Bor Entry)) (i : ℕ) (e : Bor Entry) (lt : i < length es) (at : e ≡ get_or es i e) where
  left : borrowed_view (drop i es) ≡ part (entry_name e) (expr_view e.now.value) (borrowed_view (drop (i + 1) es))
  left = ap borrowed_view (drop-at es i e lt at)

  pub entry-kept : (new : List (Bor Entry)) → new ≡ found ++ e ∷ [] → f (entry_name e) ≡ true → all ≡ append_parts (borrowed_view found) (parts_among f (borrowed_view (drop i es)))
      → all ≡ append_parts (borrowed_view new) (parts_among f (borrowed_view (drop (i + 1) es)))
  entry-kept new put has inv =
      let rest = parts_among f (borrowed_view (drop (i + 1) es)) in
      inv ∙ ap (λ ps. append_parts (borrowed_view found) (parts_among f ps)) left
      ∙ ap (λ b. append_parts (borrowed_view found) (cond b (part (entry_name e) (expr_view e.now.value) rest) rest)) has ∙ sym (pushed found e rest) ∙ ap (λ xs. append_parts (borrowed_view xs) rest) (sym put)

  pub entry-passed : f (entry_name e) ≡ false → all ≡ append_parts (borrowed_view found) (parts_among f (borrowed_view (drop i es)))
      → all ≡ append_parts (borrowed_view found) (parts_among f (borrowed_view (drop (i + 1) es)))
  entry-passed has inv =
      let rest = parts_among f (borrowed_view (drop (i + 1) es)) in
      inv ∙ ap (λ ps. append_parts (borrowed_view found) (parts_among f ps)) left ∙ ap (λ b. append_parts (borrowed_view found) (cond b (part (entry_name e) (expr_view e.now.value) rest) rest)) has

pub entries-done : (f : Name → Bool) (all : Parts) (found es : List (Bor Entry)) (i : ℕ) → drop i es ≡ [] → all ≡ append_parts (borrowed_view found) (parts_among f (borrowed_view (drop i es))) → borrowed_view found ≡ all
entries-done f all found es i nil inv = sym (inv ∙ ap (λ xs. append_parts (borrowed_view found) (parts_among f (borrowed_view xs))) nil ∙ append-none (borrowed_view found))
