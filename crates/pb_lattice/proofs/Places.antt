-- The trees of a table, when it grows.
use Rattle.std.proofs.Common.{◌≡◌, ℕ, zero, suc, ◌+◌, ◌<◌, ◌≤◌, List, [], ◌∷◌, ◌++◌, length, Bool, true, ◌&&◌, nat_lt, slice_index_or, Option, Some, None, ◌⊎◌, inl, inr, refl, sym, ap, ap₂, ◌∙◌, subst, arith}
use Rattle.std.proofs.lemmas.List.{get_or_append_left, get_or_push, length_push}
use Rattle.std.proofs.lemmas.Bool.Decides.{nat_tests}
use Rattle.pb_semantics.proofs.Bools.{and-left, and-right, and-both}
use Rattle.pb_lattice.specs.Trees.{Tree, bare, fork, WellTree}
use Rattle.pb_lattice.specs.Arena.{part_view, trees_from, tree_at, are_parts_below, are_made_below, is_grounded_from, IsMade, IsTable, IsGrown, IsNew}
use Rattle.pb_lattice.specs.declared.tree.Part.{Part}
use Rattle.pb_lattice.specs.declared.tree.Part.TheVariants as part
use Rattle.pb_lattice.specs.declared.tree.Node.{Node}

pub is_less : (k i : ℕ) → nat_lt k i ≡ true → k < i
is_less k i e = grind (arith, nat_tests)

-- a level asks only for what stands before it
pub agree : (f g : ℕ → Tree) (b : ℕ) → ((i : ℕ) → i < b → f i ≡ g i) → (p : Part) → are_parts_below b p ≡ true → part_view f p ≡ part_view g p
agree f g b h part.Bare e = refl
agree f g b h (part.Known s) e = refl
agree f g b h (part.Fork l r) e =
    ap₂ fork (h l (is_less l b (and-left (nat_lt l b) (nat_lt r b) e))) (h r (is_less r b (and-right (nat_lt l b) (nat_lt r b) e)))

length-more : (ts : List Tree) (x : Tree) → length (ts ++ x ∷ []) ≡ suc (length ts)
length-more [] x = refl
length-more (t ∷ ts) x = ap suc (length-more ts x)

-- what is known stays
stays : (ts : List Tree) (ns : List Node) (i : ℕ) → i < length ts → slice_index_or (trees_from ts ns) i bare ≡ slice_index_or ts i bare
stays ts [] i h = refl
stays ts (n ∷ ns) i h =
    let x = part_view (λ j. slice_index_or ts j bare) n.part in
    let longer : i < length (ts ++ x ∷ []) = omega (arith, h, length-more ts x) in
    stays (ts ++ x ∷ []) ns i longer ∙ get_or_append_left ts (x ∷ []) bare i h

last : (ts : List Tree) (x : Tree) → slice_index_or (ts ++ x ∷ []) (length ts) bare ≡ x
last [] x = refl
last (t ∷ ts) x = last ts x

abbrev are_below : ℕ → Node → Bool
are_below i n = are_parts_below i n.part && are_made_below i n.of

-- one level of the tree at a place
unroll : (ts : List Tree) (ns : List Node) (j i : ℕ) (d : Node) → i ≡ length ts + j → j < length ns → is_grounded_from (length ts) ns ≡ true
    → (slice_index_or (trees_from ts ns) i bare ≡ part_view (λ k. slice_index_or (trees_from ts ns) k bare) (slice_index_or ns j d).part)
    × (are_below i (slice_index_or ns j d) ≡ true)
unroll ts [] zero i d at h e = elim h [ ]
unroll ts [] (suc j) i d at h e = elim h [ ]
unroll ts (n ∷ ns) zero i d at h e =
    let x = part_view (λ k. slice_index_or ts k bare) n.part in
    let here = and-left (are_below (length ts) n) (is_grounded_from (suc (length ts)) ns) e in
    let all = trees_from (ts ++ x ∷ []) ns in
    let within : length ts < length (ts ++ x ∷ []) = omega (arith, length-more ts x) in
    let place : length ts ≡ i = omega (arith, at) in
    let level : slice_index_or all (length ts) bare ≡ part_view (λ k. slice_index_or all k bare) n.part =
    stays (ts ++ x ∷ []) ns (length ts) within ∙ last ts x
    ∙ agree (λ k. slice_index_or ts k bare) (λ k. slice_index_or all k bare) (length ts) (λ k lt. sym (stays ts (n ∷ ns) k lt)) n.part
    (and-left (are_parts_below (length ts) n.part) (are_made_below (length ts) n.of) here) in
    (subst (λ k. slice_index_or all k bare ≡ part_view (λ k. slice_index_or all k bare) n.part) place level, subst (λ k. are_below k n ≡ true) place here)
unroll ts (n ∷ ns) (suc j) i d at h e =
    let x = part_view (λ k. slice_index_or ts k bare) n.part in
    let rest = and-right (are_below (length ts) n) (is_grounded_from (suc (length ts)) ns) e in
    let more = length-more ts x in
    let place : i ≡ length (ts ++ x ∷ []) + j = omega (arith, more, at) in
    let within : j < length ns = omega (arith, h) in
    unroll (ts ++ x ∷ []) ns j i d place within (subst (λ k. is_grounded_from k ns ≡ true) (sym more) rest)

pub level : (ns : List Node) (i : ℕ) (d : Node) → i < length ns → is_grounded_from 0 ns ≡ true
    → (tree_at ns i ≡ part_view (tree_at ns) (slice_index_or ns i d).part) × (are_parts_below i (slice_index_or ns i d).part ≡ true) × (are_made_below i (slice_index_or ns i d).of ≡ true)
level ns i d h e =
    let at = unroll [] ns i i d (omega arith) h e in
    let n = slice_index_or ns i d in
    (at.0, and-left (are_parts_below i n.part) (are_made_below i n.of) at.1, and-right (are_parts_below i n.part) (are_made_below i n.of) at.1)

trees_from-append : (ts : List Tree) (ns : List Node) (n : Node) → trees_from ts (ns ++ n ∷ []) ≡ trees_from ts ns ++ part_view (λ i. slice_index_or (trees_from ts ns) i bare) n.part ∷ []
trees_from-append ts [] n = refl
trees_from-append ts (m ∷ ns) n = trees_from-append (ts ++ part_view (λ i. slice_index_or ts i bare) m.part ∷ []) ns n

length-trees_from : (ts : List Tree) (ns : List Node) → length (trees_from ts ns) ≡ length ts + length ns
length-trees_from ts [] = omega arith
length-trees_from ts (n ∷ ns) =
    let x = part_view (λ i. slice_index_or ts i bare) n.part in
    let more = length-more ts x in
    omega (arith, more, length-trees_from (ts ++ x ∷ []) ns)

-- a new tree leaves the others
pub tree-others : (ns : List Node) (n : Node) (j : ℕ) → j < length ns → tree_at (ns ++ n ∷ []) j ≡ tree_at ns j
tree-others ns n j h =
    let size = length-trees_from [] ns in
    let within : j < length (trees_from [] ns) = omega (arith, size, h) in
    ap (λ ts. slice_index_or ts j bare) (trees_from-append [] ns n) ∙ get_or_append_left (trees_from [] ns) _ bare j within

pub tree-last : (ns : List Node) (n : Node) → tree_at (ns ++ n ∷ []) (length ns) ≡ part_view (tree_at ns) n.part
tree-last ns n =
    let size : length (trees_from [] ns) ≡ length ns = omega (arith, length-trees_from [] ns) in
    ap (λ ts. slice_index_or ts (length ns) bare) (trees_from-append [] ns n)
    ∙ subst (λ k. slice_index_or (trees_from [] ns ++ part_view (tree_at ns) n.part ∷ []) k bare ≡ part_view (tree_at ns) n.part) size (last (trees_from [] ns) (part_view (tree_at ns) n.part))

grounded-append : (i : ℕ) (ns : List Node) (n : Node) → is_grounded_from i ns ≡ true → are_below (i + length ns) n ≡ true → is_grounded_from i (ns ++ n ∷ []) ≡ true
grounded-append i [] n e b =
    let place : i + 0 ≡ i = omega arith in
    and-both (are_below i n) true (subst (λ k. are_below k n ≡ true) place b) refl
grounded-append i (m ∷ ns) n e b =
    let place : i + suc (length ns) ≡ suc i + length ns = omega arith in
    and-both (are_below i m) (is_grounded_from (suc i) (ns ++ n ∷ [])) (and-left (are_below i m) (is_grounded_from (suc i) ns) e)
    (grounded-append (suc i) ns n (and-right (are_below i m) (is_grounded_from (suc i) ns) e) (subst (λ k. are_below k n ≡ true) place b))

made-grown : (f g : ℕ → Tree) (t u : Tree) (b : ℕ) (o : Option (ℕ × ℕ)) → ((i : ℕ) → i < b → g i ≡ f i) → u ≡ t → are_made_below b o ≡ true → IsMade f t o → IsMade g u o
made-grown f g t u b None h e lt m = tt
made-grown f g t u b (Some p) h e lt m =
    let first = h p.0 (is_less p.0 b (and-left (nat_lt p.0 b) (nat_lt p.1 b) lt)) in
    let second = h p.1 (is_less p.1 b (and-right (nat_lt p.0 b) (nat_lt p.1 b) lt)) in
    (rw (first, e) m.0, rw (second, e) m.1)

before : (o : Option (ℕ × ℕ)) (i k : ℕ) → i ≤ k → are_made_below i o ≡ true → are_made_below k o ≡ true
before None i k h e = refl
before (Some p) i k h e =
    and-both (nat_lt p.0 k) (nat_lt p.1 k) (less p.0 i k h (and-left (nat_lt p.0 i) (nat_lt p.1 i) e)) (less p.1 i k h (and-right (nat_lt p.0 i) (nat_lt p.1 i) e))
  where
    less : (j i k : ℕ) → i ≤ k → nat_lt j i ≡ true → nat_lt j k ≡ true
    less j i k h e = grind (arith, nat_tests)

each : (i n : ℕ) → i < suc n → (i < n) ⊎ (i ≡ n)
each i n h = grind arith

-- a table with one more node, whose parts and whose origins stand in it
module _ (ns : List Node) (n : Node) (t : IsTable ns) where
  abbrev more : List Node
  more = ns ++ n ∷ []

  longer : length more ≡ suc (length ns)
  longer = omega (arith, length_push ns n)

  old : (i : ℕ) → i < length ns → tree_at more i ≡ tree_at ns i
  old i h = tree-others ns n i h

  pub grows : IsGrown ns more
  grows = record { longer = omega (arith, longer); same = old }

  pub adds : WellTree (part_view (tree_at ns) n.part) → IsNew (part_view (tree_at ns) n.part) more (length ns)
  adds w = record { within = omega (arith, longer); well = w; means = tree-last ns n }

  module _ (parts : are_parts_below (length ns) n.part ≡ true) (origins : are_made_below (length ns) n.of ≡ true) (well : WellTree (part_view (tree_at ns) n.part)) (made : IsMade (tree_at ns) (part_view (tree_at ns) n.part) n.of) where
    well_at : (i : ℕ) → (i < length ns) ⊎ (i ≡ length ns) → WellTree (tree_at more i)
    well_at i (inl h) = subst WellTree (sym (old i h)) (t.well i h)
    well_at i (inr e) = rw (e, tree-last ns n) well

    made_at : (i : ℕ) (d : Node) → (i < length ns) ⊎ (i ≡ length ns) → IsMade (tree_at more) (tree_at more i) (slice_index_or more i d).of
    made_at i d (inl h) =
        let here : slice_index_or more i d ≡ slice_index_or ns i d = get_or_append_left ns (n ∷ []) d i h in
        let o = (slice_index_or ns i d).of in
        subst (λ (m : Node). IsMade (tree_at more) (tree_at more i) m.of) (sym here)
        (made-grown (tree_at ns) (tree_at more) (tree_at ns i) (tree_at more i) (length ns) o old (old i h) (before o i (length ns) (omega (arith, h)) (level ns i d h t.grounded).2) (t.made i d h))
    made_at i d (inr e) =
        let here : slice_index_or more i d ≡ n = get_or_push ns n d i (sym e) in
        let is : tree_at more i ≡ part_view (tree_at ns) n.part = rw e (tree-last ns n) in
        subst (λ (m : Node). IsMade (tree_at more) (tree_at more i) m.of) (sym here)
        (made-grown (tree_at ns) (tree_at more) (part_view (tree_at ns) n.part) (tree_at more i) (length ns) n.of old is origins made)

    pub table-push : IsTable more
    table-push =
        let size = longer in
        let place : length ns ≡ 0 + length ns = omega arith in
        record {
          grounded = grounded-append 0 ns n t.grounded (subst (λ k. are_below k n ≡ true) place (and-both (are_parts_below (length ns) n.part) (are_made_below (length ns) n.of) parts origins));
          first = omega (arith, size);
          empty = old 0 t.first ∙ t.empty;
          well = λ i h. well_at i (each i (length ns) (omega (arith, size, h)));
          made = λ i d h. made_at i d (each i (length ns) (omega (arith, size, h)));
        }
