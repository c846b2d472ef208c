-- A slot that is put into a tree of a table.
use Rattle.std.proofs.Common.{◌≡◌, ℕ, ◌<◌, ◌≤◌, ◌/◌, ◌==◌, List, [], ◌∷◌, length, get_or, Bool, true, false, ◌||◌, nat_le, bytes_eq, String, Global, string_bytes, refl, sym, ap, ◌∙◌, subst, arith}
use Rattle.std.proofs.lemmas.Bool.Decides.{nat_tests}
use Rattle.std.proofs.lemmas.List.{length-map}
use Rattle.std.specs.Ordering.{is_lt}
use Rattle.pb_semantics.specs.Kind.{KindData, put_slot}
use Rattle.pb_semantics.specs.Keeps.{is_among}
use Rattle.pb_semantics.proofs.Bools.{untrue}
use Rattle.pb_semantics.proofs.Names.{same_name}
use Rattle.pb_language.specs.Expression.{Name}
use Rattle.pb_lattice.specs.Trees.{Tree, known, fork, fits, left_half, right_half, slots_over, IsAscending, WellTree}
use Rattle.pb_lattice.specs.Arena.{names_of, tree_at, IsGrown, IsNew, IsSplit, IsPut}
use Rattle.pb_lattice.specs.declared.tree.Node.{Node}
use Rattle.pb_lattice.proofs.Halves.{order}
use Rattle.pb_lattice.proofs.TreeOrder.{fits_left, fits_right, fits_fork}
use Rattle.pb_lattice.proofs.Putting.{put_at, put_in_left, put_in_right}
use Rattle.pb_lattice.proofs.Sides.{Texts, first_texts, other_texts, first_names, other_names, before, behind}

-- over one name
only : (n m : Name) → is_among n (m ∷ []) ≡ true → n ≡ m
only n m h = same_name n m (first (bytes_eq n m) h)
  where
    first : (b : Bool) → b || false ≡ true → b ≡ true
    first true e = refl
    first false e = e

one_long : (n : ℕ) → n ≡ 1 → n == 1 ≡ true
one_long n e = grind (arith, nat_tests)

put_over : (t : Tree) (ns : List Name) (n : Name) (a : Bool) (k : KindData) → length ns ≤ 1 → is_among n ns ≡ true → fits t ns ≡ true
    → (fits (known a k) ns ≡ true) × (slots_over (known a k) ns ≡ put_slot n a k (slots_over t ns))
put_over t [] n a k lt h f = untrue h
put_over t (m ∷ []) n a k lt h f =
    let same = only n m h in
    (one_long (length (m ∷ [])) refl, subst (λ o. slots_over (known a k) (m ∷ []) ≡ put_slot o a k (slots_over t (m ∷ []))) (sym same) (put_at m a k t f))
put_over t (m ∷ o ∷ ns) n a k lt h f = absurd (omega arith)

pub put_one : (t : Tree) (es : Texts) (n : Name) (a : Bool) (k : KindData) (ms : List Node) (i : ℕ) → length es ≤ 1 → is_among n (names_of es) ≡ true → fits t (names_of es) ≡ true
    → IsNew (known a k) ms i → IsPut t (names_of es) n a k ms i
put_one t es n a k ms i lt h f is =
    let size = length-map es (λ (m : String Global). string_bytes m) in
    let both = put_over t (names_of es) n a k (omega (arith, size, lt)) h f in
    record {
      within = is.within;
      well = subst WellTree (sym is.means) is.well;
      fitting = rw is.means both.0;
      slots = rw is.means both.1;
    }

many : (es : Texts) → 1 < length es → nat_le 2 (length (names_of es)) ≡ true
many es h = two (length (names_of es)) (length es) (length-map es (λ (m : String Global). string_bytes m)) h
  where
    two : (i j : ℕ) → i ≡ j → 1 < j → nat_le 2 i ≡ true
    two i j e h = grind (arith, nat_tests)

-- into one half of a tree that is split
module _ (ns ms os : List Node) (place l r i j : ℕ) (es : Texts) (n : Name) (p : String Global) (a : Bool) (k : KindData) (ascending : IsAscending (names_of es)) (some : 1 < length es)
    (at : p ≡ get_or es (length es / 2) p) (fitting : fits (tree_at ns place) (names_of es) ≡ true) (split : IsSplit (tree_at ns place) (tree_at ns l) (tree_at ns r)) (grown : IsGrown ns ms) where
  abbrev t : Tree
  t = tree_at ns place

  names : 1 < length (names_of es)
  names = omega (arith, length-map es (λ (m : String Global). string_bytes m), some)

  pub put_first : r < length ns → is_lt (order n (string_bytes p)) ≡ true → IsPut (tree_at ns l) (names_of (first_texts es)) n a k ms i → IsNew (fork (tree_at ms i) (tree_at ms r)) os j
      → IsPut t (names_of es) n a k os j
  put_first lt told put is =
      let parts = split (names_of es) names fitting in
      let kept = grown.same r lt in
      let v = tree_at ms i in
      let fit : fits v (left_half (names_of es)) ≡ true = subst (λ xs. fits v xs ≡ true) (first_names es) put.fitting in
      let slots : slots_over v (left_half (names_of es)) ≡ put_slot n a k (slots_over (tree_at ns l) (left_half (names_of es))) =
      subst (λ xs. slots_over v xs ≡ put_slot n a k (slots_over (tree_at ns l) xs)) (first_names es) put.slots in
      let whole = put_in_left n a k (tree_at ns l) (tree_at ns r) v (names_of es) (before n es p ascending (omega (arith, some)) at told) slots in
      record {
        within = is.within;
        well = subst WellTree (sym is.means) is.well;
        fitting = rw (is.means, kept) (fits_fork v (tree_at ns r) (names_of es) (many es some) fit (fits_right (tree_at ns l) (tree_at ns r) (names_of es) parts.0));
        slots = rw (is.means, kept) (whole ∙ ap (put_slot n a k) parts.1);
      }

  pub put_second : l < length ns → is_lt (order n (string_bytes p)) ≡ false → IsPut (tree_at ns r) (names_of (other_texts es)) n a k ms i → IsNew (fork (tree_at ms l) (tree_at ms i)) os j
      → IsPut t (names_of es) n a k os j
  put_second lt told put is =
      let parts = split (names_of es) names fitting in
      let kept = grown.same l lt in
      let w = tree_at ms i in
      let fit : fits w (right_half (names_of es)) ≡ true = subst (λ xs. fits w xs ≡ true) (other_names es) put.fitting in
      let slots : slots_over w (right_half (names_of es)) ≡ put_slot n a k (slots_over (tree_at ns r) (right_half (names_of es))) =
      subst (λ xs. slots_over w xs ≡ put_slot n a k (slots_over (tree_at ns r) xs)) (other_names es) put.slots in
      let whole = put_in_right n a k (tree_at ns l) (tree_at ns r) w (names_of es) (behind n es p ascending (omega (arith, some)) at told) slots in
      record {
        within = is.within;
        well = subst WellTree (sym is.means) is.well;
        fitting = rw (is.means, kept) (fits_fork (tree_at ns l) w (names_of es) (many es some) (fits_left (tree_at ns l) (tree_at ns r) (names_of es) parts.0) fit);
        slots = rw (is.means, kept) (whole ∙ ap (put_slot n a k) parts.1);
      }

pub named : (es : Texts) → 1 < length es → 1 < length (names_of es)
named es h = omega (arith, length-map es (λ (m : String Global). string_bytes m), h)
