-- The half of the names that a name belongs to, as it is told by comparing it with the first of the
-- second half.
use Rattle.std.proofs.Common.{◌≡◌, ℕ, ◌-◌, ◌<◌, ◌/◌, List, length, take, drop, get_or, nat_le, Bool, true, false, ◌||◌, String, Global, string_bytes, refl, sym, ap, ◌∙◌, subst, arith}
use Rattle.std.proofs.lemmas.Bool.Decides.{nat_tests}
use Rattle.std.proofs.lemmas.List.{take-map, drop-map, take_rest, length-map, get_or-map}
use Rattle.std.specs.Ordering.{is_lt}
use Rattle.std.specs.declared.cmp.Ordering.{Ordering}
use Rattle.std.specs.declared.cmp.Ordering.TheVariants.{Less, Equal, Greater}
use Rattle.pb_semantics.specs.Kind.{slot_at}
use Rattle.pb_semantics.specs.Keeps.{is_among}
use Rattle.pb_semantics.proofs.Bools.{untrue, true-false}
use Rattle.pb_language.specs.Expression.{Name}
use Rattle.pb_lattice.specs.Trees.{Tree, fork, fits, left_half, right_half, slots_over, IsAscending}
use Rattle.pb_lattice.specs.Arena.{names_of}
use Rattle.pb_lattice.proofs.Halves.{order, halves, before_none, behind_none, among_halves, at_left, at_right}
use Rattle.pb_lattice.proofs.TreeOrder.{fits_two, fits_left, fits_right}
use Rattle.pb_lattice.proofs.Putting.{Stands, in_first_half, in_second_half}

abbrev pub Texts : Type 0
Texts = List (String Global)

abbrev pub first_texts : Texts → Texts
first_texts es = take (length es / 2) es

abbrev pub other_texts : Texts → Texts
other_texts es = take (length es - length es / 2) (drop (length es / 2) es)

pub first_names : (es : Texts) → names_of (first_texts es) ≡ left_half (names_of es)
first_names es =
    let size : length (names_of es) ≡ length es = length-map es (λ n. string_bytes n) in
    sym (take-map (λ (n : String Global). string_bytes n) (length es / 2) es) ∙ ap (λ i. take (i / 2) (names_of es)) (sym size)

pub other_names : (es : Texts) → names_of (other_texts es) ≡ right_half (names_of es)
other_names es =
    let size : length (names_of es) ≡ length es = length-map es (λ n. string_bytes n) in
    ap names_of (take_rest es (length es / 2)) ∙ sym (drop-map (λ (n : String Global). string_bytes n) (length es / 2) es) ∙ ap (λ i. drop (i / 2) (names_of es)) (sym size)

pivot : (es : Texts) (p : String Global) → 0 < length es → p ≡ get_or es (length es / 2) p → string_bytes p ≡ get_or (names_of es) (length (names_of es) / 2) (string_bytes p)
pivot es p lt at =
    let size : length (names_of es) ≡ length es = length-map es (λ n. string_bytes n) in
    let within : length es / 2 < length es = omega arith in
    ap (λ (q : String Global). string_bytes q) at ∙ sym (get_or-map (λ (n : String Global). string_bytes n) es (length es / 2) p (string_bytes p) within)
    ∙ ap (λ i. get_or (names_of es) (i / 2) (string_bytes p)) (sym size)

less : (o : Ordering) → is_lt o ≡ true → o ≡ Less
less Less h = refl
less Equal h = untrue h
less Greater h = untrue h

not_less : (o : Ordering) → is_lt o ≡ false → o ≡ Less → ⊥
not_less o h e = let x : is_lt o ≡ true = ap is_lt e in true-false (is_lt o) x h

size_of : (es : Texts) → 0 < length es → 0 < length (names_of es)
size_of es h = omega (arith, length-map es (λ (n : String Global). string_bytes n))

-- the name belongs to the first half
module _ (n : Name) (es : Texts) (p : String Global) (ascending : IsAscending (names_of es)) (some : 0 < length es) (at : p ≡ get_or es (length es / 2) p) where
  abbrev ns : List Name
  ns = names_of es

  pub before : is_lt (order n (string_bytes p)) ≡ true → Stands Less n (right_half ns)
  before h = in_first_half n (string_bytes p) ns ascending (size_of es some) (pivot es p some at) (less (order n (string_bytes p)) h)

  pub behind : is_lt (order n (string_bytes p)) ≡ false → Stands Greater n (left_half ns)
  behind h = in_second_half n (string_bytes p) ns ascending (size_of es some) (pivot es p some at) (not_less (order n (string_bytes p)) h)

  pub first_ascending : IsAscending (names_of (first_texts es))
  first_ascending = subst IsAscending (sym (first_names es)) (halves ns ascending).first

  pub other_ascending : IsAscending (names_of (other_texts es))
  other_ascending = subst IsAscending (sym (other_names es)) (halves ns ascending).rest

  pub first_at : (l r : Tree) → is_lt (order n (string_bytes p)) ≡ true → slot_at n (slots_over l (names_of (first_texts es))) ≡ slot_at n (slots_over (fork l r) ns)
  first_at l r h = ap (λ ms. slot_at n (slots_over l ms)) (first_names es) ∙ sym (at_left n l r ns (before_none n (right_half ns) (before h)))

  pub other_at : (l r : Tree) → is_lt (order n (string_bytes p)) ≡ false → slot_at n (slots_over r (names_of (other_texts es))) ≡ slot_at n (slots_over (fork l r) ns)
  other_at l r h = ap (λ ms. slot_at n (slots_over r ms)) (other_names es) ∙ sym (at_right n l r ns (behind_none n (left_half ns) (behind h)))

  first_of : (a b : Bool) → a || b ≡ true → b ≡ false → a ≡ true
  first_of true b h i = refl
  first_of false b h i = true-false b h i

  other_of : (a b : Bool) → a || b ≡ true → a ≡ false → b ≡ true
  other_of true b h i = true-false true refl i
  other_of false b h i = h

  pub first_among : is_among n ns ≡ true → is_lt (order n (string_bytes p)) ≡ true → is_among n (names_of (first_texts es)) ≡ true
  first_among a h =
      ap (λ ms. is_among n ms) (first_names es)
      ∙ first_of (is_among n (left_half ns)) (is_among n (right_half ns)) (sym (among_halves n ns) ∙ a) (before_none n (right_half ns) (before h))

  pub other_among : is_among n ns ≡ true → is_lt (order n (string_bytes p)) ≡ false → is_among n (names_of (other_texts es)) ≡ true
  other_among a h =
      ap (λ ms. is_among n ms) (other_names es)
      ∙ other_of (is_among n (left_half ns)) (is_among n (right_half ns)) (sym (among_halves n ns) ∙ a) (behind_none n (left_half ns) (behind h))

  or_none : (a b : Bool) → b ≡ false → a ≡ a || b
  or_none true b h = refl
  or_none false b h = sym h

  none_or : (a b : Bool) → a ≡ false → b ≡ a || b
  none_or true b h = true-false true refl h
  none_or false b h = refl

  pub first_has : is_lt (order n (string_bytes p)) ≡ true → is_among n (names_of (first_texts es)) ≡ is_among n ns
  first_has h =
      ap (λ ms. is_among n ms) (first_names es)
      ∙ or_none (is_among n (left_half ns)) (is_among n (right_half ns)) (before_none n (right_half ns) (before h)) ∙ sym (among_halves n ns)

  pub other_has : is_lt (order n (string_bytes p)) ≡ false → is_among n (names_of (other_texts es)) ≡ is_among n ns
  other_has h =
      ap (λ ms. is_among n ms) (other_names es)
      ∙ none_or (is_among n (left_half ns)) (is_among n (right_half ns)) (behind_none n (left_half ns) (behind h)) ∙ sym (among_halves n ns)

pub first_fits : (l r : Tree) (es : Texts) → fits (fork l r) (names_of es) ≡ true → fits l (names_of (first_texts es)) ≡ true
first_fits l r es h = rw (first_names es) (fits_left l r (names_of es) h)

pub other_fits : (l r : Tree) (es : Texts) → fits (fork l r) (names_of es) ≡ true → fits r (names_of (other_texts es)) ≡ true
other_fits l r es h = rw (other_names es) (fits_right l r (names_of es) h)

pub some_names : (l r : Tree) (es : Texts) → fits (fork l r) (names_of es) ≡ true → 1 < length es
some_names l r es h = two (length (names_of es)) (length es) (length-map es (λ (n : String Global). string_bytes n)) (fits_two l r (names_of es) h)
  where
    two : (i j : ℕ) → i ≡ j → nat_le 2 i ≡ true → 1 < j
    two i j e h = grind (arith, nat_tests)
