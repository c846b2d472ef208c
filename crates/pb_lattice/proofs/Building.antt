-- A tree that is built of all slots at once.
use Rattle.std.proofs.Common.{◌≡◌, ℕ, ◌-◌, ◌<◌, Bor, List, [], ◌∷◌, ◌++◌, length, take, drop, Bool, true, nat_le, String, Global, string_bytes, refl, sym, ap, ◌∙◌, subst, arith}
use Rattle.std.proofs.lemmas.Bool.Decides.{nat_tests}
use Rattle.std.proofs.lemmas.List.{take-append-drop, take_rest, length-map}
use Rattle.pb_semantics.specs.Kind.{KindData, Slots, no_slots, slot}
use Rattle.pb_semantics.specs.Well.{WellSlots}
use Rattle.pb_kind.specs.KindView.{kind_view, slots_view, is_always}
use Rattle.pb_kind.specs.declared.kind.Slot.{Slot}
use Rattle.pb_kind.specs.declared.kind.Kind.{Kind}
use Rattle.pb_kind.proofs.KindLemmas.{SlotEntry}
use Rattle.pb_language.specs.Expression.{Name}
use Rattle.pb_lattice.specs.Trees.{known, fork, fits, left_half, right_half, append_slots, slots_over, WellTree}
use Rattle.pb_lattice.specs.Arena.{names_of, tree_at, IsGrown, IsNew}
use Rattle.pb_lattice.specs.Bulk.{IsBuilt, pairs_view}
use Rattle.pb_lattice.specs.declared.tree.Node.{Node}
use Rattle.pb_lattice.proofs.TreeOrder.{fits_fork}
use Rattle.pb_lattice.proofs.Sides.{Texts, first_texts, other_texts, first_names, other_names}

abbrev pub Pair : Type 0
Pair = Bor (String Global) × Bor (Slot Kind)

-- one more pair, and one slot less that is left
pub one_more : (ps : List Pair) (p : Pair) (es : List SlotEntry) → append_slots (pairs_view (ps ++ p ∷ [])) (slots_view es) ≡ append_slots (pairs_view ps) (slots_view ((p.0.now, p.1.now) ∷ es))
one_more [] p es = refl
one_more (q ∷ ps) p es = ap (slot (string_bytes q.0.now) (is_always q.1.now.presence) (kind_view q.1.now.kind)) (one_more ps p es)

pub append_none : (ss : Slots) → append_slots ss no_slots ≡ ss
append_none no_slots = refl
append_none (slot n a k ss) = ap (slot n a k) (append_none ss)

pairs_append : (ps qs : List Pair) → append_slots (pairs_view ps) (pairs_view qs) ≡ pairs_view (ps ++ qs)
pairs_append [] qs = refl
pairs_append (p ∷ ps) qs = ap (slot (string_bytes p.0.now) (is_always p.1.now.presence) (kind_view p.1.now.kind)) (pairs_append ps qs)

abbrev pub first_pairs : ℕ → List Pair → List Pair
first_pairs i ps = take i ps

abbrev pub other_pairs : ℕ → List Pair → List Pair
other_pairs i ps = take (length ps - i) (drop i ps)

-- both parts are the whole, wherever it is split
pub both_parts : (i : ℕ) (ps : List Pair) → append_slots (pairs_view (first_pairs i ps)) (pairs_view (other_pairs i ps)) ≡ pairs_view ps
both_parts i ps =
    ap (λ qs. append_slots (pairs_view (take i ps)) (pairs_view qs)) (take_rest ps i) ∙ pairs_append (take i ps) (drop i ps) ∙ ap pairs_view (take-append-drop i ps)

well_left : (ss ts : Slots) → WellSlots (append_slots ss ts) → WellSlots ss
well_left no_slots ts w = tt
well_left (slot n a k ss) ts w = (w.0, well_left ss ts w.1)

well_right : (ss ts : Slots) → WellSlots (append_slots ss ts) → WellSlots ts
well_right no_slots ts w = w
well_right (slot n a k ss) ts w = well_right ss ts w.1

pub first_well : (i : ℕ) (ps : List Pair) → WellSlots (pairs_view ps) → WellSlots (pairs_view (first_pairs i ps))
first_well i ps w = well_left (pairs_view (first_pairs i ps)) (pairs_view (other_pairs i ps)) (subst WellSlots (sym (both_parts i ps)) w)

pub other_well : (i : ℕ) (ps : List Pair) → WellSlots (pairs_view ps) → WellSlots (pairs_view (other_pairs i ps))
other_well i ps w = well_right (pairs_view (first_pairs i ps)) (pairs_view (other_pairs i ps)) (subst WellSlots (sym (both_parts i ps)) w)

-- over one name
pub one_well : (ns : List Name) (a : Bool) (k : KindData) (ss : Slots) → length ns ≡ 1 → slots_over (known a k) ns ≡ ss → WellSlots ss → WellTree (known a k)
one_well [] a k ss one slots w = absurd (omega (arith, one))
one_well (n ∷ ns) a k ss one slots w = (subst WellSlots (sym slots) w).0

many : (es : Texts) → 1 < length es → nat_le 2 (length (names_of es)) ≡ true
many es h = two (length (names_of es)) (length es) (length-map es (λ (m : String Global). string_bytes m)) h
  where
    two : (i j : ℕ) → i ≡ j → 1 < j → nat_le 2 i ≡ true
    two i j e h = grind (arith, nat_tests)

-- of both halves
pub built_fork : (ms os qs : List Node) (l r j i : ℕ) (es : Texts) (ps : List Pair) → 1 < length es → IsBuilt (names_of (first_texts es)) (pairs_view (first_pairs i ps)) ms l → IsGrown ms os
    → IsBuilt (names_of (other_texts es)) (pairs_view (other_pairs i ps)) os r → IsNew (fork (tree_at os l) (tree_at os r)) qs j → IsBuilt (names_of es) (pairs_view ps) qs j
built_fork ms os qs l r j i es ps some low grown high is =
    let kept = grown.same l low.within in
    let v = tree_at ms l in
    let w = tree_at os r in
    let low_fits : fits v (left_half (names_of es)) ≡ true = subst (λ xs. fits v xs ≡ true) (first_names es) low.fitting in
    let high_fits : fits w (right_half (names_of es)) ≡ true = subst (λ xs. fits w xs ≡ true) (other_names es) high.fitting in
    let low_slots : slots_over v (left_half (names_of es)) ≡ pairs_view (first_pairs i ps) = subst (λ xs. slots_over v xs ≡ pairs_view (first_pairs i ps)) (first_names es) low.slots in
    let high_slots : slots_over w (right_half (names_of es)) ≡ pairs_view (other_pairs i ps) = subst (λ xs. slots_over w xs ≡ pairs_view (other_pairs i ps)) (other_names es) high.slots in
    record {
      within = is.within;
      well = subst WellTree (sym is.means) is.well;
      fitting = rw (is.means, kept) (fits_fork v w (names_of es) (many es some) low_fits high_fits);
      slots = rw (is.means, kept) (rw (low_slots, high_slots) (both_parts i ps));
    }
