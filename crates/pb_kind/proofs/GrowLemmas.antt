-- Growing kinds, and the maps of them.
use Rattle.std.proofs.Common.{◌≡◌, ℕ, Box, BTreeMap, BTreeSet, List, [], ◌∷◌, Bool, true, false, Option, Some, None, is_some, cond, map, bytes_eq, String, Global, string_bytes, string_cmp, nat_cmp, refl, sym, ap, ◌∙◌, rules}
use Rattle.std.specs.Cmp.Lexicographic.{slice_cmp}
use Rattle.std.specs.declared.cmp.Ordering.{Ordering}
use Rattle.std.specs.declared.cmp.Ordering.TheVariants.{Less, Equal, Greater}
use Rattle.std.specs.Ordering.{match_ordering}
use Rattle.std.specs.List.{AllByRecursion}
use Rattle.std.specs.List.Sorted.{IsStrictlySortedBy}
use Rattle.std.specs.Map.{keys_of, lookup}
use Rattle.std.specs.BTreeMap.{insert_entry, is_at}
use Rattle.std.proofs.lemmas.Map.Text.{is_eq-slice_cmp}
use Rattle.pb_semantics.specs.Kind.{Spot, lists, recs, nowhere, spot, slot_at, is_listed, put_slot}
use Rattle.pb_semantics.specs.Kind.{is_there}
use Rattle.pb_semantics.proofs.Slots.{listed_is_there}
use Rattle.pb_kind.specs.KindView.{kind_view, slots_view}
use Rattle.pb_kind.specs.Growing.{growing_view, kinds_view}
use Rattle.pb_semantics.specs.Grown.{marked}
use Rattle.pb_kind.specs.declared.kind.Kind.{Kind}
use Rattle.pb_kind.specs.declared.grow.Growing.{Growing}
use Rattle.pb_kind.specs.declared.grow.Growing as Growing-of
use Rattle.pb_kind.specs.declared.grow.Growing.{the_lemmas}
use Rattle.pb_kind.proofs.KindLemmas.{SlotEntry}
use Rattle.pb_semantics.proofs.Ascents.{Before, Ascend}

pub growing_view-Whole : (k : Kind) (n : ℕ) → growing_view (Growing-of.Whole k n) ≡ kind_view k
growing_view-Whole k n = search (rules, the_lemmas)

pub growing_view-List : (g : Box Growing Global) (n : ℕ) → growing_view (Growing-of.List g n) ≡ lists (growing_view g.value) n
growing_view-List g n = search (rules, the_lemmas)

pub growing_view-Rec : (m : BTreeMap (String Global) Growing) (s : BTreeSet (String Global)) → growing_view (Growing-of.Rec m s) ≡ recs (marked (kinds_view m.entries) (map (λ n. string_bytes n) s.keys))
growing_view-Rec m s = search (rules, the_lemmas)

abbrev pub KindEntry : Type 0
KindEntry = String Global × Growing

kinds_view-match_ordering : (o : Ordering) (a b c : List KindEntry) → kinds_view (match_ordering o a b c) ≡ match_ordering o (kinds_view a) (kinds_view b) (kinds_view c)
kinds_view-match_ordering Less a b c = refl
kinds_view-match_ordering Equal a b c = refl
kinds_view-match_ordering Greater a b c = refl

-- all marks are alike, so a put is one of any mark
pub kinds_view-insert_entry : (es : List KindEntry) (n : String Global) (g : Growing) → kinds_view (insert_entry string_cmp es n g) ≡ put_slot (string_bytes n) true (growing_view g) (kinds_view es)
kinds_view-insert_entry [] n g = refl
kinds_view-insert_entry (e ∷ es) n g = kinds_view-match_ordering (string_cmp n e.0) _ _ _ ∙ rw (kinds_view-insert_entry es n g)

-- what a look-up finds
abbrev pub found_in : Option Growing → Spot
found_in None = nowhere
found_in (Some g) = spot true (growing_view g)

found_cond : (b : Bool) (g : Growing) (o : Option Growing) → found_in (cond b (Some g) o) ≡ cond b (spot true (growing_view g)) (found_in o)
found_cond true g o = refl
found_cond false g o = refl

pub found_at : (name : List ℕ) (es : List KindEntry) → found_in (lookup (is_at (λ k. slice_cmp nat_cmp name (string_bytes k))) es) ≡ slot_at name (kinds_view es)
found_at name [] = refl
found_at name (e ∷ es) =
    rw (is_eq-slice_cmp name (string_bytes e.0)) (found_cond (bytes_eq name (string_bytes e.0)) e.1 _ ∙ ap (cond (bytes_eq name (string_bytes e.0)) (spot true (growing_view e.1))) (found_at name es))

found_there : (o : Option Growing) → is_some o ≡ is_there (found_in o)
found_there None = refl
found_there (Some g) = refl

pub found_listed : (name : List ℕ) (es : List KindEntry) → is_some (lookup (is_at (λ k. slice_cmp nat_cmp name (string_bytes k))) es) ≡ is_listed name (kinds_view es)
found_listed name es =
    found_there (lookup (is_at (λ k. slice_cmp nat_cmp name (string_bytes k))) es) ∙ ap is_there (found_at name es) ∙ sym (listed_is_there name (kinds_view es))

before_slots : (n : String Global) (es : List SlotEntry) → AllByRecursion (λ y. string_cmp n y ≡ Less) (keys_of es) → Before (string_bytes n) (slots_view es)
before_slots n [] h = tt
before_slots n (e ∷ es) h = (h.0, before_slots n es h.1)

pub ascend_slots : (es : List SlotEntry) → IsStrictlySortedBy string_cmp (keys_of es) → Ascend (slots_view es)
unfolding IsStrictlySortedBy
ascend_slots [] h = tt
ascend_slots (e ∷ es) h = (before_slots e.0 es h.0, ascend_slots es h.1)

before_kinds : (n : String Global) (es : List KindEntry) → AllByRecursion (λ y. string_cmp n y ≡ Less) (keys_of es) → Before (string_bytes n) (kinds_view es)
before_kinds n [] h = tt
before_kinds n (e ∷ es) h = (h.0, before_kinds n es h.1)

pub ascend_kinds : (es : List KindEntry) → IsStrictlySortedBy string_cmp (keys_of es) → Ascend (kinds_view es)
unfolding IsStrictlySortedBy
ascend_kinds [] h = tt
ascend_kinds (e ∷ es) h = (before_kinds e.0 es h.0, ascend_kinds es h.1)
