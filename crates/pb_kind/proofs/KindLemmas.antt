-- Slots, names and cases beside the maps and lists that they are read from.
use Rattle.std.proofs.Common.{◌≡◌, ℕ, Bor, List, [], ◌∷◌, Bool, true, false, Option, Some, None, option_map, is_some, cond, String, Global, string_bytes, nat_cmp, map, bytes_eq, refl, sym, ap, ◌∙◌}
use Rattle.std.specs.Cmp.Lexicographic.{slice_cmp}
use Rattle.std.specs.Map.{lookup}
use Rattle.std.specs.List.{list_any}
use Rattle.std.specs.BTreeMap.{is_at}
use Rattle.std.proofs.lemmas.Map.Text.{is_eq-slice_cmp}
use Rattle.pb_semantics.specs.Kind.{KindData, Slots, Spot, nowhere, spot, slot_at, is_listed}
use Rattle.pb_semantics.specs.Kind as k
use Rattle.pb_semantics.specs.Keeps.{is_among}
use Rattle.pb_kind.specs.KindView.{kind_view, slots_view, is_always}
use Rattle.std.proofs.Common.{rules, BTreeSet}
use Rattle.std.specs.declared.sync.Arc.{Arc}
use Rattle.pb_kind.specs.declared.kind.Kind as Kind-of
use Rattle.pb_kind.specs.declared.kind.Kind.{the_lemmas as kind_lemmas}
use Rattle.pb_kind.specs.Found.{spot_view}
use Rattle.pb_kind.specs.declared.kind.Slot.{Slot}
use Rattle.pb_kind.specs.declared.kind.Kind.{Kind}

abbrev pub SlotEntry : Type 0
SlotEntry = String Global × Slot Kind

abbrev spot_of : Option (Slot Kind) → Spot
spot_of None = nowhere
spot_of (Some s) = spot (is_always s.presence) (kind_view s.kind)

spot_cond : (q : Bool) (s : Slot Kind) (rest : Option (Slot Kind)) (d : Spot) → spot_of rest ≡ d → spot_of (cond q (Some s) rest) ≡ cond q (spot (is_always s.presence) (kind_view s.kind)) d
spot_cond true s rest d e = refl
spot_cond false s rest d e = e

spot-lookup : (name : List ℕ) (es : List SlotEntry) → spot_of (lookup (is_at (λ k. slice_cmp nat_cmp name (string_bytes k))) es) ≡ slot_at name (slots_view es)
spot-lookup name [] = refl
spot-lookup name (e ∷ es) =
    rw (is_eq-slice_cmp name (string_bytes e.0)) (spot_cond (bytes_eq name (string_bytes e.0)) e.1 (lookup (is_at (λ k. slice_cmp nat_cmp name (string_bytes k))) es) (slot_at name (slots_view es)) (spot-lookup name es))

spot_of_ref : (r : Option (Bor (Slot Kind))) → spot_view r ≡ spot_of (option_map (λ x. x.now) r)
spot_of_ref None = refl
spot_of_ref (Some x) = refl

-- a look-up finds what is known of the name
pub found_spot : (name : List ℕ) (es : List SlotEntry) (r : Option (Bor (Slot Kind))) → option_map (λ x. x.now) r ≡ lookup (is_at (λ k. slice_cmp nat_cmp name (string_bytes k))) es
    → spot_view r ≡ slot_at name (slots_view es)
found_spot name es r e = spot_of_ref r ∙ ap spot_of e ∙ spot-lookup name es

abbrev is_spot : Spot → Bool
is_spot nowhere = false
is_spot (spot a k) = true

listed_step : (q b : Bool) (a : Bool) (k : KindData) (s : Spot) → b ≡ is_spot s → cond q true b ≡ is_spot (cond q (spot a k) s)
listed_step true b a k s e = refl
listed_step false b a k s e = e

listed_is_spot : (n : List ℕ) (ss : Slots) → is_listed n ss ≡ is_spot (slot_at n ss)
listed_is_spot n k.no_slots = refl
listed_is_spot n (k.slot m a c ss) = listed_step (bytes_eq n m) (is_listed n ss) a c (slot_at n ss) (listed_is_spot n ss)

is_some_spot : (r : Option (Bor (Slot Kind))) → is_some r ≡ is_spot (spot_view r)
is_some_spot None = refl
is_some_spot (Some x) = refl

pub found_listed : (name : List ℕ) (ss : Slots) (r : Option (Bor (Slot Kind))) → spot_view r ≡ slot_at name ss → is_some r ≡ is_listed name ss
found_listed name ss r e = is_some_spot r ∙ ap is_spot e ∙ sym (listed_is_spot name ss)

-- a name is in a set
pub is_among-list_any : (name : List ℕ) (ns : List (String Global)) → list_any (is_at (λ k. slice_cmp nat_cmp name (string_bytes k))) ns ≡ is_among name (map (λ n. string_bytes n) ns)
is_among-list_any name [] = refl
is_among-list_any name (n ∷ ns) = rw (is_eq-slice_cmp name (string_bytes n), is_among-list_any name ns) refl

pub kind_view-Host : (s : Arc (BTreeSet (String Global)) Global) → kind_view (Kind-of.Host s) ≡ k.hosts (map (λ n. string_bytes n) s.value.keys)
kind_view-Host s = search (rules, kind_lemmas)

pub kind_view-Text : kind_view Kind-of.Text ≡ k.texts
kind_view-Text = search (rules, kind_lemmas)

pub kind_view-Never : kind_view Kind-of.Never ≡ k.never
kind_view-Never = search (rules, kind_lemmas)

pub kind_view-Null : kind_view Kind-of.Null ≡ k.nulls
kind_view-Null = search (rules, kind_lemmas)

pub kind_view-Bool : kind_view Kind-of.Bool ≡ k.booleans
kind_view-Bool = search (rules, kind_lemmas)

pub kind_view-Int : kind_view Kind-of.Int ≡ k.ints
kind_view-Int = search (rules, kind_lemmas)

pub kind_view-Any : kind_view Kind-of.Any ≡ k.anything
kind_view-Any = search (rules, kind_lemmas)
