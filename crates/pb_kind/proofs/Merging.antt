-- Two records are gone over at once, each in the order of its names.
use Rattle.std.proofs.Common.{◌≡◌, ℕ, Bor, List, Bool, true, false, Option, Some, None, is_some, not, cond, ◌&&◌, String, Global, string_bytes, nat_cmp, bytes_eq, refl, sym, ap, ◌∙◌}
use Rattle.std.specs.Ordering.{ordering_reverse, is_eq}
use Rattle.std.specs.declared.cmp.Ordering.{Ordering}
use Rattle.std.specs.declared.cmp.Ordering.TheVariants.{Less, Equal, Greater}
use Rattle.std.specs.Cmp.Lexicographic.{slice_cmp}
use Rattle.std.proofs.lemmas.Cmp.{nat_list_cmp_total}
use Rattle.std.proofs.lemmas.Map.Text.{is_eq-slice_cmp}
use Rattle.pb_semantics.specs.Kind.{KindData, Slots, Spot, no_slots, slot, nowhere, spot, is_listed, is_there}
use Rattle.pb_semantics.specs.Below.{below, names_among, slots_below, spot_below}
use Rattle.pb_semantics.proofs.Bools.{untrue}
use Rattle.pb_semantics.proofs.Names.{same_name, own_name}
use Rattle.pb_semantics.proofs.Ascents.{Before, Ascend, before_unlisted}
use Rattle.pb_kind.specs.KindView.{kind_view, slots_view, is_always}
use Rattle.pb_kind.specs.Found.{spot_view}
use Rattle.pb_kind.specs.Added.{spot_of}
use Rattle.pb_kind.specs.declared.kind.Slot.{Slot}
use Rattle.pb_kind.specs.declared.kind.Kind.{Kind}
use Rattle.pb_kind.proofs.KindLemmas.{SlotEntry}
use Rattle.pb_kind.proofs.Adding.{left_view, spot_there}

-- the second record is above the first
abbrev pub Over : Slots → Slots → Bool
Over ss ts = names_among ss ts && slots_below ss ts

-- what a field of the second asks of what the first knows of it
abbrev pub asks : Bool → KindData → Spot → Bool
asks c m s = spot_below (λ k. below k m) c s

differs : (n m : List ℕ) → slice_cmp nat_cmp n m ≡ Less → bytes_eq n m ≡ false
differs n m h = sym (is_eq-slice_cmp n m) ∙ ap is_eq h

turned : (n m : List ℕ) → slice_cmp nat_cmp n m ≡ Less → bytes_eq m n ≡ false
turned n m h = sym (is_eq-slice_cmp m n) ∙ ap is_eq (nat_list_cmp_total.antisymm m n ∙ ap ordering_reverse h)

before_all : (n m : List ℕ) (ss : Slots) → slice_cmp nat_cmp n m ≡ Less → Before m ss → Before n ss
before_all n m no_slots h b = tt
before_all n m (slot p a k ss) h b = (nat_list_cmp_total.trans n m p h b.0, before_all n m ss h b.1)

unlisted : (n : List ℕ) (ss : Slots) → Before n ss → is_listed n ss ≡ false
unlisted n no_slots h = refl
unlisted n (slot m a k ss) h = rw (differs n m h.0) (unlisted n ss h.1)

-- a name before all of the first is none of its names
names_past : (n : List ℕ) (c : Bool) (m : KindData) (ss ts : Slots) → Before n ss → names_among ss (slot n c m ts) ≡ names_among ss ts
names_past n c m no_slots ts h = refl
names_past n c m (slot p a k ss) ts h = rw (turned n p h.0, names_past n c m ss ts h.1) refl

-- a name before all of the second is not asked for
slots_past : (n : List ℕ) (a : Bool) (k : KindData) (ss ts : Slots) → Before n ts → slots_below (slot n a k ss) ts ≡ slots_below ss ts
slots_past n a k ss no_slots h = refl
slots_past n a k ss (slot p c m ts) h = rw (turned n p h.0, slots_past n a k ss ts h.1) refl

asked_first : (a s b : Bool) → a && (s && b) ≡ s && (a && b)
asked_first true s b = refl
asked_first false true b = refl
asked_first false false b = refl

none_asked : (s : Bool) → false ≡ s && false
none_asked true = refl
none_asked false = refl

-- both begin with the same name
over_same : (n : List ℕ) (a c : Bool) (k m : KindData) (ss ts : Slots) → Before n ss → Before n ts
    → Over (slot n a k ss) (slot n c m ts) ≡ asks c m (spot a k) && Over ss ts
over_same n a c k m ss ts h i =
    rw (own_name n, names_past n c m ss ts h, slots_past n a k ss ts i) (asked_first (names_among ss ts) (asks c m (spot a k)) (slots_below ss ts))

-- the first begins with a greater name
over_later : (n : List ℕ) (c : Bool) (m : KindData) (ss ts : Slots) → Before n ss → Over ss (slot n c m ts) ≡ asks c m nowhere && Over ss ts
over_later n c m ss ts h =
    rw (before_unlisted n ss h, names_past n c m ss ts h) (asked_first (names_among ss ts) (asks c m nowhere) (slots_below ss ts))

-- the first begins with a lesser name
over_earlier : (p n : List ℕ) (a c : Bool) (k m : KindData) (ss ts : Slots) → slice_cmp nat_cmp p n ≡ Less → Before n ts
    → Over (slot p a k ss) (slot n c m ts) ≡ asks c m nowhere && Over (slot p a k ss) ts
over_earlier p n a c k m ss ts h i =
    rw (differs p n h, unlisted p ts (before_all p n ts h i)) (none_asked (asks c m nowhere))

abbrev Elsewhere : List ℕ → Slots → Type 0
Elsewhere n no_slots = Unit {0}
Elsewhere n (slot p a k ss) = bytes_eq n p ≡ false

over_by : (o : Ordering) (n p : List ℕ) (a c : Bool) (k m : KindData) (ss ts : Slots) → slice_cmp nat_cmp n p ≡ o → bytes_eq n p ≡ false → Before p ss → Before n ts
    → Over (slot p a k ss) (slot n c m ts) ≡ asks c m nowhere && Over (slot p a k ss) ts
over_by Less n p a c k m ss ts e w h i = over_later n c m (slot p a k ss) ts (e, before_all n p ss e h)
over_by Equal n p a c k m ss ts e w h i = untrue (sym w ∙ sym (is_eq-slice_cmp n p) ∙ ap is_eq e)
over_by Greater n p a c k m ss ts e w h i = over_earlier p n a c k m ss ts (nat_list_cmp_total.antisymm p n ∙ ap ordering_reverse e) i

-- the first begins with another name
over_other : (n : List ℕ) (c : Bool) (m : KindData) (ss ts : Slots) → Elsewhere n ss → Ascend ss → Before n ts
    → Over ss (slot n c m ts) ≡ asks c m nowhere && Over ss ts
over_other n c m no_slots ts w h i = refl
over_other n c m (slot p a k ss) ts w h i = over_by (slice_cmp nat_cmp n p) n p a c k m ss ts refl w h.0 i

spot_elsewhere : (q : Bool) (a : Bool) (k : KindData) → nowhere ≡ cond q (spot a k) nowhere → q ≡ false
spot_elsewhere true a k e = untrue (ap is_there e)
spot_elsewhere false a k e = refl

elsewhere : (n : List ℕ) (next : Option (Bor (String Global) × Bor (Slot Kind))) (es : List SlotEntry) → nowhere ≡ spot_of n next → Elsewhere n (left_view next es)
elsewhere n None es e = tt
elsewhere n (Some x) es e = spot_elsewhere (bytes_eq n (string_bytes x.0.now)) (is_always x.1.now.presence) (kind_view x.1.now.kind) e

-- the next of the first is not of the name
pub over_missing : (n : List ℕ) (c : Bool) (m : KindData) (next : Option (Bor (String Global) × Bor (Slot Kind))) (o : Option (Bor (Slot Kind))) (es : List SlotEntry) (ts : Slots)
    → spot_view o ≡ spot_of n next → is_some o ≡ false → Ascend (left_view next es) → Before n ts
    → Over (left_view next es) (slot n c m ts) ≡ asks c m (spot_view o) && Over (left_view next es) ts
over_missing n c m next (Some s) es ts e i h b = untrue (sym i)
over_missing n c m next None es ts e i h b = over_other n c m (left_view next es) ts (elsewhere n next es e) h b

found_by : (n p : List ℕ) (a c : Bool) (k m : KindData) (ss ts : Slots) → n ≡ p → Before p ss → Before n ts
    → Over (slot p a k ss) (slot n c m ts) ≡ asks c m (spot a k) && Over ss ts
found_by n p a c k m ss ts e h i = ap (λ q. Over (slot q a k ss) (slot n c m ts)) (sym e) ∙ over_same n a c k m ss ts (rw e h) i

-- the next of the first is of the name
pub over_found : (n : List ℕ) (c : Bool) (m : KindData) (next : Option (Bor (String Global) × Bor (Slot Kind))) (o : Option (Bor (Slot Kind))) (es : List SlotEntry) (ts : Slots)
    → spot_view o ≡ spot_of n next → is_some o ≡ true → Ascend (left_view next es) → Before n ts
    → Over (left_view next es) (slot n c m ts) ≡ asks c m (spot_view o) && Over (slots_view es) ts
over_found n c m None o es ts e i h b = spot_there o i e
over_found n c m (Some x) o es ts e i h b = by (bytes_eq n (string_bytes x.0.now)) refl where
  by : (q : Bool) → bytes_eq n (string_bytes x.0.now) ≡ q → Over (left_view (Some x) es) (slot n c m ts) ≡ asks c m (spot_view o) && Over (slots_view es) ts
  by false w = spot_there o i (e ∙ ap (λ r. cond r (spot (is_always x.1.now.presence) (kind_view x.1.now.kind)) nowhere) w)
  by true w =
      let there = e ∙ ap (λ r. cond r (spot (is_always x.1.now.presence) (kind_view x.1.now.kind)) nowhere) w in
      found_by n (string_bytes x.0.now) (is_always x.1.now.presence) c (kind_view x.1.now.kind) m (slots_view es) ts (same_name n (string_bytes x.0.now) w) h.0 b ∙ ap (λ s. asks c m s && Over (slots_view es) ts) (sym there)

-- what is left of the first once its next was taken
pub ascend_rest : (next : Option (Bor (String Global) × Bor (Slot Kind))) (o : Option (Bor (Slot Kind))) (es : List SlotEntry) (n : List ℕ)
    → spot_view o ≡ spot_of n next → is_some o ≡ true → Ascend (left_view next es) → Ascend (slots_view es)
ascend_rest None o es n e i h = spot_there o i e
ascend_rest (Some x) o es n e i h = h.1

fails : (b s t : Bool) → b ≡ s && t → s ≡ false → b ≡ false
fails b s t e f = e ∙ ap (λ x. x && t) f

-- what is asked of the first fails
pub over_fails : (n : List ℕ) (c : Bool) (m : KindData) (next : Option (Bor (String Global) × Bor (Slot Kind))) (o : Option (Bor (Slot Kind))) (es : List SlotEntry) (ts : Slots)
    → spot_view o ≡ spot_of n next → Ascend (left_view next es) → Before n ts → asks c m (spot_view o) ≡ false
    → Over (left_view next es) (slot n c m ts) ≡ false
over_fails n c m next o es ts e h b f = by (is_some o) refl where
  by : (q : Bool) → is_some o ≡ q → Over (left_view next es) (slot n c m ts) ≡ false
  by true w = fails (Over (left_view next es) (slot n c m ts)) (asks c m (spot_view o)) (Over (slots_view es) ts) (over_found n c m next o es ts e w h b) f
  by false w = fails (Over (left_view next es) (slot n c m ts)) (asks c m (spot_view o)) (Over (left_view next es) ts) (over_missing n c m next o es ts e w h b) f

-- all of the second was asked
pub over_end : (next : Option (Bor (String Global) × Bor (Slot Kind))) (es : List SlotEntry) (b : Bool) → is_some next ≡ not b → b ≡ Over (left_view next es) no_slots
over_end None es true e = refl
over_end None es false e = untrue e
over_end (Some x) es true e = untrue (sym e)
over_end (Some x) es false e = refl
