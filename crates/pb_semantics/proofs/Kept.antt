-- What a record's kind says of each name.
use Rattle.std.proofs.Common.{◌≡◌, ℕ, List, Bool, true, false, cond, bytes_eq, Option, Some, None, option_map, refl}
use Rattle.pb_semantics.specs.Data.{Data, Fields, null, boolean, int, text, list, rec, opaque, no_fields, field, field_value}
use Rattle.pb_semantics.specs.Kind.{KindData, Slots, Spot, no_slots, slot, nowhere, spot, slot_at, is_listed}
use Rattle.pb_semantics.specs.Kind as k
use Rattle.pb_semantics.specs.Keeps.{filled, all_listed, keeps, slots_kept, spot_ok, Models}
use Rattle.pb_semantics.proofs.Bools.{untrue, and-left, and-right, and-both}
use Rattle.pb_semantics.proofs.Names.{same_name}
use Rattle.pb_semantics.proofs.Slots.{listed_there}

pub nothing_keeps_never : (v : Data) → keeps v k.never ≡ true → false ≡ true
nothing_keeps_never null h = h
nothing_keeps_never (boolean b) h = h
nothing_keeps_never (int n) h = h
nothing_keeps_never (text s) h = h
nothing_keeps_never (list ds) h = h
nothing_keeps_never (rec fs) h = h
nothing_keeps_never opaque h = h

abbrev listed_ok : Option Data → Spot → Bool
listed_ok o nowhere = true
listed_ok o (spot a k) = spot_ok o (spot a k)

filled_ok : (a : Bool) (m : KindData) (o : Option Data) → filled a (option_map (λ v. keeps v m) o) ≡ true → spot_ok o (spot a m) ≡ true
filled_ok a m None h = h
filled_ok a m (Some v) h = h

kept_spot_at : (q : Bool) (n m : List ℕ) (a : Bool) (c : KindData) (fs : Fields) (ss : Slots) → bytes_eq n m ≡ q
    → filled a (option_map (λ v. keeps v c) (field_value m fs)) ≡ true → listed_ok (field_value n fs) (slot_at n ss) ≡ true
    → listed_ok (field_value n fs) (cond q (spot a c) (slot_at n ss)) ≡ true
kept_spot_at true n m a c fs ss e here later = rw (same_name n m e) (filled_ok a c (field_value m fs) here)
kept_spot_at false n m a c fs ss e here later = later

kept_spot : (n : List ℕ) (fs : Fields) (ss : Slots) → slots_kept fs ss ≡ true → listed_ok (field_value n fs) (slot_at n ss) ≡ true
kept_spot n fs no_slots h = refl
kept_spot n fs (slot m a c ss) h =
    let here = filled a (option_map (λ v. keeps v c) (field_value m fs)) in
    kept_spot_at (bytes_eq n m) n m a c fs ss refl (and-left here (slots_kept fs ss) h) (kept_spot n fs ss (and-right here (slots_kept fs ss) h))

unlisted_value : (q : Bool) (n m : List ℕ) (d : Data) (fs : Fields) (ss : Slots) → bytes_eq n m ≡ q → is_listed m ss ≡ true → slot_at n ss ≡ nowhere
    → field_value n fs ≡ None → cond q (Some d) (field_value n fs) ≡ None
unlisted_value true n m d fs ss e l w later = untrue (listed_there m ss l (rw (same_name n m e) at w))
unlisted_value false n m d fs ss e l w later = later

-- no other name has a value
unlisted : (n : List ℕ) (fs : Fields) (ss : Slots) → all_listed fs ss ≡ true → slot_at n ss ≡ nowhere → field_value n fs ≡ None
unlisted n no_fields ss h w = refl
unlisted n (field m d fs) ss h w =
    unlisted_value (bytes_eq n m) n m d fs ss refl (and-left (is_listed m ss) (all_listed fs ss) h) w
    (unlisted n fs ss (and-right (is_listed m ss) (all_listed fs ss) h) w)

whole_spot : (o : Option Data) (s : Spot) → listed_ok o s ≡ true → (s ≡ nowhere → o ≡ None) → spot_ok o s ≡ true
whole_spot o nowhere h f = rw (f refl) refl
whole_spot o (spot a c) h f = h

-- a record that keeps its kind models it as an environment
pub kept_models : (fs : Fields) (ss : Slots) → slots_kept fs ss ≡ true → all_listed fs ss ≡ true → Models fs ss
kept_models fs ss h l = record { at = λ n. whole_spot (field_value n fs) (slot_at n ss) (kept_spot n fs ss h) (unlisted n fs ss l) }

pub all_up : (fs : Fields) (ss ts : Slots) → ((n : List ℕ) → is_listed n ss ≡ true → is_listed n ts ≡ true) → all_listed fs ss ≡ true → all_listed fs ts ≡ true
all_up no_fields ss ts f h = refl
all_up (field n d fs) ss ts f h =
    and-both (is_listed n ts) (all_listed fs ts) (f n (and-left (is_listed n ss) (all_listed fs ss) h)) (all_up fs ss ts f (and-right (is_listed n ss) (all_listed fs ss) h))
