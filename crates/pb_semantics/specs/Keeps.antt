-- Which values a kind has, by recursion over the kind.
use Rattle.std.specs.Prelude.{◌≡◌, ℕ, List, [], ◌∷◌, Bool, true, false, not, ◌&&◌, ◌||◌, nat_le}
use Rattle.std.specs.Prelude.{Option, Some, None, option_map, codes}
use Rattle.std.specs.Str.{bytes_eq}
use Rattle.pb_semantics.specs.Data.{Data, Items, Fields, null, boolean, int, text, list, rec}
use Rattle.pb_semantics.specs.Data.{no_items, item, no_fields, field, field_value, count_of}
use Rattle.pb_semantics.specs.Data.{bool_eq}
use Rattle.pb_semantics.specs.Kind.{KindData, Slots, Cases, Shape, Spot, nulls, booleans, ints}
use Rattle.pb_semantics.specs.Kind.{texts, hosts, lists, recs, results, anything, no_slots, slot}
use Rattle.pb_semantics.specs.Kind.{no_cases, one, nowhere, spot, slot_at, is_listed, ok_shape}
use Rattle.pb_semantics.specs.Kind.{failure_shape, skipped_shape}

abbrev pub is_among : List ℕ → List (List ℕ) → Bool
is_among n [] = false
is_among n (m ∷ ms) = bytes_eq n m || is_among n ms

-- the test of a field that is there; one that isn't has to be uncertain
abbrev pub filled : Bool → Option Bool → Bool
filled a None = not a
filled a (Some b) = b

abbrev pub all_items : (Data → Bool) → Items → Bool
all_items f no_items = true
all_items f (item d ds) = f d && all_items f ds

-- no field is outside the slots
abbrev pub all_listed : Fields → Slots → Bool
all_listed no_fields ss = true
all_listed (field n d fs) ss = is_listed n ss && all_listed fs ss

abbrev pub flag_is : Bool → Option Data → Bool
flag_is b None = false
flag_is b (Some (boolean c)) = bool_eq b c
flag_is b (Some d) = false

-- the record has the case's failed status, and where the task was skipped it says so and is
-- unchanged
abbrev pub has_status : Shape → Bool → Fields → Bool
has_status ok_shape fl fs = flag_is fl (field_value (codes "failed") fs)
has_status failure_shape fl fs = flag_is fl (field_value (codes "failed") fs)
has_status skipped_shape fl fs = flag_is fl (field_value (codes "failed") fs)
    && (flag_is true (field_value (codes "skipped") fs)
    && flag_is false (field_value (codes "changed") fs))

abbrev mutual
  pub keeps : Data → KindData → Bool
  keeps d anything = true
  keeps null nulls = true
  keeps (boolean b) booleans = true
  keeps (int z) ints = true
  keeps (text s) texts = true
  keeps (text s) (hosts ns) = is_among s ns
  keeps (list ds) (lists k n) = nat_le (count_of ds) n && all_items (λ d. keeps d k) ds
  keeps (rec fs) (recs ss) = slots_kept fs ss && all_listed fs ss
  keeps (rec fs) (results cs r) = cases_kept fs cs
  keeps d k = false

  -- each slot's field keeps its kind, and is there if it is certain
  pub slots_kept : Fields → Slots → Bool
  slots_kept fs no_slots = true
  slots_kept fs (slot n a k ss) =
      filled a (option_map (λ d. keeps d k) (field_value n fs)) && slots_kept fs ss

  pub cases_kept : Fields → Cases → Bool
  cases_kept fs no_cases = false
  cases_kept fs (one m sh fl k cs) = (has_status sh fl fs && keeps (rec fs) k) || cases_kept fs cs

-- what a variable holds, beside what is known of it
abbrev pub spot_ok : Option Data → Spot → Bool
spot_ok None nowhere = true
spot_ok None (spot a k) = not a
spot_ok (Some d) nowhere = false
spot_ok (Some d) (spot a k) = keeps d k

-- the variables are those that the environment knows, each of its kind
pub record Models (fs : Fields) (ss : Slots) : Type 0 where
  pub at : (n : List ℕ) → spot_ok (field_value n fs) (slot_at n ss) ≡ true
