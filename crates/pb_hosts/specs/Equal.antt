-- Whether two kinds are the very same.
use Rattle.std.specs.Prelude.{Bool, true, false, not, ◌&&◌, nat_eq}
use Rattle.std.specs.Str.{bytes_eq}
use Rattle.pb_semantics.specs.Kind.{KindData, Slots, Cases, Shape, never, nulls, booleans, ints}
use Rattle.pb_semantics.specs.Kind.{texts, hosts, lists, recs, results, anything, no_slots, slot}
use Rattle.pb_semantics.specs.Kind.{no_cases, one, ok_shape, failure_shape, skipped_shape, Spot}
use Rattle.pb_semantics.specs.Kind.{nowhere, spot}
use Rattle.pb_language.specs.Same.{same_names}

abbrev pub same_flag : Bool → Bool → Bool
same_flag true b = b
same_flag false b = not b

abbrev pub same_shape : Shape → Shape → Bool
same_shape ok_shape ok_shape = true
same_shape failure_shape failure_shape = true
same_shape skipped_shape skipped_shape = true
same_shape s t = false

abbrev mutual
  pub same_kind : KindData → KindData → Bool
  same_kind never never = true
  same_kind nulls nulls = true
  same_kind booleans booleans = true
  same_kind ints ints = true
  same_kind texts texts = true
  same_kind (hosts ns) (hosts ms) = same_names ns ms
  same_kind (lists k n) (lists m j) = same_kind k m && nat_eq n j
  same_kind (recs ss) (recs ts) = same_slots ss ts
  same_kind (results cs k) (results ds m) = same_cases cs ds && same_kind k m
  same_kind anything anything = true
  same_kind k m = false

  pub same_slots : Slots → Slots → Bool
  same_slots no_slots no_slots = true
  same_slots (slot n a k ss) (slot m b j ts) =
      bytes_eq n m && (same_flag a b && (same_kind k j && same_slots ss ts))
  same_slots ss ts = false

  pub same_cases : Cases → Cases → Bool
  same_cases no_cases no_cases = true
  same_cases (one n s f k cs) (one m t g j ds) = bytes_eq n m
      && (same_shape s t && (same_flag f g && (same_kind k j && same_cases cs ds)))
  same_cases cs ds = false

abbrev pub same_spot : Spot → Spot → Bool
same_spot nowhere nowhere = true
same_spot (spot a k) (spot b m) = same_flag a b && same_kind k m
same_spot s t = false
