-- A value without the fields that its kind doesn't name.
use Rattle.std.specs.Prelude.{ℕ, List, Bool, true, false, ◌&&◌, nat_le, Option, Some, None}
use Rattle.std.specs.Prelude.{option_map, cond}
use Rattle.pb_semantics.specs.Data.{Data, Items, Fields, null, boolean, int, text, list, rec}
use Rattle.pb_semantics.specs.Data.{no_items, item, no_fields, field, field_value, count_of}
use Rattle.pb_semantics.specs.Kind.{KindData, Slots, nulls, booleans, ints, texts, hosts, lists}
use Rattle.pb_semantics.specs.Kind.{recs, results, anything, no_slots, slot}
use Rattle.pb_semantics.specs.Keeps.{is_among}

abbrev pub with_item : Option Data → Option Items → Option Items
with_item None o = None
with_item (Some d) None = None
with_item (Some d) (Some ds) = Some (item d ds)

abbrev pub projected_items : (Data → Option Data) → Items → Option Items
projected_items f no_items = Some no_items
projected_items f (item d ds) = with_item (f d) (projected_items f ds)

abbrev pub with_first : List ℕ → Option Data → Option Fields → Option Fields
with_first n None o = None
with_first n (Some d) None = None
with_first n (Some d) (Some fs) = Some (field n d fs)

-- the fields so far, with one more: a field that doesn't fit spoils the record, and so does a
-- certain one that is missing
abbrev pub with_field : List ℕ → Bool → Option (Option Data) → Option Fields → Option Fields
with_field n true None o = None
with_field n false None o = o
with_field n a (Some p) o = with_first n p o

abbrev mutual
  pub projected : Data → KindData → Option Data
  projected d anything = Some d
  projected null nulls = Some null
  projected (boolean b) booleans = Some (boolean b)
  projected (int z) ints = Some (int z)
  projected (text s) texts = Some (text s)
  projected (text s) (hosts ns) = cond (is_among s ns) (Some (text s)) None
  projected (list ds) (lists k n) = cond (nat_le (count_of ds) n)
      (option_map (λ es. list es) (projected_items (λ d. projected d k) ds)) None
  projected (rec fs) (recs ss) = option_map (λ gs. rec gs) (projected_fields fs ss)
  projected d k = None

  pub projected_fields : Fields → Slots → Option Fields
  projected_fields fs no_slots = Some no_fields
  projected_fields fs (slot n a k ss) =
      with_field n a (option_map (λ d. projected d k) (field_value n fs)) (projected_fields fs ss)

-- no result is in the kind
abbrev mutual
  pub has_no_results : KindData → Bool
  has_no_results (lists k n) = has_no_results k
  has_no_results (recs ss) = have_no_results ss
  has_no_results (results cs r) = false
  has_no_results k = true

  pub have_no_results : Slots → Bool
  have_no_results no_slots = true
  have_no_results (slot n a k ss) = has_no_results k && have_no_results ss
