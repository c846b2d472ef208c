-- Values and those inside them: which of them are all of a sort, and how deep they stand.
use Rattle.std.specs.Prelude.{ℕ, zero, suc, Bool, true, false, ◌&&◌, ◌||◌}
use Rattle.pb_semantics.specs.Data.{Data, Items, Fields, list, rec, no_items, item, no_fields}
use Rattle.pb_semantics.specs.Data.{field}

abbrev mutual
  -- lists and records stand at most so many in one another, and each value passes the test
  pub is_within : (Data → Bool) → ℕ → Data → Bool
  is_within f zero (list ds) = false
  is_within f (suc k) (list ds) = f (list ds) && are_items_within f k ds
  is_within f zero (rec fs) = false
  is_within f (suc k) (rec fs) = f (rec fs) && are_fields_within f k fs
  is_within f k d = f d

  pub are_items_within : (Data → Bool) → ℕ → Items → Bool
  are_items_within f k no_items = true
  are_items_within f k (item d ds) = is_within f k d && are_items_within f k ds

  pub are_fields_within : (Data → Bool) → ℕ → Fields → Bool
  are_fields_within f k no_fields = true
  are_fields_within f k (field n d fs) = is_within f k d && are_fields_within f k fs

abbrev mutual
  -- the value, or some value inside it, passes the test
  pub holds : (Data → Bool) → Data → Bool
  holds f (list ds) = f (list ds) || some_item_holds f ds
  holds f (rec fs) = f (rec fs) || some_field_holds f fs
  holds f d = f d

  pub some_item_holds : (Data → Bool) → Items → Bool
  some_item_holds f no_items = false
  some_item_holds f (item d ds) = holds f d || some_item_holds f ds

  pub some_field_holds : (Data → Bool) → Fields → Bool
  some_field_holds f no_fields = false
  some_field_holds f (field n d fs) = holds f d || some_field_holds f fs
