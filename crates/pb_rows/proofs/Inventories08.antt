-- The inventories of cases, computed.
use Rattle.std.specs.Prelude.{◌≡◌, refl, pos, negsuc, [], ◌∷◌, true, false, Ok, Err, codes}
use Rattle.pb_semantics.specs.Data.{null, boolean, int, text, list, rec, opaque, no_items, item, no_fields, field}
use Rattle.pb_language.specs.Inventories.{cyclic, inventory_from, wrong_form, wrong_host_name}

inventory_420 : inventory_from (rec (field (codes "_meta") (rec (field (codes "hostvars") (rec (field (codes "a") (rec (no_fields)) (field (codes "b") (rec (no_fields)) (no_fields)))) (no_fields))) (field (codes "all") (rec (field (codes "hosts") (list (item (text (codes "a")) (item (text (codes "b")) (no_items)))) (field (codes "vars") (rec (field (codes "i2") (int (negsuc 0)) (no_fields))) (no_fields)))) (field (codes "g2") (rec (field (codes "hosts") (list (item (text (codes "a")) (item (text (codes "b")) (no_items)))) (field (codes "vars") (rec (field (codes "op") opaque (field (codes "s1") (int (pos 3)) (no_fields)))) (no_fields)))) (no_fields))))) ≡ Ok (record { hosts = (record { name = (codes "a"); variables = (field (codes "i2") (int (negsuc 0)) (field (codes "op") opaque (field (codes "s1") (int (pos 3)) (no_fields)))) } ∷ record { name = (codes "b"); variables = (field (codes "i2") (int (negsuc 0)) (field (codes "op") opaque (field (codes "s1") (int (pos 3)) (no_fields)))) } ∷ []); groups = (record { name = (codes "all"); hosts = ((codes "a") ∷ (codes "b") ∷ []) } ∷ record { name = (codes "g2"); hosts = ((codes "a") ∷ (codes "b") ∷ []) } ∷ record { name = (codes "ungrouped"); hosts = ([]) } ∷ []) })
inventory_420 = refl

inventory_421 : inventory_from (rec (field (codes "_meta") (rec (field (codes "hostvars") (rec (field (codes "a") (rec (no_fields)) (field (codes "b") (rec (no_fields)) (no_fields)))) (no_fields))) (field (codes "all") (rec (field (codes "hosts") (list (item (text (codes "a")) (item (text (codes "b")) (no_items)))) (field (codes "vars") (rec (field (codes "i2") (int (pos 2)) (no_fields))) (no_fields)))) (field (codes "g1") (rec (field (codes "hosts") (list (item (text (codes "a")) (item (text (codes "b")) (no_items)))) (field (codes "vars") (rec (field (codes "i1") (int (pos 2)) (no_fields))) (no_fields)))) (no_fields))))) ≡ Ok (record { hosts = (record { name = (codes "a"); variables = (field (codes "i1") (int (pos 2)) (field (codes "i2") (int (pos 2)) (no_fields))) } ∷ record { name = (codes "b"); variables = (field (codes "i1") (int (pos 2)) (field (codes "i2") (int (pos 2)) (no_fields))) } ∷ []); groups = (record { name = (codes "all"); hosts = ((codes "a") ∷ (codes "b") ∷ []) } ∷ record { name = (codes "g1"); hosts = ((codes "a") ∷ (codes "b") ∷ []) } ∷ record { name = (codes "ungrouped"); hosts = ([]) } ∷ []) })
inventory_421 = refl

inventory_422 : inventory_from (rec (field (codes "_meta") (rec (field (codes "hostvars") (rec (field (codes "a") (rec (no_fields)) (field (codes "b") (rec (no_fields)) (no_fields)))) (no_fields))) (field (codes "all") (rec (field (codes "hosts") (list (item (text (codes "a")) (item (text (codes "b")) (no_items)))) (field (codes "vars") (rec (field (codes "i2") (list (item (text (codes "x")) (item (boolean false) (no_items)))) (field (codes "op") opaque (no_fields)))) (no_fields)))) (field (codes "g1") (rec (field (codes "hosts") (list (item (text (codes "b")) (no_items))) (field (codes "vars") (rec (no_fields)) (no_fields)))) (no_fields))))) ≡ Ok (record { hosts = (record { name = (codes "a"); variables = (field (codes "i2") (list (item (text (codes "x")) (item (boolean false) (no_items)))) (field (codes "op") opaque (no_fields))) } ∷ record { name = (codes "b"); variables = (field (codes "i2") (list (item (text (codes "x")) (item (boolean false) (no_items)))) (field (codes "op") opaque (no_fields))) } ∷ []); groups = (record { name = (codes "all"); hosts = ((codes "a") ∷ (codes "b") ∷ []) } ∷ record { name = (codes "g1"); hosts = ((codes "b") ∷ []) } ∷ record { name = (codes "ungrouped"); hosts = ((codes "a") ∷ []) } ∷ []) })
inventory_422 = refl

inventory_423 : inventory_from (rec (field (codes "_meta") (rec (field (codes "hostvars") (rec (field (codes "a") (rec (no_fields)) (field (codes "b") (rec (no_fields)) (no_fields)))) (no_fields))) (field (codes "all") (rec (field (codes "hosts") (list (item (text (codes "a")) (item (text (codes "b")) (no_items)))) (field (codes "vars") (rec (field (codes "i2") (rec (field (codes "f") (boolean false) (no_fields))) (field (codes "op") opaque (no_fields)))) (no_fields)))) (field (codes "g1") (rec (field (codes "children") (list (item (text (codes "g2")) (no_items))) (field (codes "hosts") (list (item (text (codes "b")) (no_items))) (field (codes "vars") (rec (field (codes "s1") (list (item (text ([])) (no_items))) (no_fields))) (no_fields))))) (field (codes "g2") (rec (field (codes "hosts") (list (item (text (codes "a")) (no_items))) (field (codes "vars") (rec (no_fields)) (no_fields)))) (no_fields)))))) ≡ Ok (record { hosts = (record { name = (codes "a"); variables = (field (codes "i2") (rec (field (codes "f") (boolean false) (no_fields))) (field (codes "op") opaque (field (codes "s1") (list (item (text ([])) (no_items))) (no_fields)))) } ∷ record { name = (codes "b"); variables = (field (codes "i2") (rec (field (codes "f") (boolean false) (no_fields))) (field (codes "op") opaque (field (codes "s1") (list (item (text ([])) (no_items))) (no_fields)))) } ∷ []); groups = (record { name = (codes "all"); hosts = ((codes "a") ∷ (codes "b") ∷ []) } ∷ record { name = (codes "g1"); hosts = ((codes "b") ∷ (codes "a") ∷ []) } ∷ record { name = (codes "g2"); hosts = ((codes "a") ∷ []) } ∷ record { name = (codes "ungrouped"); hosts = ([]) } ∷ []) })
inventory_423 = refl

inventory_424 : inventory_from (rec (field (codes "_meta") (rec (field (codes "hostvars") (rec (field (codes "a") (rec (no_fields)) (field (codes "b") (rec (no_fields)) (no_fields)))) (no_fields))) (field (codes "all") (rec (field (codes "hosts") (list (item (text (codes "a")) (item (text (codes "b")) (no_items)))) (field (codes "vars") (rec (field (codes "op") opaque (no_fields))) (no_fields)))) (field (codes "g2") (rec (field (codes "hosts") (list (no_items)) (field (codes "vars") (rec (no_fields)) (no_fields)))) (no_fields))))) ≡ Ok (record { hosts = (record { name = (codes "a"); variables = (field (codes "op") opaque (no_fields)) } ∷ record { name = (codes "b"); variables = (field (codes "op") opaque (no_fields)) } ∷ []); groups = (record { name = (codes "all"); hosts = ((codes "a") ∷ (codes "b") ∷ []) } ∷ record { name = (codes "g2"); hosts = ([]) } ∷ record { name = (codes "ungrouped"); hosts = ((codes "a") ∷ (codes "b") ∷ []) } ∷ []) })
inventory_424 = refl

inventory_425 : inventory_from (rec (field (codes "_meta") (rec (field (codes "hostvars") (rec (field (codes "a") (rec (no_fields)) (field (codes "b") (rec (no_fields)) (no_fields)))) (no_fields))) (field (codes "all") (rec (field (codes "hosts") (list (item (text (codes "a")) (item (text (codes "b")) (no_items)))) (field (codes "vars") (rec (no_fields)) (no_fields)))) (field (codes "g1") (rec (field (codes "hosts") (list (item (text (codes "a")) (item (text (codes "b")) (no_items)))) (field (codes "vars") (rec (field (codes "i1") (list (item (boolean true) (no_items))) (field (codes "op") opaque (no_fields)))) (no_fields)))) (field (codes "g2") (rec (field (codes "hosts") (list (no_items)) (field (codes "vars") (rec (field (codes "op") opaque (no_fields))) (no_fields)))) (no_fields)))))) ≡ Ok (record { hosts = (record { name = (codes "a"); variables = (field (codes "i1") (list (item (boolean true) (no_items))) (field (codes "op") opaque (no_fields))) } ∷ record { name = (codes "b"); variables = (field (codes "i1") (list (item (boolean true) (no_items))) (field (codes "op") opaque (no_fields))) } ∷ []); groups = (record { name = (codes "all"); hosts = ((codes "a") ∷ (codes "b") ∷ []) } ∷ record { name = (codes "g1"); hosts = ((codes "a") ∷ (codes "b") ∷ []) } ∷ record { name = (codes "g2"); hosts = ([]) } ∷ record { name = (codes "ungrouped"); hosts = ([]) } ∷ []) })
inventory_425 = refl

inventory_426 : inventory_from (rec (field (codes "_meta") (rec (field (codes "hostvars") (rec (field (codes "a") (rec (no_fields)) (field (codes "b") (rec (no_fields)) (no_fields)))) (no_fields))) (field (codes "all") (rec (field (codes "hosts") (list (item (text (codes "a")) (item (text (codes "b")) (no_items)))) (field (codes "vars") (rec (no_fields)) (no_fields)))) (field (codes "g1") (rec (field (codes "hosts") (list (item (text (codes "a")) (no_items))) (field (codes "vars") (rec (field (codes "op") opaque (field (codes "s1") (text (codes "x")) (no_fields)))) (no_fields)))) (no_fields))))) ≡ Ok (record { hosts = (record { name = (codes "a"); variables = (field (codes "op") opaque (field (codes "s1") (text (codes "x")) (no_fields))) } ∷ record { name = (codes "b"); variables = (no_fields) } ∷ []); groups = (record { name = (codes "all"); hosts = ((codes "a") ∷ (codes "b") ∷ []) } ∷ record { name = (codes "g1"); hosts = ((codes "a") ∷ []) } ∷ record { name = (codes "ungrouped"); hosts = ((codes "b") ∷ []) } ∷ []) })
inventory_426 = refl

inventory_427 : inventory_from (rec (field (codes "_meta") (rec (field (codes "hostvars") (rec (field (codes "a") (rec (no_fields)) (field (codes "b") (rec (no_fields)) (no_fields)))) (no_fields))) (field (codes "all") (rec (field (codes "hosts") (list (item (text (codes "a")) (item (text (codes "b")) (no_items)))) (field (codes "vars") (rec (no_fields)) (no_fields)))) (field (codes "g1") (rec (field (codes "hosts") (list (item (text (codes "b")) (no_items))) (field (codes "vars") (rec (field (codes "i1") (int (negsuc 0)) (field (codes "i2") (boolean false) (field (codes "s1") (text (codes "x")) (no_fields))))) (no_fields)))) (field (codes "g2") (rec (field (codes "hosts") (list (item (text (codes "a")) (item (text (codes "b")) (no_items)))) (field (codes "vars") (rec (no_fields)) (no_fields)))) (no_fields)))))) ≡ Ok (record { hosts = (record { name = (codes "a"); variables = (no_fields) } ∷ record { name = (codes "b"); variables = (field (codes "i1") (int (negsuc 0)) (field (codes "i2") (boolean false) (field (codes "s1") (text (codes "x")) (no_fields)))) } ∷ []); groups = (record { name = (codes "all"); hosts = ((codes "a") ∷ (codes "b") ∷ []) } ∷ record { name = (codes "g1"); hosts = ((codes "b") ∷ []) } ∷ record { name = (codes "g2"); hosts = ((codes "a") ∷ (codes "b") ∷ []) } ∷ record { name = (codes "ungrouped"); hosts = ([]) } ∷ []) })
inventory_427 = refl

inventory_428 : inventory_from (rec (field (codes "_meta") (rec (field (codes "hostvars") (rec (field (codes "a") (rec (no_fields)) (field (codes "b") (rec (no_fields)) (no_fields)))) (no_fields))) (field (codes "all") (rec (field (codes "hosts") (list (item (text (codes "a")) (item (text (codes "b")) (no_items)))) (field (codes "vars") (rec (no_fields)) (no_fields)))) (field (codes "g1") (rec (field (codes "hosts") (list (item (text (codes "b")) (no_items))) (field (codes "vars") (rec (no_fields)) (no_fields)))) (field (codes "g2") (rec (field (codes "hosts") (list (item (text (codes "a")) (item (text (codes "b")) (no_items)))) (field (codes "vars") (rec (field (codes "i2") (int (negsuc 0)) (field (codes "op") opaque (no_fields)))) (no_fields)))) (no_fields)))))) ≡ Ok (record { hosts = (record { name = (codes "a"); variables = (field (codes "i2") (int (negsuc 0)) (field (codes "op") opaque (no_fields))) } ∷ record { name = (codes "b"); variables = (field (codes "i2") (int (negsuc 0)) (field (codes "op") opaque (no_fields))) } ∷ []); groups = (record { name = (codes "all"); hosts = ((codes "a") ∷ (codes "b") ∷ []) } ∷ record { name = (codes "g1"); hosts = ((codes "b") ∷ []) } ∷ record { name = (codes "g2"); hosts = ((codes "a") ∷ (codes "b") ∷ []) } ∷ record { name = (codes "ungrouped"); hosts = ([]) } ∷ []) })
inventory_428 = refl

inventory_429 : inventory_from (rec (field (codes "_meta") (rec (field (codes "hostvars") (rec (field (codes "a") (rec (no_fields)) (no_fields))) (no_fields))) (field (codes "all") (rec (field (codes "hosts") (list (item (text (codes "a")) (no_items))) (field (codes "vars") (rec (field (codes "i1") (boolean true) (field (codes "s1") (list (item (text (codes "t")) (no_items))) (no_fields)))) (no_fields)))) (field (codes "g1") (rec (field (codes "hosts") (list (item (text (codes "a")) (no_items))) (field (codes "vars") (rec (field (codes "i2") (rec (field (codes "f") (int (pos 1)) (field (codes "g") (list (item (boolean true) (no_items))) (no_fields)))) (field (codes "op") opaque (no_fields)))) (no_fields)))) (field (codes "g2") (rec (field (codes "hosts") (list (item (text (codes "a")) (no_items))) (field (codes "vars") (rec (field (codes "op") opaque (no_fields))) (no_fields)))) (no_fields)))))) ≡ Ok (record { hosts = (record { name = (codes "a"); variables = (field (codes "i1") (boolean true) (field (codes "i2") (rec (field (codes "f") (int (pos 1)) (field (codes "g") (list (item (boolean true) (no_items))) (no_fields)))) (field (codes "op") opaque (field (codes "s1") (list (item (text (codes "t")) (no_items))) (no_fields))))) } ∷ []); groups = (record { name = (codes "all"); hosts = ((codes "a") ∷ []) } ∷ record { name = (codes "g1"); hosts = ((codes "a") ∷ []) } ∷ record { name = (codes "g2"); hosts = ((codes "a") ∷ []) } ∷ record { name = (codes "ungrouped"); hosts = ([]) } ∷ []) })
inventory_429 = refl

inventory_430 : inventory_from (rec (field (codes "_meta") (rec (field (codes "hostvars") (rec (field (codes "a") (rec (no_fields)) (no_fields))) (no_fields))) (field (codes "all") (rec (field (codes "hosts") (list (item (text (codes "a")) (no_items))) (field (codes "vars") (rec (field (codes "i1") (list (item (text (codes "t")) (item null (no_items)))) (field (codes "op") opaque (no_fields)))) (no_fields)))) (field (codes "g2") (rec (field (codes "hosts") (list (no_items)) (field (codes "vars") (rec (field (codes "i2") (text (codes "b")) (no_fields))) (no_fields)))) (no_fields))))) ≡ Ok (record { hosts = (record { name = (codes "a"); variables = (field (codes "i1") (list (item (text (codes "t")) (item null (no_items)))) (field (codes "op") opaque (no_fields))) } ∷ []); groups = (record { name = (codes "all"); hosts = ((codes "a") ∷ []) } ∷ record { name = (codes "g2"); hosts = ([]) } ∷ record { name = (codes "ungrouped"); hosts = ((codes "a") ∷ []) } ∷ []) })
inventory_430 = refl

inventory_431 : inventory_from (rec (field (codes "_meta") (rec (field (codes "hostvars") (rec (field (codes "a") (rec (no_fields)) (no_fields))) (no_fields))) (field (codes "all") (rec (field (codes "hosts") (list (item (text (codes "a")) (no_items))) (field (codes "vars") (rec (field (codes "i1") (rec (field (codes "f") (text (codes "x")) (field (codes "g") (boolean false) (no_fields)))) (field (codes "i2") (text ([])) (no_fields)))) (no_fields)))) (field (codes "g1") (rec (field (codes "hosts") (list (no_items)) (field (codes "vars") (rec (no_fields)) (no_fields)))) (no_fields))))) ≡ Ok (record { hosts = (record { name = (codes "a"); variables = (field (codes "i1") (rec (field (codes "f") (text (codes "x")) (field (codes "g") (boolean false) (no_fields)))) (field (codes "i2") (text ([])) (no_fields))) } ∷ []); groups = (record { name = (codes "all"); hosts = ((codes "a") ∷ []) } ∷ record { name = (codes "g1"); hosts = ([]) } ∷ record { name = (codes "ungrouped"); hosts = ((codes "a") ∷ []) } ∷ []) })
inventory_431 = refl

inventory_432 : inventory_from (rec (field (codes "_meta") (rec (field (codes "hostvars") (rec (field (codes "a") (rec (no_fields)) (no_fields))) (no_fields))) (field (codes "all") (rec (field (codes "hosts") (list (item (text (codes "a")) (no_items))) (field (codes "vars") (rec (field (codes "i1") (rec (field (codes "g") (text ([])) (no_fields))) (field (codes "s1") (list (item (text (codes "no")) (no_items))) (no_fields)))) (no_fields)))) (field (codes "g1") (rec (field (codes "hosts") (list (item (text (codes "a")) (no_items))) (field (codes "vars") (rec (no_fields)) (no_fields)))) (no_fields))))) ≡ Ok (record { hosts = (record { name = (codes "a"); variables = (field (codes "i1") (rec (field (codes "g") (text ([])) (no_fields))) (field (codes "s1") (list (item (text (codes "no")) (no_items))) (no_fields))) } ∷ []); groups = (record { name = (codes "all"); hosts = ((codes "a") ∷ []) } ∷ record { name = (codes "g1"); hosts = ((codes "a") ∷ []) } ∷ record { name = (codes "ungrouped"); hosts = ([]) } ∷ []) })
inventory_432 = refl

inventory_433 : inventory_from (rec (field (codes "_meta") (rec (field (codes "hostvars") (rec (field (codes "a") (rec (no_fields)) (no_fields))) (no_fields))) (field (codes "all") (rec (field (codes "hosts") (list (item (text (codes "a")) (no_items))) (field (codes "vars") (rec (field (codes "i1") (text (codes "t")) (no_fields))) (no_fields)))) (field (codes "g1") (rec (field (codes "hosts") (list (no_items)) (field (codes "vars") (rec (field (codes "op") opaque (no_fields))) (no_fields)))) (field (codes "g2") (rec (field (codes "hosts") (list (item (text (codes "a")) (no_items))) (field (codes "vars") (rec (no_fields)) (no_fields)))) (no_fields)))))) ≡ Ok (record { hosts = (record { name = (codes "a"); variables = (field (codes "i1") (text (codes "t")) (no_fields)) } ∷ []); groups = (record { name = (codes "all"); hosts = ((codes "a") ∷ []) } ∷ record { name = (codes "g1"); hosts = ([]) } ∷ record { name = (codes "g2"); hosts = ((codes "a") ∷ []) } ∷ record { name = (codes "ungrouped"); hosts = ([]) } ∷ []) })
inventory_433 = refl

inventory_434 : inventory_from (rec (field (codes "_meta") (rec (field (codes "hostvars") (rec (field (codes "a") (rec (no_fields)) (no_fields))) (no_fields))) (field (codes "all") (rec (field (codes "hosts") (list (item (text (codes "a")) (no_items))) (field (codes "vars") (rec (field (codes "i1") (text (codes "x")) (no_fields))) (no_fields)))) (field (codes "g2") (rec (field (codes "hosts") (list (no_items)) (field (codes "vars") (rec (field (codes "op") opaque (no_fields))) (no_fields)))) (no_fields))))) ≡ Ok (record { hosts = (record { name = (codes "a"); variables = (field (codes "i1") (text (codes "x")) (no_fields)) } ∷ []); groups = (record { name = (codes "all"); hosts = ((codes "a") ∷ []) } ∷ record { name = (codes "g2"); hosts = ([]) } ∷ record { name = (codes "ungrouped"); hosts = ((codes "a") ∷ []) } ∷ []) })
inventory_434 = refl

inventory_435 : inventory_from (rec (field (codes "_meta") (rec (field (codes "hostvars") (rec (field (codes "a") (rec (no_fields)) (no_fields))) (no_fields))) (field (codes "all") (rec (field (codes "hosts") (list (item (text (codes "a")) (no_items))) (field (codes "vars") (rec (field (codes "i1") null (field (codes "s1") (text (codes "x")) (no_fields)))) (no_fields)))) (field (codes "g1") (rec (field (codes "hosts") (list (no_items)) (field (codes "vars") (rec (field (codes "op") opaque (no_fields))) (no_fields)))) (field (codes "g2") (rec (field (codes "hosts") (list (no_items)) (field (codes "vars") (rec (no_fields)) (no_fields)))) (no_fields)))))) ≡ Ok (record { hosts = (record { name = (codes "a"); variables = (field (codes "i1") null (field (codes "s1") (text (codes "x")) (no_fields))) } ∷ []); groups = (record { name = (codes "all"); hosts = ((codes "a") ∷ []) } ∷ record { name = (codes "g1"); hosts = ([]) } ∷ record { name = (codes "g2"); hosts = ([]) } ∷ record { name = (codes "ungrouped"); hosts = ((codes "a") ∷ []) } ∷ []) })
inventory_435 = refl

inventory_436 : inventory_from (rec (field (codes "_meta") (rec (field (codes "hostvars") (rec (field (codes "a") (rec (no_fields)) (no_fields))) (no_fields))) (field (codes "all") (rec (field (codes "hosts") (list (item (text (codes "a")) (no_items))) (field (codes "vars") (rec (field (codes "i2") (boolean true) (no_fields))) (no_fields)))) (field (codes "g1") (rec (field (codes "hosts") (list (no_items)) (field (codes "vars") (rec (field (codes "i1") (text (codes "b")) (field (codes "i2") (boolean false) (field (codes "s1") (text (codes "a")) (no_fields))))) (no_fields)))) (field (codes "g2") (rec (field (codes "hosts") (list (no_items)) (field (codes "vars") (rec (no_fields)) (no_fields)))) (no_fields)))))) ≡ Ok (record { hosts = (record { name = (codes "a"); variables = (field (codes "i2") (boolean true) (no_fields)) } ∷ []); groups = (record { name = (codes "all"); hosts = ((codes "a") ∷ []) } ∷ record { name = (codes "g1"); hosts = ([]) } ∷ record { name = (codes "g2"); hosts = ([]) } ∷ record { name = (codes "ungrouped"); hosts = ((codes "a") ∷ []) } ∷ []) })
inventory_436 = refl

inventory_437 : inventory_from (rec (field (codes "_meta") (rec (field (codes "hostvars") (rec (field (codes "a") (rec (no_fields)) (no_fields))) (no_fields))) (field (codes "all") (rec (field (codes "hosts") (list (item (text (codes "a")) (no_items))) (field (codes "vars") (rec (field (codes "i2") (boolean true) (no_fields))) (no_fields)))) (field (codes "g1") (rec (field (codes "hosts") (list (no_items)) (field (codes "vars") (rec (field (codes "i2") (int (pos 1)) (no_fields))) (no_fields)))) (field (codes "g2") (rec (field (codes "hosts") (list (no_items)) (field (codes "vars") (rec (no_fields)) (no_fields)))) (no_fields)))))) ≡ Ok (record { hosts = (record { name = (codes "a"); variables = (field (codes "i2") (boolean true) (no_fields)) } ∷ []); groups = (record { name = (codes "all"); hosts = ((codes "a") ∷ []) } ∷ record { name = (codes "g1"); hosts = ([]) } ∷ record { name = (codes "g2"); hosts = ([]) } ∷ record { name = (codes "ungrouped"); hosts = ((codes "a") ∷ []) } ∷ []) })
inventory_437 = refl

inventory_438 : inventory_from (rec (field (codes "_meta") (rec (field (codes "hostvars") (rec (field (codes "a") (rec (no_fields)) (no_fields))) (no_fields))) (field (codes "all") (rec (field (codes "hosts") (list (item (text (codes "a")) (no_items))) (field (codes "vars") (rec (field (codes "i2") (text (codes "x")) (no_fields))) (no_fields)))) (field (codes "g1") (rec (field (codes "hosts") (list (item (text (codes "a")) (no_items))) (field (codes "vars") (rec (field (codes "op") opaque (no_fields))) (no_fields)))) (field (codes "g2") (rec (field (codes "hosts") (list (item (text (codes "a")) (no_items))) (field (codes "vars") (rec (field (codes "s1") (list (no_items)) (no_fields))) (no_fields)))) (no_fields)))))) ≡ Ok (record { hosts = (record { name = (codes "a"); variables = (field (codes "i2") (text (codes "x")) (field (codes "op") opaque (field (codes "s1") (list (no_items)) (no_fields)))) } ∷ []); groups = (record { name = (codes "all"); hosts = ((codes "a") ∷ []) } ∷ record { name = (codes "g1"); hosts = ((codes "a") ∷ []) } ∷ record { name = (codes "g2"); hosts = ((codes "a") ∷ []) } ∷ record { name = (codes "ungrouped"); hosts = ([]) } ∷ []) })
inventory_438 = refl

inventory_439 : inventory_from (rec (field (codes "_meta") (rec (field (codes "hostvars") (rec (field (codes "a") (rec (no_fields)) (no_fields))) (no_fields))) (field (codes "all") (rec (field (codes "hosts") (list (item (text (codes "a")) (no_items))) (field (codes "vars") (rec (field (codes "i2") (text (codes "x")) (no_fields))) (no_fields)))) (field (codes "g1") (rec (field (codes "hosts") (list (no_items)) (field (codes "vars") (rec (no_fields)) (no_fields)))) (field (codes "g2") (rec (field (codes "hosts") (list (item (text (codes "a")) (no_items))) (field (codes "vars") (rec (field (codes "i1") (text (codes "no")) (field (codes "op") opaque (no_fields)))) (no_fields)))) (no_fields)))))) ≡ Ok (record { hosts = (record { name = (codes "a"); variables = (field (codes "i1") (text (codes "no")) (field (codes "i2") (text (codes "x")) (field (codes "op") opaque (no_fields)))) } ∷ []); groups = (record { name = (codes "all"); hosts = ((codes "a") ∷ []) } ∷ record { name = (codes "g1"); hosts = ([]) } ∷ record { name = (codes "g2"); hosts = ((codes "a") ∷ []) } ∷ record { name = (codes "ungrouped"); hosts = ([]) } ∷ []) })
inventory_439 = refl

inventory_440 : inventory_from (rec (field (codes "_meta") (rec (field (codes "hostvars") (rec (field (codes "a") (rec (no_fields)) (no_fields))) (no_fields))) (field (codes "all") (rec (field (codes "hosts") (list (item (text (codes "a")) (no_items))) (field (codes "vars") (rec (field (codes "op") opaque (field (codes "s1") (rec (field (codes "f") (rec (field (codes "g") (text (codes "b")) (no_fields))) (field (codes "g") (text (codes "t")) (no_fields)))) (no_fields)))) (no_fields)))) (field (codes "g1") (rec (field (codes "hosts") (list (item (text (codes "a")) (no_items))) (field (codes "vars") (rec (field (codes "s1") (rec (field (codes "f") (boolean false) (no_fields))) (no_fields))) (no_fields)))) (no_fields))))) ≡ Ok (record { hosts = (record { name = (codes "a"); variables = (field (codes "op") opaque (field (codes "s1") (rec (field (codes "f") (boolean false) (no_fields))) (no_fields))) } ∷ []); groups = (record { name = (codes "all"); hosts = ((codes "a") ∷ []) } ∷ record { name = (codes "g1"); hosts = ((codes "a") ∷ []) } ∷ record { name = (codes "ungrouped"); hosts = ([]) } ∷ []) })
inventory_440 = refl

inventory_441 : inventory_from (rec (field (codes "_meta") (rec (field (codes "hostvars") (rec (field (codes "a") (rec (no_fields)) (no_fields))) (no_fields))) (field (codes "all") (rec (field (codes "hosts") (list (item (text (codes "a")) (no_items))) (field (codes "vars") (rec (field (codes "op") opaque (no_fields))) (no_fields)))) (field (codes "g1") (rec (field (codes "hosts") (list (item (text (codes "a")) (no_items))) (field (codes "vars") (rec (field (codes "op") opaque (no_fields))) (no_fields)))) (field (codes "g2") (rec (field (codes "hosts") (list (no_items)) (field (codes "vars") (rec (field (codes "op") opaque (no_fields))) (no_fields)))) (no_fields)))))) ≡ Ok (record { hosts = (record { name = (codes "a"); variables = (field (codes "op") opaque (no_fields)) } ∷ []); groups = (record { name = (codes "all"); hosts = ((codes "a") ∷ []) } ∷ record { name = (codes "g1"); hosts = ((codes "a") ∷ []) } ∷ record { name = (codes "g2"); hosts = ([]) } ∷ record { name = (codes "ungrouped"); hosts = ([]) } ∷ []) })
inventory_441 = refl

inventory_442 : inventory_from (rec (field (codes "_meta") (rec (field (codes "hostvars") (rec (field (codes "a") (rec (no_fields)) (no_fields))) (no_fields))) (field (codes "all") (rec (field (codes "hosts") (list (item (text (codes "a")) (no_items))) (field (codes "vars") (rec (field (codes "op") opaque (no_fields))) (no_fields)))) (field (codes "g1") (rec (field (codes "hosts") (list (no_items)) (field (codes "vars") (rec (no_fields)) (no_fields)))) (field (codes "g2") (rec (field (codes "hosts") (list (item (text (codes "a")) (no_items))) (field (codes "vars") (rec (no_fields)) (no_fields)))) (no_fields)))))) ≡ Ok (record { hosts = (record { name = (codes "a"); variables = (field (codes "op") opaque (no_fields)) } ∷ []); groups = (record { name = (codes "all"); hosts = ((codes "a") ∷ []) } ∷ record { name = (codes "g1"); hosts = ([]) } ∷ record { name = (codes "g2"); hosts = ((codes "a") ∷ []) } ∷ record { name = (codes "ungrouped"); hosts = ([]) } ∷ []) })
inventory_442 = refl

inventory_443 : inventory_from (rec (field (codes "_meta") (rec (field (codes "hostvars") (rec (field (codes "a") (rec (no_fields)) (no_fields))) (no_fields))) (field (codes "all") (rec (field (codes "hosts") (list (item (text (codes "a")) (no_items))) (field (codes "vars") (rec (field (codes "s1") (text (codes "no")) (no_fields))) (no_fields)))) (field (codes "g2") (rec (field (codes "hosts") (list (no_items)) (field (codes "vars") (rec (field (codes "s1") (int (pos 1)) (no_fields))) (no_fields)))) (no_fields))))) ≡ Ok (record { hosts = (record { name = (codes "a"); variables = (field (codes "s1") (text (codes "no")) (no_fields)) } ∷ []); groups = (record { name = (codes "all"); hosts = ((codes "a") ∷ []) } ∷ record { name = (codes "g2"); hosts = ([]) } ∷ record { name = (codes "ungrouped"); hosts = ((codes "a") ∷ []) } ∷ []) })
inventory_443 = refl

inventory_444 : inventory_from (rec (field (codes "_meta") (rec (field (codes "hostvars") (rec (field (codes "a") (rec (no_fields)) (no_fields))) (no_fields))) (field (codes "all") (rec (field (codes "hosts") (list (item (text (codes "a")) (no_items))) (field (codes "vars") (rec (field (codes "s1") (text (codes "t")) (no_fields))) (no_fields)))) (field (codes "g1") (rec (field (codes "hosts") (list (item (text (codes "a")) (no_items))) (field (codes "vars") (rec (field (codes "i2") (list (item (int (pos 0)) (no_items))) (no_fields))) (no_fields)))) (no_fields))))) ≡ Ok (record { hosts = (record { name = (codes "a"); variables = (field (codes "i2") (list (item (int (pos 0)) (no_items))) (field (codes "s1") (text (codes "t")) (no_fields))) } ∷ []); groups = (record { name = (codes "all"); hosts = ((codes "a") ∷ []) } ∷ record { name = (codes "g1"); hosts = ((codes "a") ∷ []) } ∷ record { name = (codes "ungrouped"); hosts = ([]) } ∷ []) })
inventory_444 = refl

inventory_445 : inventory_from (rec (field (codes "_meta") (rec (field (codes "hostvars") (rec (field (codes "a") (rec (no_fields)) (no_fields))) (no_fields))) (field (codes "all") (rec (field (codes "hosts") (list (item (text (codes "a")) (no_items))) (field (codes "vars") (rec (no_fields)) (no_fields)))) (field (codes "g1") (rec (field (codes "children") (list (item (text (codes "g2")) (no_items))) (field (codes "hosts") (list (item (text (codes "a")) (no_items))) (field (codes "vars") (rec (no_fields)) (no_fields))))) (field (codes "g2") (rec (field (codes "hosts") (list (item (text (codes "a")) (no_items))) (field (codes "vars") (rec (no_fields)) (no_fields)))) (no_fields)))))) ≡ Ok (record { hosts = (record { name = (codes "a"); variables = (no_fields) } ∷ []); groups = (record { name = (codes "all"); hosts = ((codes "a") ∷ []) } ∷ record { name = (codes "g1"); hosts = ((codes "a") ∷ []) } ∷ record { name = (codes "g2"); hosts = ((codes "a") ∷ []) } ∷ record { name = (codes "ungrouped"); hosts = ([]) } ∷ []) })
inventory_445 = refl

inventory_446 : inventory_from (rec (field (codes "_meta") (rec (field (codes "hostvars") (rec (field (codes "a") (rec (no_fields)) (no_fields))) (no_fields))) (field (codes "all") (rec (field (codes "hosts") (list (item (text (codes "a")) (no_items))) (field (codes "vars") (rec (no_fields)) (no_fields)))) (field (codes "g1") (rec (field (codes "hosts") (list (item (text (codes "a")) (no_items))) (field (codes "vars") (rec (field (codes "i1") (boolean true) (field (codes "op") opaque (field (codes "s1") (list (no_items)) (no_fields))))) (no_fields)))) (field (codes "g2") (rec (field (codes "hosts") (list (no_items)) (field (codes "vars") (rec (field (codes "i1") (list (no_items)) (no_fields))) (no_fields)))) (no_fields)))))) ≡ Ok (record { hosts = (record { name = (codes "a"); variables = (field (codes "i1") (boolean true) (field (codes "op") opaque (field (codes "s1") (list (no_items)) (no_fields)))) } ∷ []); groups = (record { name = (codes "all"); hosts = ((codes "a") ∷ []) } ∷ record { name = (codes "g1"); hosts = ((codes "a") ∷ []) } ∷ record { name = (codes "g2"); hosts = ([]) } ∷ record { name = (codes "ungrouped"); hosts = ([]) } ∷ []) })
inventory_446 = refl

inventory_447 : inventory_from (rec (field (codes "_meta") (rec (field (codes "hostvars") (rec (field (codes "a") (rec (no_fields)) (no_fields))) (no_fields))) (field (codes "all") (rec (field (codes "hosts") (list (item (text (codes "a")) (no_items))) (field (codes "vars") (rec (no_fields)) (no_fields)))) (field (codes "g1") (rec (field (codes "hosts") (list (item (text (codes "a")) (no_items))) (field (codes "vars") (rec (field (codes "i2") (text (codes "a")) (no_fields))) (no_fields)))) (field (codes "g2") (rec (field (codes "hosts") (list (item (text (codes "a")) (no_items))) (field (codes "vars") (rec (field (codes "i2") null (field (codes "s1") (text (codes "t")) (no_fields)))) (no_fields)))) (no_fields)))))) ≡ Ok (record { hosts = (record { name = (codes "a"); variables = (field (codes "i2") null (field (codes "s1") (text (codes "t")) (no_fields))) } ∷ []); groups = (record { name = (codes "all"); hosts = ((codes "a") ∷ []) } ∷ record { name = (codes "g1"); hosts = ((codes "a") ∷ []) } ∷ record { name = (codes "g2"); hosts = ((codes "a") ∷ []) } ∷ record { name = (codes "ungrouped"); hosts = ([]) } ∷ []) })
inventory_447 = refl

inventory_448 : inventory_from (rec (field (codes "_meta") (rec (field (codes "hostvars") (rec (field (codes "a") (rec (no_fields)) (no_fields))) (no_fields))) (field (codes "all") (rec (field (codes "hosts") (list (item (text (codes "a")) (no_items))) (field (codes "vars") (rec (no_fields)) (no_fields)))) (field (codes "g1") (rec (field (codes "hosts") (list (item (text (codes "a")) (no_items))) (field (codes "vars") (rec (field (codes "s1") (int (negsuc 0)) (no_fields))) (no_fields)))) (field (codes "g2") (rec (field (codes "hosts") (list (item (text (codes "a")) (no_items))) (field (codes "vars") (rec (no_fields)) (no_fields)))) (no_fields)))))) ≡ Ok (record { hosts = (record { name = (codes "a"); variables = (field (codes "s1") (int (negsuc 0)) (no_fields)) } ∷ []); groups = (record { name = (codes "all"); hosts = ((codes "a") ∷ []) } ∷ record { name = (codes "g1"); hosts = ((codes "a") ∷ []) } ∷ record { name = (codes "g2"); hosts = ((codes "a") ∷ []) } ∷ record { name = (codes "ungrouped"); hosts = ([]) } ∷ []) })
inventory_448 = refl

inventory_449 : inventory_from (rec (field (codes "_meta") (rec (field (codes "hostvars") (rec (field (codes "a") (rec (no_fields)) (no_fields))) (no_fields))) (field (codes "all") (rec (field (codes "hosts") (list (item (text (codes "a")) (no_items))) (field (codes "vars") (rec (no_fields)) (no_fields)))) (field (codes "g1") (rec (field (codes "hosts") (list (no_items)) (field (codes "vars") (rec (field (codes "i2") (text (codes "no")) (no_fields))) (no_fields)))) (field (codes "g2") (rec (field (codes "hosts") (list (item (text (codes "a")) (no_items))) (field (codes "vars") (rec (no_fields)) (no_fields)))) (no_fields)))))) ≡ Ok (record { hosts = (record { name = (codes "a"); variables = (no_fields) } ∷ []); groups = (record { name = (codes "all"); hosts = ((codes "a") ∷ []) } ∷ record { name = (codes "g1"); hosts = ([]) } ∷ record { name = (codes "g2"); hosts = ((codes "a") ∷ []) } ∷ record { name = (codes "ungrouped"); hosts = ([]) } ∷ []) })
inventory_449 = refl

inventory_450 : inventory_from (rec (field (codes "_meta") (rec (field (codes "hostvars") (rec (field (codes "a") (rec (no_fields)) (no_fields))) (no_fields))) (field (codes "all") (rec (field (codes "hosts") (list (item (text (codes "a")) (no_items))) (field (codes "vars") (rec (no_fields)) (no_fields)))) (field (codes "g2") (rec (field (codes "hosts") (list (item (text (codes "a")) (no_items))) (field (codes "vars") (rec (field (codes "i1") (boolean true) (no_fields))) (no_fields)))) (no_fields))))) ≡ Ok (record { hosts = (record { name = (codes "a"); variables = (field (codes "i1") (boolean true) (no_fields)) } ∷ []); groups = (record { name = (codes "all"); hosts = ((codes "a") ∷ []) } ∷ record { name = (codes "g2"); hosts = ((codes "a") ∷ []) } ∷ record { name = (codes "ungrouped"); hosts = ([]) } ∷ []) })
inventory_450 = refl

inventory_451 : inventory_from (rec (field (codes "_meta") (rec (field (codes "hostvars") (rec (field (codes "a") (rec (no_fields)) (no_fields))) (no_fields))) (field (codes "all") (rec (field (codes "hosts") (list (item (text (codes "a")) (no_items))) (field (codes "vars") (rec (no_fields)) (no_fields)))) (field (codes "g2") (rec (field (codes "hosts") (list (item (text (codes "a")) (no_items))) (field (codes "vars") (rec (field (codes "op") opaque (no_fields))) (no_fields)))) (no_fields))))) ≡ Ok (record { hosts = (record { name = (codes "a"); variables = (field (codes "op") opaque (no_fields)) } ∷ []); groups = (record { name = (codes "all"); hosts = ((codes "a") ∷ []) } ∷ record { name = (codes "g2"); hosts = ((codes "a") ∷ []) } ∷ record { name = (codes "ungrouped"); hosts = ([]) } ∷ []) })
inventory_451 = refl

inventory_452 : inventory_from (rec (field (codes "_meta") (rec (field (codes "hostvars") (rec (field (codes "a") (rec (no_fields)) (no_fields))) (no_fields))) (field (codes "all") (rec (field (codes "hosts") (list (item (text (codes "a")) (no_items))) (field (codes "vars") (rec (no_fields)) (no_fields)))) (field (codes "g2") (rec (field (codes "hosts") (list (no_items)) (field (codes "vars") (rec (field (codes "i1") (int (pos 1)) (no_fields))) (no_fields)))) (no_fields))))) ≡ Ok (record { hosts = (record { name = (codes "a"); variables = (no_fields) } ∷ []); groups = (record { name = (codes "all"); hosts = ((codes "a") ∷ []) } ∷ record { name = (codes "g2"); hosts = ([]) } ∷ record { name = (codes "ungrouped"); hosts = ((codes "a") ∷ []) } ∷ []) })
inventory_452 = refl

inventory_453 : inventory_from (rec (field (codes "_meta") (rec (field (codes "hostvars") (rec (field (codes "a") (rec (no_fields)) (no_fields))) (no_fields))) (field (codes "all") (rec (field (codes "hosts") (list (item (text (codes "a")) (no_items))) (field (codes "vars") (rec (no_fields)) (no_fields)))) (field (codes "g2") (rec (field (codes "hosts") (list (no_items)) (field (codes "vars") (rec (field (codes "s1") (rec (field (codes "f") (list (item (boolean false) (no_items))) (field (codes "g") (list (item (int (negsuc 0)) (item (boolean false) (no_items)))) (no_fields)))) (no_fields))) (no_fields)))) (no_fields))))) ≡ Ok (record { hosts = (record { name = (codes "a"); variables = (no_fields) } ∷ []); groups = (record { name = (codes "all"); hosts = ((codes "a") ∷ []) } ∷ record { name = (codes "g2"); hosts = ([]) } ∷ record { name = (codes "ungrouped"); hosts = ((codes "a") ∷ []) } ∷ []) })
inventory_453 = refl

inventory_454 : inventory_from (rec (field (codes "_meta") (rec (field (codes "hostvars") (rec (field (codes "a") (rec (no_fields)) (no_fields))) (no_fields))) (field (codes "all") (rec (field (codes "hosts") (list (item (text (codes "a")) (no_items))) (field (codes "vars") (rec (no_fields)) (no_fields)))) (field (codes "g2") (rec (field (codes "hosts") (list (no_items)) (field (codes "vars") (rec (no_fields)) (no_fields)))) (no_fields))))) ≡ Ok (record { hosts = (record { name = (codes "a"); variables = (no_fields) } ∷ []); groups = (record { name = (codes "all"); hosts = ((codes "a") ∷ []) } ∷ record { name = (codes "g2"); hosts = ([]) } ∷ record { name = (codes "ungrouped"); hosts = ((codes "a") ∷ []) } ∷ []) })
inventory_454 = refl

inventory_455 : inventory_from (rec (field (codes "_meta") (rec (field (codes "hostvars") (rec (field (codes "a") (rec (no_fields)) (no_fields))) (no_fields))) (field (codes "all") (rec (field (codes "hosts") (list (item (text (codes "a")) (no_items))) (field (codes "vars") (rec (no_fields)) (no_fields)))) (no_fields)))) ≡ Ok (record { hosts = (record { name = (codes "a"); variables = (no_fields) } ∷ []); groups = (record { name = (codes "all"); hosts = ((codes "a") ∷ []) } ∷ record { name = (codes "ungrouped"); hosts = ((codes "a") ∷ []) } ∷ []) })
inventory_455 = refl

inventory_456 : inventory_from (rec (field (codes "_meta") (rec (field (codes "hostvars") (rec (field (codes "b") (rec (field (codes "x") (int (pos 1)) (no_fields))) (no_fields))) (no_fields))) (field (codes "all") (rec (field (codes "hosts") (list (item (text (codes "b")) (item (text (codes "a")) (no_items)))) (no_fields))) (no_fields)))) ≡ Ok (record { hosts = (record { name = (codes "b"); variables = (field (codes "x") (int (pos 1)) (no_fields)) } ∷ record { name = (codes "a"); variables = (no_fields) } ∷ []); groups = (record { name = (codes "all"); hosts = ((codes "b") ∷ (codes "a") ∷ []) } ∷ record { name = (codes "ungrouped"); hosts = ((codes "b") ∷ (codes "a") ∷ []) } ∷ []) })
inventory_456 = refl

inventory_457 : inventory_from (rec (field (codes "_meta") (rec (field (codes "hostvars") (rec (field (codes "b") (rec (field (codes "y") (int (pos 1)) (no_fields))) (no_fields))) (no_fields))) (field (codes "all") (rec (field (codes "hosts") (list (item (text (codes "b")) (item (text (codes "a")) (no_items)))) (no_fields))) (no_fields)))) ≡ Ok (record { hosts = (record { name = (codes "b"); variables = (field (codes "y") (int (pos 1)) (no_fields)) } ∷ record { name = (codes "a"); variables = (no_fields) } ∷ []); groups = (record { name = (codes "all"); hosts = ((codes "b") ∷ (codes "a") ∷ []) } ∷ record { name = (codes "ungrouped"); hosts = ((codes "b") ∷ (codes "a") ∷ []) } ∷ []) })
inventory_457 = refl

inventory_458 : inventory_from (rec (field (codes "a b") (list (no_items)) (no_fields))) ≡ Err wrong_form
inventory_458 = refl

inventory_459 : inventory_from (rec (field (codes "a") (list (item (text (195 ∷ 169 ∷ [])) (no_items))) (no_fields))) ≡ Err wrong_host_name
inventory_459 = refl

inventory_460 : inventory_from (rec (field (codes "a") (list (item (text ([])) (no_items))) (no_fields))) ≡ Err wrong_host_name
inventory_460 = refl

inventory_461 : inventory_from (rec (field (codes "a") (list (item (text (codes "h 1")) (no_items))) (field (codes "b") (int (pos 5)) (no_fields)))) ≡ Err wrong_form
inventory_461 = refl

inventory_462 : inventory_from (rec (field (codes "a") (list (item (text (codes "h 1")) (no_items))) (no_fields))) ≡ Err wrong_host_name
inventory_462 = refl

inventory_463 : inventory_from (rec (field (codes "a") (list (item (text (codes "h1")) (item (text (codes "h1")) (no_items)))) (no_fields))) ≡ Ok (record { hosts = (record { name = (codes "h1"); variables = (no_fields) } ∷ []); groups = (record { name = (codes "a"); hosts = ((codes "h1") ∷ []) } ∷ record { name = (codes "all"); hosts = ((codes "h1") ∷ []) } ∷ record { name = (codes "ungrouped"); hosts = ([]) } ∷ []) })
inventory_463 = refl

inventory_464 : inventory_from (rec (field (codes "a") (list (item (text (codes "h:1")) (no_items))) (no_fields))) ≡ Err wrong_host_name
inventory_464 = refl

inventory_465 : inventory_from (rec (field (codes "a") (rec (field (codes "children") (list (item (int (pos 1)) (no_items))) (no_fields))) (no_fields))) ≡ Err wrong_form
inventory_465 = refl

inventory_466 : inventory_from (rec (field (codes "a") (rec (field (codes "children") (list (item (text (codes "1b")) (no_items))) (no_fields))) (no_fields))) ≡ Err wrong_form
inventory_466 = refl

inventory_467 : inventory_from (rec (field (codes "a") (rec (field (codes "children") (list (item (text (codes "a")) (no_items))) (field (codes "hosts") (list (item (text (codes "h 1")) (no_items))) (no_fields)))) (no_fields))) ≡ Err wrong_host_name
inventory_467 = refl

inventory_468 : inventory_from (rec (field (codes "a") (rec (field (codes "children") (list (item (text (codes "a")) (no_items))) (no_fields))) (no_fields))) ≡ Err cyclic
inventory_468 = refl

inventory_469 : inventory_from (rec (field (codes "a") (rec (field (codes "children") (list (item (text (codes "all")) (no_items))) (no_fields))) (no_fields))) ≡ Err cyclic
inventory_469 = refl

inventory_470 : inventory_from (rec (field (codes "a") (rec (field (codes "children") (list (item (text (codes "b")) (no_items))) (no_fields))) (field (codes "b") (rec (field (codes "children") (list (item (text (codes "a")) (no_items))) (no_fields))) (no_fields)))) ≡ Err cyclic
inventory_470 = refl

inventory_471 : inventory_from (rec (field (codes "a") (rec (field (codes "children") (list (item (text (codes "x")) (no_items))) (no_fields))) (field (codes "b") (rec (field (codes "children") (list (item (text (codes "c")) (no_items))) (no_fields))) (field (codes "c") (rec (field (codes "children") (list (item (text (codes "x")) (no_items))) (no_fields))) (field (codes "x") (rec (field (codes "hosts") (list (item (text (codes "h1")) (no_items))) (field (codes "vars") (rec (field (codes "p") (text (codes "x")) (no_fields))) (no_fields)))) (field (codes "y") (rec (field (codes "children") (list (item (text (codes "z")) (no_items))) (no_fields))) (field (codes "z") (rec (field (codes "children") (list (item (text (codes "zz")) (no_items))) (no_fields))) (field (codes "zz") (rec (field (codes "hosts") (list (item (text (codes "h1")) (no_items))) (field (codes "vars") (rec (field (codes "p") (text (codes "zz")) (no_fields))) (no_fields)))) (no_fields))))))))) ≡ Ok (record { hosts = (record { name = (codes "h1"); variables = (field (codes "p") (text (codes "zz")) (no_fields)) } ∷ []); groups = (record { name = (codes "a"); hosts = ((codes "h1") ∷ []) } ∷ record { name = (codes "all"); hosts = ((codes "h1") ∷ []) } ∷ record { name = (codes "b"); hosts = ((codes "h1") ∷ []) } ∷ record { name = (codes "c"); hosts = ((codes "h1") ∷ []) } ∷ record { name = (codes "ungrouped"); hosts = ([]) } ∷ record { name = (codes "x"); hosts = ((codes "h1") ∷ []) } ∷ record { name = (codes "y"); hosts = ((codes "h1") ∷ []) } ∷ record { name = (codes "z"); hosts = ((codes "h1") ∷ []) } ∷ record { name = (codes "zz"); hosts = ((codes "h1") ∷ []) } ∷ []) })
inventory_471 = refl

inventory_472 : inventory_from (rec (field (codes "a") (rec (field (codes "children") null (no_fields))) (no_fields))) ≡ Err wrong_form
inventory_472 = refl

inventory_473 : inventory_from (rec (field (codes "a") (rec (field (codes "hosts") (list (item (text (codes "h1")) (no_items))) (field (codes "vars") (rec (field (codes "p") (int (pos 1)) (no_fields))) (no_fields)))) (field (codes "b") (rec (field (codes "hosts") (list (item (text (codes "h1")) (no_items))) (field (codes "vars") (rec (field (codes "p") (int (pos 2)) (no_fields))) (no_fields)))) (no_fields)))) ≡ Ok (record { hosts = (record { name = (codes "h1"); variables = (field (codes "p") (int (pos 2)) (no_fields)) } ∷ []); groups = (record { name = (codes "a"); hosts = ((codes "h1") ∷ []) } ∷ record { name = (codes "all"); hosts = ((codes "h1") ∷ []) } ∷ record { name = (codes "b"); hosts = ((codes "h1") ∷ []) } ∷ record { name = (codes "ungrouped"); hosts = ([]) } ∷ []) })
inventory_473 = refl

inventory_474 : inventory_from (rec (field (codes "a") (rec (field (codes "hosts") (list (item (text (codes "h1")) (no_items))) (field (codes "vars") (rec (field (codes "p") (text (codes "a")) (no_fields))) (no_fields)))) (field (codes "all") (rec (field (codes "children") (list (item (text (codes "z")) (no_items))) (no_fields))) (field (codes "z") (rec (field (codes "hosts") (list (item (text (codes "h1")) (no_items))) (field (codes "vars") (rec (field (codes "p") (text (codes "z")) (no_fields))) (no_fields)))) (no_fields))))) ≡ Ok (record { hosts = (record { name = (codes "h1"); variables = (field (codes "p") (text (codes "z")) (no_fields)) } ∷ []); groups = (record { name = (codes "a"); hosts = ((codes "h1") ∷ []) } ∷ record { name = (codes "all"); hosts = ((codes "h1") ∷ []) } ∷ record { name = (codes "ungrouped"); hosts = ([]) } ∷ record { name = (codes "z"); hosts = ((codes "h1") ∷ []) } ∷ []) })
inventory_474 = refl

inventory_475 : inventory_from (rec (field (codes "a") (rec (field (codes "hosts") null (no_fields))) (no_fields))) ≡ Err wrong_form
inventory_475 = refl

inventory_476 : inventory_from (rec (field (codes "a") (rec (field (codes "zz") (int (pos 1)) (no_fields))) (no_fields))) ≡ Err wrong_form
inventory_476 = refl

inventory_477 : inventory_from (rec (field (codes "a") (text (codes "h1")) (no_fields))) ≡ Err wrong_form
inventory_477 = refl

inventory_478 : inventory_from (rec (field (codes "all") (list (item (list (item (list (item (list (item (list (item (list (item (list (item (list (item (list (item (list (item (list (item (list (item (list (item (list (item (list (item (list (item (list (item (list (item (list (item (list (item (list (item (list (item (list (item (list (item (list (item (list (item (list (item (list (item (list (item (list (item (list (item (list (item (list (item (list (item (list (item (list (item (list (item (list (item (list (item (list (item (list (item (list (item (list (item (list (item (list (item (list (item (list (item (list (item (list (item (list (item (list (item (list (item (list (item (list (item (list (item (list (item (list (item (list (item (list (item (list (item (list (item (list (item (list (item (list (item (list (item (list (item (list (item (list (item (list (item (list (item (list (item (list (item (list (item (list (item (list (item (list (item (list (item (list (item (list (item (list (item (list (item (list (item (list (item (list (item (list (item (list (item (list (item (list (item (list (item (list (item (list (item (list (item (list (item (list (item (list (item (list (item (list (item (list (item (list (item (list (item (list (item (list (item (list (item (list (item (list (item (list (item (list (item (list (item (list (item (list (item (list (item (list (item (list (item (list (item (list (item (list (item (list (item (list (item (list (item (list (item (list (item (list (item (list (item (list (item (list (no_items)) (no_items))) (no_items))) (no_items))) (no_items))) (no_items))) (no_items))) (no_items))) (no_items))) (no_items))) (no_items))) (no_items))) (no_items))) (no_items))) (no_items))) (no_items))) (no_items))) (no_items))) (no_items))) (no_items))) (no_items))) (no_items))) (no_items))) (no_items))) (no_items))) (no_items))) (no_items))) (no_items))) (no_items))) (no_items))) (no_items))) (no_items))) (no_items))) (no_items))) (no_items))) (no_items))) (no_items))) (no_items))) (no_items))) (no_items))) (no_items))) (no_items))) (no_items))) (no_items))) (no_items))) (no_items))) (no_items))) (no_items))) (no_items))) (no_items))) (no_items))) (no_items))) (no_items))) (no_items))) (no_items))) (no_items))) (no_items))) (no_items))) (no_items))) (no_items))) (no_items))) (no_items))) (no_items))) (no_items))) (no_items))) (no_items))) (no_items))) (no_items))) (no_items))) (no_items))) (no_items))) (no_items))) (no_items))) (no_items))) (no_items))) (no_items))) (no_items))) (no_items))) (no_items))) (no_items))) (no_items))) (no_items))) (no_items))) (no_items))) (no_items))) (no_items))) (no_items))) (no_items))) (no_items))) (no_items))) (no_items))) (no_items))) (no_items))) (no_items))) (no_items))) (no_items))) (no_items))) (no_items))) (no_items))) (no_items))) (no_items))) (no_items))) (no_items))) (no_items))) (no_items))) (no_items))) (no_items))) (no_items))) (no_items))) (no_items))) (no_items))) (no_items))) (no_items))) (no_items))) (no_items))) (no_items))) (no_items))) (no_items))) (no_items))) (no_items))) (no_items))) (no_items))) (no_items))) (no_items))) (no_items))) (no_fields))) ≡ Err wrong_form
inventory_478 = refl

inventory_479 : inventory_from (rec (field (codes "all") (list (item (text (codes "hhhhhhhhhhhhhhhhhhhhhhhhhhhhhhhhhhhhhhhhhhhhhhhhhhhhhhhhhhhhhhhhhhhhhhhhhhhhhhhhhhhhhhhhhhhhhhhhhhhhhhhhhhhhhhhhhhhhhhhhhhhhhhhhhhhhhhhhhhhhhhhhhhhhhhhhhhhhhhhhhhhhhhhhhhhhhhhhhhhhhhhhhhhhhhhhhhhhhhhhhhhhhhhhhhhhhhhhhhhhhhhhhhhhhhhhhhhhhhhhhhhhhhhhhhhhh")) (no_items))) (no_fields))) ≡ Ok (record { hosts = (record { name = (codes "hhhhhhhhhhhhhhhhhhhhhhhhhhhhhhhhhhhhhhhhhhhhhhhhhhhhhhhhhhhhhhhhhhhhhhhhhhhhhhhhhhhhhhhhhhhhhhhhhhhhhhhhhhhhhhhhhhhhhhhhhhhhhhhhhhhhhhhhhhhhhhhhhhhhhhhhhhhhhhhhhhhhhhhhhhhhhhhhhhhhhhhhhhhhhhhhhhhhhhhhhhhhhhhhhhhhhhhhhhhhhhhhhhhhhhhhhhhhhhhhhhhhhhhhhhhhh"); variables = (no_fields) } ∷ []); groups = (record { name = (codes "all"); hosts = ((codes "hhhhhhhhhhhhhhhhhhhhhhhhhhhhhhhhhhhhhhhhhhhhhhhhhhhhhhhhhhhhhhhhhhhhhhhhhhhhhhhhhhhhhhhhhhhhhhhhhhhhhhhhhhhhhhhhhhhhhhhhhhhhhhhhhhhhhhhhhhhhhhhhhhhhhhhhhhhhhhhhhhhhhhhhhhhhhhhhhhhhhhhhhhhhhhhhhhhhhhhhhhhhhhhhhhhhhhhhhhhhhhhhhhhhhhhhhhhhhhhhhhhhhhhhhhhhh") ∷ []) } ∷ record { name = (codes "ungrouped"); hosts = ((codes "hhhhhhhhhhhhhhhhhhhhhhhhhhhhhhhhhhhhhhhhhhhhhhhhhhhhhhhhhhhhhhhhhhhhhhhhhhhhhhhhhhhhhhhhhhhhhhhhhhhhhhhhhhhhhhhhhhhhhhhhhhhhhhhhhhhhhhhhhhhhhhhhhhhhhhhhhhhhhhhhhhhhhhhhhhhhhhhhhhhhhhhhhhhhhhhhhhhhhhhhhhhhhhhhhhhhhhhhhhhhhhhhhhhhhhhhhhhhhhhhhhhhhhhhhhhhh") ∷ []) } ∷ []) })
inventory_479 = refl
