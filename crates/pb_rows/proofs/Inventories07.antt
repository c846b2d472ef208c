-- The inventories of cases, computed.
use Rattle.std.specs.Prelude.{◌≡◌, refl, pos, negsuc, [], ◌∷◌, true, false, Ok, codes}
use Rattle.pb_semantics.specs.Data.{null, boolean, int, text, list, rec, opaque, no_items, item, no_fields, field}
use Rattle.pb_language.specs.Inventories.{inventory_from}

inventory_360 : inventory_from (rec (field (codes "_meta") (rec (field (codes "hostvars") (rec (field (codes "a") (rec (no_fields)) (field (codes "b") (rec (field (codes "i2") (int (pos 0)) (no_fields))) (field (codes "c") (rec (field (codes "i1") (boolean false) (no_fields))) (field (codes "d") (rec (field (codes "s1") (text (codes "x")) (no_fields))) (no_fields)))))) (no_fields))) (field (codes "all") (rec (field (codes "hosts") (list (item (text (codes "a")) (item (text (codes "b")) (item (text (codes "c")) (item (text (codes "d")) (no_items)))))) (field (codes "vars") (rec (no_fields)) (no_fields)))) (field (codes "g1") (rec (field (codes "hosts") (list (item (text (codes "c")) (item (text (codes "d")) (no_items)))) (field (codes "vars") (rec (field (codes "s1") (boolean false) (no_fields))) (no_fields)))) (field (codes "g2") (rec (field (codes "hosts") (list (item (text (codes "a")) (item (text (codes "c")) (no_items)))) (field (codes "vars") (rec (no_fields)) (no_fields)))) (no_fields)))))) ≡ Ok (record { hosts = (record { name = (codes "a"); variables = (no_fields) } ∷ record { name = (codes "b"); variables = (field (codes "i2") (int (pos 0)) (no_fields)) } ∷ record { name = (codes "c"); variables = (field (codes "i1") (boolean false) (field (codes "s1") (boolean false) (no_fields))) } ∷ record { name = (codes "d"); variables = (field (codes "s1") (text (codes "x")) (no_fields)) } ∷ []); groups = (record { name = (codes "all"); hosts = ((codes "a") ∷ (codes "b") ∷ (codes "c") ∷ (codes "d") ∷ []) } ∷ record { name = (codes "g1"); hosts = ((codes "c") ∷ (codes "d") ∷ []) } ∷ record { name = (codes "g2"); hosts = ((codes "a") ∷ (codes "c") ∷ []) } ∷ record { name = (codes "ungrouped"); hosts = ((codes "b") ∷ []) } ∷ []) })
inventory_360 = refl

inventory_361 : inventory_from (rec (field (codes "_meta") (rec (field (codes "hostvars") (rec (field (codes "a") (rec (no_fields)) (field (codes "b") (rec (field (codes "i2") (int (pos 1)) (no_fields))) (field (codes "c") (rec (no_fields)) (field (codes "d") (rec (field (codes "i2") null (no_fields))) (no_fields)))))) (no_fields))) (field (codes "all") (rec (field (codes "hosts") (list (item (text (codes "a")) (item (text (codes "b")) (item (text (codes "c")) (item (text (codes "d")) (no_items)))))) (field (codes "vars") (rec (no_fields)) (no_fields)))) (field (codes "g1") (rec (field (codes "hosts") (list (item (text (codes "a")) (item (text (codes "b")) (item (text (codes "c")) (item (text (codes "d")) (no_items)))))) (field (codes "vars") (rec (field (codes "s1") null (no_fields))) (no_fields)))) (field (codes "g2") (rec (field (codes "hosts") (list (item (text (codes "a")) (item (text (codes "c")) (item (text (codes "d")) (no_items))))) (field (codes "vars") (rec (field (codes "i2") (int (pos 1)) (no_fields))) (no_fields)))) (no_fields)))))) ≡ Ok (record { hosts = (record { name = (codes "a"); variables = (field (codes "i2") (int (pos 1)) (field (codes "s1") null (no_fields))) } ∷ record { name = (codes "b"); variables = (field (codes "i2") (int (pos 1)) (field (codes "s1") null (no_fields))) } ∷ record { name = (codes "c"); variables = (field (codes "i2") (int (pos 1)) (field (codes "s1") null (no_fields))) } ∷ record { name = (codes "d"); variables = (field (codes "i2") null (field (codes "s1") null (no_fields))) } ∷ []); groups = (record { name = (codes "all"); hosts = ((codes "a") ∷ (codes "b") ∷ (codes "c") ∷ (codes "d") ∷ []) } ∷ record { name = (codes "g1"); hosts = ((codes "a") ∷ (codes "b") ∷ (codes "c") ∷ (codes "d") ∷ []) } ∷ record { name = (codes "g2"); hosts = ((codes "a") ∷ (codes "c") ∷ (codes "d") ∷ []) } ∷ record { name = (codes "ungrouped"); hosts = ([]) } ∷ []) })
inventory_361 = refl

inventory_362 : inventory_from (rec (field (codes "_meta") (rec (field (codes "hostvars") (rec (field (codes "a") (rec (no_fields)) (field (codes "b") (rec (field (codes "i2") (int (pos 1)) (no_fields))) (field (codes "c") (rec (no_fields)) (no_fields))))) (no_fields))) (field (codes "all") (rec (field (codes "hosts") (list (item (text (codes "a")) (item (text (codes "b")) (item (text (codes "c")) (no_items))))) (field (codes "vars") (rec (field (codes "s1") (list (item (text (codes "t")) (no_items))) (no_fields))) (no_fields)))) (field (codes "g2") (rec (field (codes "hosts") (list (item (text (codes "b")) (no_items))) (field (codes "vars") (rec (no_fields)) (no_fields)))) (no_fields))))) ≡ Ok (record { hosts = (record { name = (codes "a"); variables = (field (codes "s1") (list (item (text (codes "t")) (no_items))) (no_fields)) } ∷ record { name = (codes "b"); variables = (field (codes "i2") (int (pos 1)) (field (codes "s1") (list (item (text (codes "t")) (no_items))) (no_fields))) } ∷ record { name = (codes "c"); variables = (field (codes "s1") (list (item (text (codes "t")) (no_items))) (no_fields)) } ∷ []); groups = (record { name = (codes "all"); hosts = ((codes "a") ∷ (codes "b") ∷ (codes "c") ∷ []) } ∷ record { name = (codes "g2"); hosts = ((codes "b") ∷ []) } ∷ record { name = (codes "ungrouped"); hosts = ((codes "a") ∷ (codes "c") ∷ []) } ∷ []) })
inventory_362 = refl

inventory_363 : inventory_from (rec (field (codes "_meta") (rec (field (codes "hostvars") (rec (field (codes "a") (rec (no_fields)) (field (codes "b") (rec (field (codes "i2") (list (item (text (codes "x")) (no_items))) (no_fields))) (field (codes "c") (rec (no_fields)) (no_fields))))) (no_fields))) (field (codes "all") (rec (field (codes "hosts") (list (item (text (codes "a")) (item (text (codes "b")) (item (text (codes "c")) (no_items))))) (field (codes "vars") (rec (field (codes "i2") (boolean true) (no_fields))) (no_fields)))) (field (codes "g1") (rec (field (codes "children") (list (item (text (codes "g2")) (no_items))) (field (codes "hosts") (list (item (text (codes "b")) (no_items))) (field (codes "vars") (rec (field (codes "i2") (rec (field (codes "g") (text (codes "t")) (no_fields))) (field (codes "op") opaque (no_fields)))) (no_fields))))) (field (codes "g2") (rec (field (codes "hosts") (list (item (text (codes "a")) (item (text (codes "b")) (item (text (codes "c")) (no_items))))) (field (codes "vars") (rec (field (codes "i2") (text (codes "x")) (field (codes "s1") (boolean false) (no_fields)))) (no_fields)))) (no_fields)))))) ≡ Ok (record { hosts = (record { name = (codes "a"); variables = (field (codes "i2") (text (codes "x")) (field (codes "op") opaque (field (codes "s1") (boolean false) (no_fields)))) } ∷ record { name = (codes "b"); variables = (field (codes "i2") (list (item (text (codes "x")) (no_items))) (field (codes "op") opaque (field (codes "s1") (boolean false) (no_fields)))) } ∷ record { name = (codes "c"); variables = (field (codes "i2") (text (codes "x")) (field (codes "op") opaque (field (codes "s1") (boolean false) (no_fields)))) } ∷ []); groups = (record { name = (codes "all"); hosts = ((codes "a") ∷ (codes "b") ∷ (codes "c") ∷ []) } ∷ record { name = (codes "g1"); hosts = ((codes "b") ∷ (codes "a") ∷ (codes "c") ∷ []) } ∷ record { name = (codes "g2"); hosts = ((codes "a") ∷ (codes "b") ∷ (codes "c") ∷ []) } ∷ record { name = (codes "ungrouped"); hosts = ([]) } ∷ []) })
inventory_363 = refl

inventory_364 : inventory_from (rec (field (codes "_meta") (rec (field (codes "hostvars") (rec (field (codes "a") (rec (no_fields)) (field (codes "b") (rec (field (codes "i2") (list (no_items)) (field (codes "s1") (list (item null (item (boolean true) (no_items)))) (no_fields)))) (field (codes "c") (rec (field (codes "op") opaque (no_fields))) (field (codes "d") (rec (field (codes "i1") (int (pos 1)) (no_fields))) (no_fields)))))) (no_fields))) (field (codes "all") (rec (field (codes "hosts") (list (item (text (codes "a")) (item (text (codes "b")) (item (text (codes "c")) (item (text (codes "d")) (no_items)))))) (field (codes "vars") (rec (field (codes "i2") (list (no_items)) (no_fields))) (no_fields)))) (field (codes "g1") (rec (field (codes "hosts") (list (item (text (codes "b")) (item (text (codes "d")) (no_items)))) (field (codes "vars") (rec (no_fields)) (no_fields)))) (field (codes "g2") (rec (field (codes "hosts") (list (item (text (codes "a")) (item (text (codes "b")) (no_items)))) (field (codes "vars") (rec (field (codes "i1") (boolean true) (field (codes "op") opaque (no_fields)))) (no_fields)))) (no_fields)))))) ≡ Ok (record { hosts = (record { name = (codes "a"); variables = (field (codes "i1") (boolean true) (field (codes "i2") (list (no_items)) (field (codes "op") opaque (no_fields)))) } ∷ record { name = (codes "b"); variables = (field (codes "i1") (boolean true) (field (codes "i2") (list (no_items)) (field (codes "op") opaque (field (codes "s1") (list (item null (item (boolean true) (no_items)))) (no_fields))))) } ∷ record { name = (codes "c"); variables = (field (codes "i2") (list (no_items)) (field (codes "op") opaque (no_fields))) } ∷ record { name = (codes "d"); variables = (field (codes "i1") (int (pos 1)) (field (codes "i2") (list (no_items)) (no_fields))) } ∷ []); groups = (record { name = (codes "all"); hosts = ((codes "a") ∷ (codes "b") ∷ (codes "c") ∷ (codes "d") ∷ []) } ∷ record { name = (codes "g1"); hosts = ((codes "b") ∷ (codes "d") ∷ []) } ∷ record { name = (codes "g2"); hosts = ((codes "a") ∷ (codes "b") ∷ []) } ∷ record { name = (codes "ungrouped"); hosts = ((codes "c") ∷ []) } ∷ []) })
inventory_364 = refl

inventory_365 : inventory_from (rec (field (codes "_meta") (rec (field (codes "hostvars") (rec (field (codes "a") (rec (no_fields)) (field (codes "b") (rec (field (codes "i2") (list (no_items)) (no_fields))) (field (codes "c") (rec (field (codes "op") opaque (no_fields))) (no_fields))))) (no_fields))) (field (codes "all") (rec (field (codes "hosts") (list (item (text (codes "a")) (item (text (codes "b")) (item (text (codes "c")) (no_items))))) (field (codes "vars") (rec (field (codes "i2") (text (codes "no")) (no_fields))) (no_fields)))) (field (codes "g2") (rec (field (codes "hosts") (list (item (text (codes "a")) (item (text (codes "b")) (item (text (codes "c")) (no_items))))) (field (codes "vars") (rec (field (codes "i1") (text (codes "x")) (field (codes "i2") (int (pos 1)) (no_fields)))) (no_fields)))) (no_fields))))) ≡ Ok (record { hosts = (record { name = (codes "a"); variables = (field (codes "i1") (text (codes "x")) (field (codes "i2") (int (pos 1)) (no_fields))) } ∷ record { name = (codes "b"); variables = (field (codes "i1") (text (codes "x")) (field (codes "i2") (list (no_items)) (no_fields))) } ∷ record { name = (codes "c"); variables = (field (codes "i1") (text (codes "x")) (field (codes "i2") (int (pos 1)) (field (codes "op") opaque (no_fields)))) } ∷ []); groups = (record { name = (codes "all"); hosts = ((codes "a") ∷ (codes "b") ∷ (codes "c") ∷ []) } ∷ record { name = (codes "g2"); hosts = ((codes "a") ∷ (codes "b") ∷ (codes "c") ∷ []) } ∷ record { name = (codes "ungrouped"); hosts = ([]) } ∷ []) })
inventory_365 = refl

inventory_366 : inventory_from (rec (field (codes "_meta") (rec (field (codes "hostvars") (rec (field (codes "a") (rec (no_fields)) (field (codes "b") (rec (field (codes "i2") (rec (field (codes "f") (int (pos 2)) (no_fields))) (no_fields))) (field (codes "c") (rec (field (codes "i2") (int (pos 1)) (field (codes "s1") (list (no_items)) (no_fields)))) (no_fields))))) (no_fields))) (field (codes "all") (rec (field (codes "hosts") (list (item (text (codes "a")) (item (text (codes "b")) (item (text (codes "c")) (no_items))))) (field (codes "vars") (rec (no_fields)) (no_fields)))) (field (codes "g1") (rec (field (codes "hosts") (list (item (text (codes "a")) (item (text (codes "b")) (no_items)))) (field (codes "vars") (rec (no_fields)) (no_fields)))) (no_fields))))) ≡ Ok (record { hosts = (record { name = (codes "a"); variables = (no_fields) } ∷ record { name = (codes "b"); variables = (field (codes "i2") (rec (field (codes "f") (int (pos 2)) (no_fields))) (no_fields)) } ∷ record { name = (codes "c"); variables = (field (codes "i2") (int (pos 1)) (field (codes "s1") (list (no_items)) (no_fields))) } ∷ []); groups = (record { name = (codes "all"); hosts = ((codes "a") ∷ (codes "b") ∷ (codes "c") ∷ []) } ∷ record { name = (codes "g1"); hosts = ((codes "a") ∷ (codes "b") ∷ []) } ∷ record { name = (codes "ungrouped"); hosts = ((codes "c") ∷ []) } ∷ []) })
inventory_366 = refl

inventory_367 : inventory_from (rec (field (codes "_meta") (rec (field (codes "hostvars") (rec (field (codes "a") (rec (no_fields)) (field (codes "b") (rec (field (codes "i2") (rec (field (codes "f") (rec (field (codes "f") (text ([])) (field (codes "g") (int (pos 1)) (no_fields)))) (field (codes "g") null (no_fields)))) (no_fields))) (field (codes "c") (rec (no_fields)) (field (codes "d") (rec (field (codes "i1") (int (negsuc 0)) (no_fields))) (no_fields)))))) (no_fields))) (field (codes "all") (rec (field (codes "hosts") (list (item (text (codes "a")) (item (text (codes "b")) (item (text (codes "c")) (item (text (codes "d")) (no_items)))))) (field (codes "vars") (rec (field (codes "op") opaque (no_fields))) (no_fields)))) (field (codes "g1") (rec (field (codes "children") (list (item (text (codes "g2")) (no_items))) (field (codes "hosts") (list (item (text (codes "a")) (item (text (codes "c")) (item (text (codes "d")) (no_items))))) (field (codes "vars") (rec (no_fields)) (no_fields))))) (field (codes "g2") (rec (field (codes "hosts") (list (item (text (codes "a")) (item (text (codes "c")) (item (text (codes "d")) (no_items))))) (field (codes "vars") (rec (field (codes "i1") (text (codes "no")) (field (codes "i2") (int (pos 1)) (no_fields)))) (no_fields)))) (no_fields)))))) ≡ Ok (record { hosts = (record { name = (codes "a"); variables = (field (codes "i1") (text (codes "no")) (field (codes "i2") (int (pos 1)) (field (codes "op") opaque (no_fields)))) } ∷ record { name = (codes "b"); variables = (field (codes "i2") (rec (field (codes "f") (rec (field (codes "f") (text ([])) (field (codes "g") (int (pos 1)) (no_fields)))) (field (codes "g") null (no_fields)))) (field (codes "op") opaque (no_fields))) } ∷ record { name = (codes "c"); variables = (field (codes "i1") (text (codes "no")) (field (codes "i2") (int (pos 1)) (field (codes "op") opaque (no_fields)))) } ∷ record { name = (codes "d"); variables = (field (codes "i1") (int (negsuc 0)) (field (codes "i2") (int (pos 1)) (field (codes "op") opaque (no_fields)))) } ∷ []); groups = (record { name = (codes "all"); hosts = ((codes "a") ∷ (codes "b") ∷ (codes "c") ∷ (codes "d") ∷ []) } ∷ record { name = (codes "g1"); hosts = ((codes "a") ∷ (codes "c") ∷ (codes "d") ∷ []) } ∷ record { name = (codes "g2"); hosts = ((codes "a") ∷ (codes "c") ∷ (codes "d") ∷ []) } ∷ record { name = (codes "ungrouped"); hosts = ((codes "b") ∷ []) } ∷ []) })
inventory_367 = refl

inventory_368 : inventory_from (rec (field (codes "_meta") (rec (field (codes "hostvars") (rec (field (codes "a") (rec (no_fields)) (field (codes "b") (rec (field (codes "i2") (text (codes "b")) (no_fields))) (field (codes "c") (rec (field (codes "s1") (text ([])) (no_fields))) (no_fields))))) (no_fields))) (field (codes "all") (rec (field (codes "hosts") (list (item (text (codes "a")) (item (text (codes "b")) (item (text (codes "c")) (no_items))))) (field (codes "vars") (rec (field (codes "s1") (int (negsuc 0)) (no_fields))) (no_fields)))) (field (codes "g1") (rec (field (codes "children") (list (item (text (codes "g2")) (no_items))) (field (codes "hosts") (list (item (text (codes "a")) (item (text (codes "b")) (item (text (codes "c")) (no_items))))) (field (codes "vars") (rec (field (codes "i2") (int (pos 1)) (no_fields))) (no_fields))))) (field (codes "g2") (rec (field (codes "hosts") (list (no_items)) (field (codes "vars") (rec (field (codes "i2") (int (pos 1)) (field (codes "op") opaque (no_fields)))) (no_fields)))) (no_fields)))))) ≡ Ok (record { hosts = (record { name = (codes "a"); variables = (field (codes "i2") (int (pos 1)) (field (codes "s1") (int (negsuc 0)) (no_fields))) } ∷ record { name = (codes "b"); variables = (field (codes "i2") (text (codes "b")) (field (codes "s1") (int (negsuc 0)) (no_fields))) } ∷ record { name = (codes "c"); variables = (field (codes "i2") (int (pos 1)) (field (codes "s1") (text ([])) (no_fields))) } ∷ []); groups = (record { name = (codes "all"); hosts = ((codes "a") ∷ (codes "b") ∷ (codes "c") ∷ []) } ∷ record { name = (codes "g1"); hosts = ((codes "a") ∷ (codes "b") ∷ (codes "c") ∷ []) } ∷ record { name = (codes "g2"); hosts = ([]) } ∷ record { name = (codes "ungrouped"); hosts = ([]) } ∷ []) })
inventory_368 = refl

inventory_369 : inventory_from (rec (field (codes "_meta") (rec (field (codes "hostvars") (rec (field (codes "a") (rec (no_fields)) (field (codes "b") (rec (field (codes "i2") (text (codes "no")) (no_fields))) (field (codes "c") (rec (no_fields)) (field (codes "d") (rec (field (codes "i1") (rec (field (codes "f") (text (codes "x")) (field (codes "g") (list (no_items)) (no_fields)))) (field (codes "op") opaque (no_fields)))) (no_fields)))))) (no_fields))) (field (codes "all") (rec (field (codes "hosts") (list (item (text (codes "a")) (item (text (codes "b")) (item (text (codes "c")) (item (text (codes "d")) (no_items)))))) (field (codes "vars") (rec (field (codes "i1") (list (item (text (codes "b")) (no_items))) (no_fields))) (no_fields)))) (field (codes "g1") (rec (field (codes "hosts") (list (item (text (codes "a")) (item (text (codes "c")) (item (text (codes "d")) (no_items))))) (field (codes "vars") (rec (field (codes "op") opaque (field (codes "s1") (text (codes "a")) (no_fields)))) (no_fields)))) (no_fields))))) ≡ Ok (record { hosts = (record { name = (codes "a"); variables = (field (codes "i1") (list (item (text (codes "b")) (no_items))) (field (codes "op") opaque (field (codes "s1") (text (codes "a")) (no_fields)))) } ∷ record { name = (codes "b"); variables = (field (codes "i1") (list (item (text (codes "b")) (no_items))) (field (codes "i2") (text (codes "no")) (no_fields))) } ∷ record { name = (codes "c"); variables = (field (codes "i1") (list (item (text (codes "b")) (no_items))) (field (codes "op") opaque (field (codes "s1") (text (codes "a")) (no_fields)))) } ∷ record { name = (codes "d"); variables = (field (codes "i1") (rec (field (codes "f") (text (codes "x")) (field (codes "g") (list (no_items)) (no_fields)))) (field (codes "op") opaque (field (codes "s1") (text (codes "a")) (no_fields)))) } ∷ []); groups = (record { name = (codes "all"); hosts = ((codes "a") ∷ (codes "b") ∷ (codes "c") ∷ (codes "d") ∷ []) } ∷ record { name = (codes "g1"); hosts = ((codes "a") ∷ (codes "c") ∷ (codes "d") ∷ []) } ∷ record { name = (codes "ungrouped"); hosts = ((codes "b") ∷ []) } ∷ []) })
inventory_369 = refl

inventory_370 : inventory_from (rec (field (codes "_meta") (rec (field (codes "hostvars") (rec (field (codes "a") (rec (no_fields)) (field (codes "b") (rec (field (codes "i2") (text (codes "x")) (field (codes "op") opaque (no_fields)))) (no_fields)))) (no_fields))) (field (codes "all") (rec (field (codes "hosts") (list (item (text (codes "a")) (item (text (codes "b")) (no_items)))) (field (codes "vars") (rec (no_fields)) (no_fields)))) (field (codes "g1") (rec (field (codes "hosts") (list (item (text (codes "a")) (no_items))) (field (codes "vars") (rec (field (codes "op") opaque (no_fields))) (no_fields)))) (no_fields))))) ≡ Ok (record { hosts = (record { name = (codes "a"); variables = (field (codes "op") opaque (no_fields)) } ∷ record { name = (codes "b"); variables = (field (codes "i2") (text (codes "x")) (field (codes "op") opaque (no_fields))) } ∷ []); groups = (record { name = (codes "all"); hosts = ((codes "a") ∷ (codes "b") ∷ []) } ∷ record { name = (codes "g1"); hosts = ((codes "a") ∷ []) } ∷ record { name = (codes "ungrouped"); hosts = ((codes "b") ∷ []) } ∷ []) })
inventory_370 = refl

inventory_371 : inventory_from (rec (field (codes "_meta") (rec (field (codes "hostvars") (rec (field (codes "a") (rec (no_fields)) (field (codes "b") (rec (field (codes "i2") (text (codes "x")) (field (codes "s1") (int (pos 1)) (no_fields)))) (field (codes "c") (rec (field (codes "i1") (text (codes "t")) (no_fields))) (field (codes "d") (rec (no_fields)) (no_fields)))))) (no_fields))) (field (codes "all") (rec (field (codes "hosts") (list (item (text (codes "a")) (item (text (codes "b")) (item (text (codes "c")) (item (text (codes "d")) (no_items)))))) (field (codes "vars") (rec (field (codes "op") opaque (no_fields))) (no_fields)))) (field (codes "g1") (rec (field (codes "children") (list (item (text (codes "g2")) (no_items))) (field (codes "hosts") (list (item (text (codes "a")) (item (text (codes "b")) (item (text (codes "d")) (no_items))))) (field (codes "vars") (rec (no_fields)) (no_fields))))) (field (codes "g2") (rec (field (codes "hosts") (list (item (text (codes "a")) (item (text (codes "d")) (no_items)))) (field (codes "vars") (rec (field (codes "i1") (text ([])) (field (codes "i2") (list (no_items)) (no_fields)))) (no_fields)))) (no_fields)))))) ≡ Ok (record { hosts = (record { name = (codes "a"); variables = (field (codes "i1") (text ([])) (field (codes "i2") (list (no_items)) (field (codes "op") opaque (no_fields)))) } ∷ record { name = (codes "b"); variables = (field (codes "i2") (text (codes "x")) (field (codes "op") opaque (field (codes "s1") (int (pos 1)) (no_fields)))) } ∷ record { name = (codes "c"); variables = (field (codes "i1") (text (codes "t")) (field (codes "op") opaque (no_fields))) } ∷ record { name = (codes "d"); variables = (field (codes "i1") (text ([])) (field (codes "i2") (list (no_items)) (field (codes "op") opaque (no_fields)))) } ∷ []); groups = (record { name = (codes "all"); hosts = ((codes "a") ∷ (codes "b") ∷ (codes "c") ∷ (codes "d") ∷ []) } ∷ record { name = (codes "g1"); hosts = ((codes "a") ∷ (codes "b") ∷ (codes "d") ∷ []) } ∷ record { name = (codes "g2"); hosts = ((codes "a") ∷ (codes "d") ∷ []) } ∷ record { name = (codes "ungrouped"); hosts = ((codes "c") ∷ []) } ∷ []) })
inventory_371 = refl

inventory_372 : inventory_from (rec (field (codes "_meta") (rec (field (codes "hostvars") (rec (field (codes "a") (rec (no_fields)) (field (codes "b") (rec (field (codes "op") opaque (field (codes "s1") (int (negsuc 0)) (no_fields)))) (field (codes "c") (rec (field (codes "s1") (list (item (boolean true) (no_items))) (no_fields))) (no_fields))))) (no_fields))) (field (codes "all") (rec (field (codes "hosts") (list (item (text (codes "a")) (item (text (codes "b")) (item (text (codes "c")) (no_items))))) (field (codes "vars") (rec (field (codes "i2") (text (codes "x")) (field (codes "s1") (text (codes "no")) (no_fields)))) (no_fields)))) (field (codes "g1") (rec (field (codes "hosts") (list (no_items)) (field (codes "vars") (rec (field (codes "i1") (boolean true) (field (codes "op") opaque (field (codes "s1") null (no_fields))))) (no_fields)))) (field (codes "g2") (rec (field (codes "hosts") (list (item (text (codes "a")) (item (text (codes "b")) (no_items)))) (field (codes "vars") (rec (field (codes "i1") null (field (codes "i2") (list (item (int (pos 0)) (no_items))) (no_fields)))) (no_fields)))) (no_fields)))))) ≡ Ok (record { hosts = (record { name = (codes "a"); variables = (field (codes "i1") null (field (codes "i2") (list (item (int (pos 0)) (no_items))) (field (codes "s1") (text (codes "no")) (no_fields)))) } ∷ record { name = (codes "b"); variables = (field (codes "i1") null (field (codes "i2") (list (item (int (pos 0)) (no_items))) (field (codes "op") opaque (field (codes "s1") (int (negsuc 0)) (no_fields))))) } ∷ record { name = (codes "c"); variables = (field (codes "i2") (text (codes "x")) (field (codes "s1") (list (item (boolean true) (no_items))) (no_fields))) } ∷ []); groups = (record { name = (codes "all"); hosts = ((codes "a") ∷ (codes "b") ∷ (codes "c") ∷ []) } ∷ record { name = (codes "g1"); hosts = ([]) } ∷ record { name = (codes "g2"); hosts = ((codes "a") ∷ (codes "b") ∷ []) } ∷ record { name = (codes "ungrouped"); hosts = ((codes "c") ∷ []) } ∷ []) })
inventory_372 = refl

inventory_373 : inventory_from (rec (field (codes "_meta") (rec (field (codes "hostvars") (rec (field (codes "a") (rec (no_fields)) (field (codes "b") (rec (field (codes "op") opaque (field (codes "s1") (list (no_items)) (no_fields)))) (field (codes "c") (rec (no_fields)) (field (codes "d") (rec (field (codes "i1") (list (item (boolean true) (no_items))) (field (codes "op") opaque (no_fields)))) (no_fields)))))) (no_fields))) (field (codes "all") (rec (field (codes "hosts") (list (item (text (codes "a")) (item (text (codes "b")) (item (text (codes "c")) (item (text (codes "d")) (no_items)))))) (field (codes "vars") (rec (field (codes "op") opaque (no_fields))) (no_fields)))) (field (codes "g1") (rec (field (codes "hosts") (list (item (text (codes "c")) (no_items))) (field (codes "vars") (rec (field (codes "i1") (text ([])) (field (codes "i2") (int (negsuc 0)) (field (codes "op") opaque (no_fields))))) (no_fields)))) (field (codes "g2") (rec (field (codes "hosts") (list (item (text (codes "a")) (item (text (codes "c")) (item (text (codes "d")) (no_items))))) (field (codes "vars") (rec (field (codes "s1") (list (item (text (codes "no")) (item (text (codes "x")) (no_items)))) (no_fields))) (no_fields)))) (no_fields)))))) ≡ Ok (record { hosts = (record { name = (codes "a"); variables = (field (codes "op") opaque (field (codes "s1") (list (item (text (codes "no")) (item (text (codes "x")) (no_items)))) (no_fields))) } ∷ record { name = (codes "b"); variables = (field (codes "op") opaque (field (codes "s1") (list (no_items)) (no_fields))) } ∷ record { name = (codes "c"); variables = (field (codes "i1") (text ([])) (field (codes "i2") (int (negsuc 0)) (field (codes "op") opaque (field (codes "s1") (list (item (text (codes "no")) (item (text (codes "x")) (no_items)))) (no_fields))))) } ∷ record { name = (codes "d"); variables = (field (codes "i1") (list (item (boolean true) (no_items))) (field (codes "op") opaque (field (codes "s1") (list (item (text (codes "no")) (item (text (codes "x")) (no_items)))) (no_fields)))) } ∷ []); groups = (record { name = (codes "all"); hosts = ((codes "a") ∷ (codes "b") ∷ (codes "c") ∷ (codes "d") ∷ []) } ∷ record { name = (codes "g1"); hosts = ((codes "c") ∷ []) } ∷ record { name = (codes "g2"); hosts = ((codes "a") ∷ (codes "c") ∷ (codes "d") ∷ []) } ∷ record { name = (codes "ungrouped"); hosts = ((codes "b") ∷ []) } ∷ []) })
inventory_373 = refl

inventory_374 : inventory_from (rec (field (codes "_meta") (rec (field (codes "hostvars") (rec (field (codes "a") (rec (no_fields)) (field (codes "b") (rec (field (codes "op") opaque (field (codes "s1") (text (codes "no")) (no_fields)))) (field (codes "c") (rec (field (codes "s1") (boolean true) (no_fields))) (no_fields))))) (no_fields))) (field (codes "all") (rec (field (codes "hosts") (list (item (text (codes "a")) (item (text (codes "b")) (item (text (codes "c")) (no_items))))) (field (codes "vars") (rec (no_fields)) (no_fields)))) (field (codes "g1") (rec (field (codes "hosts") (list (item (text (codes "a")) (item (text (codes "b")) (item (text (codes "c")) (no_items))))) (field (codes "vars") (rec (field (codes "s1") (text (codes "no")) (no_fields))) (no_fields)))) (no_fields))))) ≡ Ok (record { hosts = (record { name = (codes "a"); variables = (field (codes "s1") (text (codes "no")) (no_fields)) } ∷ record { name = (codes "b"); variables = (field (codes "op") opaque (field (codes "s1") (text (codes "no")) (no_fields))) } ∷ record { name = (codes "c"); variables = (field (codes "s1") (boolean true) (no_fields)) } ∷ []); groups = (record { name = (codes "all"); hosts = ((codes "a") ∷ (codes "b") ∷ (codes "c") ∷ []) } ∷ record { name = (codes "g1"); hosts = ((codes "a") ∷ (codes "b") ∷ (codes "c") ∷ []) } ∷ record { name = (codes "ungrouped"); hosts = ([]) } ∷ []) })
inventory_374 = refl

inventory_375 : inventory_from (rec (field (codes "_meta") (rec (field (codes "hostvars") (rec (field (codes "a") (rec (no_fields)) (field (codes "b") (rec (field (codes "op") opaque (field (codes "s1") (text (codes "no")) (no_fields)))) (no_fields)))) (no_fields))) (field (codes "all") (rec (field (codes "hosts") (list (item (text (codes "a")) (item (text (codes "b")) (no_items)))) (field (codes "vars") (rec (field (codes "i1") (text (codes "x")) (no_fields))) (no_fields)))) (field (codes "g1") (rec (field (codes "hosts") (list (no_items)) (field (codes "vars") (rec (field (codes "i2") (boolean false) (field (codes "op") opaque (no_fields)))) (no_fields)))) (no_fields))))) ≡ Ok (record { hosts = (record { name = (codes "a"); variables = (field (codes "i1") (text (codes "x")) (no_fields)) } ∷ record { name = (codes "b"); variables = (field (codes "i1") (text (codes "x")) (field (codes "op") opaque (field (codes "s1") (text (codes "no")) (no_fields)))) } ∷ []); groups = (record { name = (codes "all"); hosts = ((codes "a") ∷ (codes "b") ∷ []) } ∷ record { name = (codes "g1"); hosts = ([]) } ∷ record { name = (codes "ungrouped"); hosts = ((codes "a") ∷ (codes "b") ∷ []) } ∷ []) })
inventory_375 = refl

inventory_376 : inventory_from (rec (field (codes "_meta") (rec (field (codes "hostvars") (rec (field (codes "a") (rec (no_fields)) (field (codes "b") (rec (field (codes "op") opaque (no_fields))) (field (codes "c") (rec (field (codes "i1") (text (codes "b")) (field (codes "s1") null (no_fields)))) (no_fields))))) (no_fields))) (field (codes "all") (rec (field (codes "hosts") (list (item (text (codes "a")) (item (text (codes "b")) (item (text (codes "c")) (no_items))))) (field (codes "vars") (rec (field (codes "op") opaque (no_fields))) (no_fields)))) (field (codes "g1") (rec (field (codes "children") (list (item (text (codes "g2")) (no_items))) (field (codes "hosts") (list (item (text (codes "b")) (item (text (codes "c")) (no_items)))) (field (codes "vars") (rec (field (codes "s1") (text (codes "x")) (no_fields))) (no_fields))))) (field (codes "g2") (rec (field (codes "hosts") (list (item (text (codes "b")) (no_items))) (field (codes "vars") (rec (no_fields)) (no_fields)))) (no_fields)))))) ≡ Ok (record { hosts = (record { name = (codes "a"); variables = (field (codes "op") opaque (no_fields)) } ∷ record { name = (codes "b"); variables = (field (codes "op") opaque (field (codes "s1") (text (codes "x")) (no_fields))) } ∷ record { name = (codes "c"); variables = (field (codes "i1") (text (codes "b")) (field (codes "op") opaque (field (codes "s1") null (no_fields)))) } ∷ []); groups = (record { name = (codes "all"); hosts = ((codes "a") ∷ (codes "b") ∷ (codes "c") ∷ []) } ∷ record { name = (codes "g1"); hosts = ((codes "b") ∷ (codes "c") ∷ []) } ∷ record { name = (codes "g2"); hosts = ((codes "b") ∷ []) } ∷ record { name = (codes "ungrouped"); hosts = ((codes "a") ∷ []) } ∷ []) })
inventory_376 = refl

inventory_377 : inventory_from (rec (field (codes "_meta") (rec (field (codes "hostvars") (rec (field (codes "a") (rec (no_fields)) (field (codes "b") (rec (field (codes "op") opaque (no_fields))) (field (codes "c") (rec (field (codes "i2") (boolean true) (no_fields))) (no_fields))))) (no_fields))) (field (codes "all") (rec (field (codes "hosts") (list (item (text (codes "a")) (item (text (codes "b")) (item (text (codes "c")) (no_items))))) (field (codes "vars") (rec (no_fields)) (no_fields)))) (field (codes "g1") (rec (field (codes "hosts") (list (item (text (codes "a")) (item (text (codes "b")) (item (text (codes "c")) (no_items))))) (field (codes "vars") (rec (field (codes "i2") (boolean false) (no_fields))) (no_fields)))) (no_fields))))) ≡ Ok (record { hosts = (record { name = (codes "a"); variables = (field (codes "i2") (boolean false) (no_fields)) } ∷ record { name = (codes "b"); variables = (field (codes "i2") (boolean false) (field (codes "op") opaque (no_fields))) } ∷ record { name = (codes "c"); variables = (field (codes "i2") (boolean true) (no_fields)) } ∷ []); groups = (record { name = (codes "all"); hosts = ((codes "a") ∷ (codes "b") ∷ (codes "c") ∷ []) } ∷ record { name = (codes "g1"); hosts = ((codes "a") ∷ (codes "b") ∷ (codes "c") ∷ []) } ∷ record { name = (codes "ungrouped"); hosts = ([]) } ∷ []) })
inventory_377 = refl

inventory_378 : inventory_from (rec (field (codes "_meta") (rec (field (codes "hostvars") (rec (field (codes "a") (rec (no_fields)) (field (codes "b") (rec (field (codes "op") opaque (no_fields))) (field (codes "c") (rec (field (codes "i2") (int (pos 0)) (field (codes "s1") (text (codes "b")) (no_fields)))) (no_fields))))) (no_fields))) (field (codes "all") (rec (field (codes "hosts") (list (item (text (codes "a")) (item (text (codes "b")) (item (text (codes "c")) (no_items))))) (field (codes "vars") (rec (field (codes "i1") (list (item (boolean false) (no_items))) (field (codes "op") opaque (field (codes "s1") (text (codes "b")) (no_fields))))) (no_fields)))) (field (codes "g1") (rec (field (codes "hosts") (list (item (text (codes "a")) (item (text (codes "b")) (no_items)))) (field (codes "vars") (rec (field (codes "i2") (rec (field (codes "f") (list (item (text ([])) (item (int (negsuc 0)) (no_items)))) (field (codes "g") (text (codes "t")) (no_fields)))) (no_fields))) (no_fields)))) (no_fields))))) ≡ Ok (record { hosts = (record { name = (codes "a"); variables = (field (codes "i1") (list (item (boolean false) (no_items))) (field (codes "i2") (rec (field (codes "f") (list (item (text ([])) (item (int (negsuc 0)) (no_items)))) (field (codes "g") (text (codes "t")) (no_fields)))) (field (codes "op") opaque (field (codes "s1") (text (codes "b")) (no_fields))))) } ∷ record { name = (codes "b"); variables = (field (codes "i1") (list (item (boolean false) (no_items))) (field (codes "i2") (rec (field (codes "f") (list (item (text ([])) (item (int (negsuc 0)) (no_items)))) (field (codes "g") (text (codes "t")) (no_fields)))) (field (codes "op") opaque (field (codes "s1") (text (codes "b")) (no_fields))))) } ∷ record { name = (codes "c"); variables = (field (codes "i1") (list (item (boolean false) (no_items))) (field (codes "i2") (int (pos 0)) (field (codes "op") opaque (field (codes "s1") (text (codes "b")) (no_fields))))) } ∷ []); groups = (record { name = (codes "all"); hosts = ((codes "a") ∷ (codes "b") ∷ (codes "c") ∷ []) } ∷ record { name = (codes "g1"); hosts = ((codes "a") ∷ (codes "b") ∷ []) } ∷ record { name = (codes "ungrouped"); hosts = ((codes "c") ∷ []) } ∷ []) })
inventory_378 = refl

inventory_379 : inventory_from (rec (field (codes "_meta") (rec (field (codes "hostvars") (rec (field (codes "a") (rec (no_fields)) (field (codes "b") (rec (field (codes "op") opaque (no_fields))) (field (codes "c") (rec (field (codes "i2") (int (pos 1)) (no_fields))) (no_fields))))) (no_fields))) (field (codes "all") (rec (field (codes "hosts") (list (item (text (codes "a")) (item (text (codes "b")) (item (text (codes "c")) (no_items))))) (field (codes "vars") (rec (field (codes "i1") (text (codes "no")) (field (codes "i2") (text (codes "a")) (no_fields)))) (no_fields)))) (field (codes "g2") (rec (field (codes "hosts") (list (item (text (codes "a")) (item (text (codes "b")) (item (text (codes "c")) (no_items))))) (field (codes "vars") (rec (field (codes "i2") (list (item (boolean false) (item (text (codes "no")) (no_items)))) (field (codes "op") opaque (no_fields)))) (no_fields)))) (no_fields))))) ≡ Ok (record { hosts = (record { name = (codes "a"); variables = (field (codes "i1") (text (codes "no")) (field (codes "i2") (list (item (boolean false) (item (text (codes "no")) (no_items)))) (field (codes "op") opaque (no_fields)))) } ∷ record { name = (codes "b"); variables = (field (codes "i1") (text (codes "no")) (field (codes "i2") (list (item (boolean false) (item (text (codes "no")) (no_items)))) (field (codes "op") opaque (no_fields)))) } ∷ record { name = (codes "c"); variables = (field (codes "i1") (text (codes "no")) (field (codes "i2") (int (pos 1)) (field (codes "op") opaque (no_fields)))) } ∷ []); groups = (record { name = (codes "all"); hosts = ((codes "a") ∷ (codes "b") ∷ (codes "c") ∷ []) } ∷ record { name = (codes "g2"); hosts = ((codes "a") ∷ (codes "b") ∷ (codes "c") ∷ []) } ∷ record { name = (codes "ungrouped"); hosts = ([]) } ∷ []) })
inventory_379 = refl

inventory_380 : inventory_from (rec (field (codes "_meta") (rec (field (codes "hostvars") (rec (field (codes "a") (rec (no_fields)) (field (codes "b") (rec (field (codes "op") opaque (no_fields))) (field (codes "c") (rec (no_fields)) (field (codes "d") (rec (field (codes "op") opaque (field (codes "s1") (rec (field (codes "f") (boolean false) (field (codes "g") (int (pos 1)) (no_fields)))) (no_fields)))) (no_fields)))))) (no_fields))) (field (codes "all") (rec (field (codes "hosts") (list (item (text (codes "a")) (item (text (codes "b")) (item (text (codes "c")) (item (text (codes "d")) (no_items)))))) (field (codes "vars") (rec (field (codes "i2") (list (item (boolean false) (item (text (codes "b")) (no_items)))) (field (codes "s1") (int (pos 0)) (no_fields)))) (no_fields)))) (field (codes "g1") (rec (field (codes "hosts") (list (item (text (codes "a")) (item (text (codes "b")) (item (text (codes "c")) (no_items))))) (field (codes "vars") (rec (field (codes "i1") (boolean true) (field (codes "i2") (list (item (text (codes "b")) (item (text (codes "a")) (no_items)))) (field (codes "s1") (text (codes "no")) (no_fields))))) (no_fields)))) (no_fields))))) ≡ Ok (record { hosts = (record { name = (codes "a"); variables = (field (codes "i1") (boolean true) (field (codes "i2") (list (item (text (codes "b")) (item (text (codes "a")) (no_items)))) (field (codes "s1") (text (codes "no")) (no_fields)))) } ∷ record { name = (codes "b"); variables = (field (codes "i1") (boolean true) (field (codes "i2") (list (item (text (codes "b")) (item (text (codes "a")) (no_items)))) (field (codes "op") opaque (field (codes "s1") (text (codes "no")) (no_fields))))) } ∷ record { name = (codes "c"); variables = (field (codes "i1") (boolean true) (field (codes "i2") (list (item (text (codes "b")) (item (text (codes "a")) (no_items)))) (field (codes "s1") (text (codes "no")) (no_fields)))) } ∷ record { name = (codes "d"); variables = (field (codes "i2") (list (item (boolean false) (item (text (codes "b")) (no_items)))) (field (codes "op") opaque (field (codes "s1") (rec (field (codes "f") (boolean false) (field (codes "g") (int (pos 1)) (no_fields)))) (no_fields)))) } ∷ []); groups = (record { name = (codes "all"); hosts = ((codes "a") ∷ (codes "b") ∷ (codes "c") ∷ (codes "d") ∷ []) } ∷ record { name = (codes "g1"); hosts = ((codes "a") ∷ (codes "b") ∷ (codes "c") ∷ []) } ∷ record { name = (codes "ungrouped"); hosts = ((codes "d") ∷ []) } ∷ []) })
inventory_380 = refl

inventory_381 : inventory_from (rec (field (codes "_meta") (rec (field (codes "hostvars") (rec (field (codes "a") (rec (no_fields)) (field (codes "b") (rec (field (codes "op") opaque (no_fields))) (field (codes "c") (rec (no_fields)) (no_fields))))) (no_fields))) (field (codes "all") (rec (field (codes "hosts") (list (item (text (codes "a")) (item (text (codes "b")) (item (text (codes "c")) (no_items))))) (field (codes "vars") (rec (field (codes "i1") (int (pos 2)) (no_fields))) (no_fields)))) (field (codes "g1") (rec (field (codes "hosts") (list (item (text (codes "a")) (item (text (codes "b")) (no_items)))) (field (codes "vars") (rec (field (codes "i2") (text (codes "no")) (no_fields))) (no_fields)))) (field (codes "g2") (rec (field (codes "hosts") (list (item (text (codes "a")) (item (text (codes "b")) (item (text (codes "c")) (no_items))))) (field (codes "vars") (rec (no_fields)) (no_fields)))) (no_fields)))))) ≡ Ok (record { hosts = (record { name = (codes "a"); variables = (field (codes "i1") (int (pos 2)) (field (codes "i2") (text (codes "no")) (no_fields))) } ∷ record { name = (codes "b"); variables = (field (codes "i1") (int (pos 2)) (field (codes "i2") (text (codes "no")) (field (codes "op") opaque (no_fields)))) } ∷ record { name = (codes "c"); variables = (field (codes "i1") (int (pos 2)) (no_fields)) } ∷ []); groups = (record { name = (codes "all"); hosts = ((codes "a") ∷ (codes "b") ∷ (codes "c") ∷ []) } ∷ record { name = (codes "g1"); hosts = ((codes "a") ∷ (codes "b") ∷ []) } ∷ record { name = (codes "g2"); hosts = ((codes "a") ∷ (codes "b") ∷ (codes "c") ∷ []) } ∷ record { name = (codes "ungrouped"); hosts = ([]) } ∷ []) })
inventory_381 = refl

inventory_382 : inventory_from (rec (field (codes "_meta") (rec (field (codes "hostvars") (rec (field (codes "a") (rec (no_fields)) (field (codes "b") (rec (field (codes "op") opaque (no_fields))) (no_fields)))) (no_fields))) (field (codes "all") (rec (field (codes "hosts") (list (item (text (codes "a")) (item (text (codes "b")) (no_items)))) (field (codes "vars") (rec (field (codes "op") opaque (no_fields))) (no_fields)))) (field (codes "g1") (rec (field (codes "hosts") (list (item (text (codes "a")) (item (text (codes "b")) (no_items)))) (field (codes "vars") (rec (field (codes "s1") (boolean true) (no_fields))) (no_fields)))) (field (codes "g2") (rec (field (codes "hosts") (list (no_items)) (field (codes "vars") (rec (field (codes "i1") (boolean false) (no_fields))) (no_fields)))) (no_fields)))))) ≡ Ok (record { hosts = (record { name = (codes "a"); variables = (field (codes "op") opaque (field (codes "s1") (boolean true) (no_fields))) } ∷ record { name = (codes "b"); variables = (field (codes "op") opaque (field (codes "s1") (boolean true) (no_fields))) } ∷ []); groups = (record { name = (codes "all"); hosts = ((codes "a") ∷ (codes "b") ∷ []) } ∷ record { name = (codes "g1"); hosts = ((codes "a") ∷ (codes "b") ∷ []) } ∷ record { name = (codes "g2"); hosts = ([]) } ∷ record { name = (codes "ungrouped"); hosts = ([]) } ∷ []) })
inventory_382 = refl

inventory_383 : inventory_from (rec (field (codes "_meta") (rec (field (codes "hostvars") (rec (field (codes "a") (rec (no_fields)) (field (codes "b") (rec (field (codes "op") opaque (no_fields))) (no_fields)))) (no_fields))) (field (codes "all") (rec (field (codes "hosts") (list (item (text (codes "a")) (item (text (codes "b")) (no_items)))) (field (codes "vars") (rec (field (codes "s1") (text (codes "a")) (no_fields))) (no_fields)))) (field (codes "g2") (rec (field (codes "hosts") (list (no_items)) (field (codes "vars") (rec (field (codes "op") opaque (no_fields))) (no_fields)))) (no_fields))))) ≡ Ok (record { hosts = (record { name = (codes "a"); variables = (field (codes "s1") (text (codes "a")) (no_fields)) } ∷ record { name = (codes "b"); variables = (field (codes "op") opaque (field (codes "s1") (text (codes "a")) (no_fields))) } ∷ []); groups = (record { name = (codes "all"); hosts = ((codes "a") ∷ (codes "b") ∷ []) } ∷ record { name = (codes "g2"); hosts = ([]) } ∷ record { name = (codes "ungrouped"); hosts = ((codes "a") ∷ (codes "b") ∷ []) } ∷ []) })
inventory_383 = refl

inventory_384 : inventory_from (rec (field (codes "_meta") (rec (field (codes "hostvars") (rec (field (codes "a") (rec (no_fields)) (field (codes "b") (rec (field (codes "op") opaque (no_fields))) (no_fields)))) (no_fields))) (field (codes "all") (rec (field (codes "hosts") (list (item (text (codes "a")) (item (text (codes "b")) (no_items)))) (field (codes "vars") (rec (no_fields)) (no_fields)))) (field (codes "g1") (rec (field (codes "children") (list (item (text (codes "g2")) (no_items))) (field (codes "hosts") (list (item (text (codes "a")) (item (text (codes "b")) (no_items)))) (field (codes "vars") (rec (field (codes "i1") (list (item (text (codes "a")) (no_items))) (field (codes "op") opaque (no_fields)))) (no_fields))))) (field (codes "g2") (rec (field (codes "hosts") (list (item (text (codes "b")) (no_items))) (field (codes "vars") (rec (no_fields)) (no_fields)))) (no_fields)))))) ≡ Ok (record { hosts = (record { name = (codes "a"); variables = (field (codes "i1") (list (item (text (codes "a")) (no_items))) (field (codes "op") opaque (no_fields))) } ∷ record { name = (codes "b"); variables = (field (codes "i1") (list (item (text (codes "a")) (no_items))) (field (codes "op") opaque (no_fields))) } ∷ []); groups = (record { name = (codes "all"); hosts = ((codes "a") ∷ (codes "b") ∷ []) } ∷ record { name = (codes "g1"); hosts = ((codes "a") ∷ (codes "b") ∷ []) } ∷ record { name = (codes "g2"); hosts = ((codes "b") ∷ []) } ∷ record { name = (codes "ungrouped"); hosts = ([]) } ∷ []) })
inventory_384 = refl

inventory_385 : inventory_from (rec (field (codes "_meta") (rec (field (codes "hostvars") (rec (field (codes "a") (rec (no_fields)) (field (codes "b") (rec (field (codes "op") opaque (no_fields))) (no_fields)))) (no_fields))) (field (codes "all") (rec (field (codes "hosts") (list (item (text (codes "a")) (item (text (codes "b")) (no_items)))) (field (codes "vars") (rec (no_fields)) (no_fields)))) (field (codes "g1") (rec (field (codes "hosts") (list (item (text (codes "a")) (item (text (codes "b")) (no_items)))) (field (codes "vars") (rec (field (codes "i1") (boolean true) (field (codes "i2") (list (no_items)) (field (codes "op") opaque (field (codes "s1") (list (item (text (codes "no")) (no_items))) (no_fields)))))) (no_fields)))) (no_fields))))) ≡ Ok (record { hosts = (record { name = (codes "a"); variables = (field (codes "i1") (boolean true) (field (codes "i2") (list (no_items)) (field (codes "op") opaque (field (codes "s1") (list (item (text (codes "no")) (no_items))) (no_fields))))) } ∷ record { name = (codes "b"); variables = (field (codes "i1") (boolean true) (field (codes "i2") (list (no_items)) (field (codes "op") opaque (field (codes "s1") (list (item (text (codes "no")) (no_items))) (no_fields))))) } ∷ []); groups = (record { name = (codes "all"); hosts = ((codes "a") ∷ (codes "b") ∷ []) } ∷ record { name = (codes "g1"); hosts = ((codes "a") ∷ (codes "b") ∷ []) } ∷ record { name = (codes "ungrouped"); hosts = ([]) } ∷ []) })
inventory_385 = refl

inventory_386 : inventory_from (rec (field (codes "_meta") (rec (field (codes "hostvars") (rec (field (codes "a") (rec (no_fields)) (field (codes "b") (rec (field (codes "s1") (boolean false) (no_fields))) (field (codes "c") (rec (field (codes "i2") (boolean false) (no_fields))) (field (codes "d") (rec (no_fields)) (no_fields)))))) (no_fields))) (field (codes "all") (rec (field (codes "hosts") (list (item (text (codes "a")) (item (text (codes "b")) (item (text (codes "c")) (item (text (codes "d")) (no_items)))))) (field (codes "vars") (rec (field (codes "s1") (text (codes "b")) (no_fields))) (no_fields)))) (field (codes "g1") (rec (field (codes "hosts") (list (item (text (codes "a")) (item (text (codes "b")) (item (text (codes "c")) (no_items))))) (field (codes "vars") (rec (field (codes "op") opaque (field (codes "s1") (boolean true) (no_fields)))) (no_fields)))) (field (codes "g2") (rec (field (codes "hosts") (list (item (text (codes "a")) (item (text (codes "c")) (no_items)))) (field (codes "vars") (rec (field (codes "i1") (text (codes "x")) (field (codes "i2") null (no_fields)))) (no_fields)))) (no_fields)))))) ≡ Ok (record { hosts = (record { name = (codes "a"); variables = (field (codes "i1") (text (codes "x")) (field (codes "i2") null (field (codes "op") opaque (field (codes "s1") (boolean true) (no_fields))))) } ∷ record { name = (codes "b"); variables = (field (codes "op") opaque (field (codes "s1") (boolean false) (no_fields))) } ∷ record { name = (codes "c"); variables = (field (codes "i1") (text (codes "x")) (field (codes "i2") (boolean false) (field (codes "op") opaque (field (codes "s1") (boolean true) (no_fields))))) } ∷ record { name = (codes "d"); variables = (field (codes "s1") (text (codes "b")) (no_fields)) } ∷ []); groups = (record { name = (codes "all"); hosts = ((codes "a") ∷ (codes "b") ∷ (codes "c") ∷ (codes "d") ∷ []) } ∷ record { name = (codes "g1"); hosts = ((codes "a") ∷ (codes "b") ∷ (codes "c") ∷ []) } ∷ record { name = (codes "g2"); hosts = ((codes "a") ∷ (codes "c") ∷ []) } ∷ record { name = (codes "ungrouped"); hosts = ((codes "d") ∷ []) } ∷ []) })
inventory_386 = refl

inventory_387 : inventory_from (rec (field (codes "_meta") (rec (field (codes "hostvars") (rec (field (codes "a") (rec (no_fields)) (field (codes "b") (rec (field (codes "s1") (boolean false) (no_fields))) (field (codes "c") (rec (field (codes "op") opaque (no_fields))) (field (codes "d") (rec (field (codes "i1") (list (item null (no_items))) (field (codes "op") opaque (no_fields)))) (no_fields)))))) (no_fields))) (field (codes "all") (rec (field (codes "hosts") (list (item (text (codes "a")) (item (text (codes "b")) (item (text (codes "c")) (item (text (codes "d")) (no_items)))))) (field (codes "vars") (rec (field (codes "i2") (list (item (text (codes "b")) (item (boolean false) (no_items)))) (field (codes "s1") (text (codes "no")) (no_fields)))) (no_fields)))) (field (codes "g1") (rec (field (codes "hosts") (list (item (text (codes "a")) (item (text (codes "d")) (no_items)))) (field (codes "vars") (rec (no_fields)) (no_fields)))) (no_fields))))) ≡ Ok (record { hosts = (record { name = (codes "a"); variables = (field (codes "i2") (list (item (text (codes "b")) (item (boolean false) (no_items)))) (field (codes "s1") (text (codes "no")) (no_fields))) } ∷ record { name = (codes "b"); variables = (field (codes "i2") (list (item (text (codes "b")) (item (boolean false) (no_items)))) (field (codes "s1") (boolean false) (no_fields))) } ∷ record { name = (codes "c"); variables = (field (codes "i2") (list (item (text (codes "b")) (item (boolean false) (no_items)))) (field (codes "op") opaque (field (codes "s1") (text (codes "no")) (no_fields)))) } ∷ record { name = (codes "d"); variables = (field (codes "i1") (list (item null (no_items))) (field (codes "i2") (list (item (text (codes "b")) (item (boolean false) (no_items)))) (field (codes "op") opaque (field (codes "s1") (text (codes "no")) (no_fields))))) } ∷ []); groups = (record { name = (codes "all"); hosts = ((codes "a") ∷ (codes "b") ∷ (codes "c") ∷ (codes "d") ∷ []) } ∷ record { name = (codes "g1"); hosts = ((codes "a") ∷ (codes "d") ∷ []) } ∷ record { name = (codes "ungrouped"); hosts = ((codes "b") ∷ (codes "c") ∷ []) } ∷ []) })
inventory_387 = refl

inventory_388 : inventory_from (rec (field (codes "_meta") (rec (field (codes "hostvars") (rec (field (codes "a") (rec (no_fields)) (field (codes "b") (rec (field (codes "s1") (boolean true) (no_fields))) (field (codes "c") (rec (field (codes "i1") (boolean false) (field (codes "i2") null (no_fields)))) (field (codes "d") (rec (no_fields)) (no_fields)))))) (no_fields))) (field (codes "all") (rec (field (codes "hosts") (list (item (text (codes "a")) (item (text (codes "b")) (item (text (codes "c")) (item (text (codes "d")) (no_items)))))) (field (codes "vars") (rec (no_fields)) (no_fields)))) (field (codes "g1") (rec (field (codes "children") (list (item (text (codes "g2")) (no_items))) (field (codes "hosts") (list (item (text (codes "a")) (item (text (codes "b")) (item (text (codes "c")) (no_items))))) (field (codes "vars") (rec (no_fields)) (no_fields))))) (field (codes "g2") (rec (field (codes "hosts") (list (item (text (codes "a")) (item (text (codes "c")) (item (text (codes "d")) (no_items))))) (field (codes "vars") (rec (field (codes "s1") (list (no_items)) (no_fields))) (no_fields)))) (no_fields)))))) ≡ Ok (record { hosts = (record { name = (codes "a"); variables = (field (codes "s1") (list (no_items)) (no_fields)) } ∷ record { name = (codes "b"); variables = (field (codes "s1") (boolean true) (no_fields)) } ∷ record { name = (codes "c"); variables = (field (codes "i1") (boolean false) (field (codes "i2") null (field (codes "s1") (list (no_items)) (no_fields)))) } ∷ record { name = (codes "d"); variables = (field (codes "s1") (list (no_items)) (no_fields)) } ∷ []); groups = (record { name = (codes "all"); hosts = ((codes "a") ∷ (codes "b") ∷ (codes "c") ∷ (codes "d") ∷ []) } ∷ record { name = (codes "g1"); hosts = ((codes "a") ∷ (codes "b") ∷ (codes "c") ∷ (codes "d") ∷ []) } ∷ record { name = (codes "g2"); hosts = ((codes "a") ∷ (codes "c") ∷ (codes "d") ∷ []) } ∷ record { name = (codes "ungrouped"); hosts = ([]) } ∷ []) })
inventory_388 = refl

inventory_389 : inventory_from (rec (field (codes "_meta") (rec (field (codes "hostvars") (rec (field (codes "a") (rec (no_fields)) (field (codes "b") (rec (field (codes "s1") (boolean true) (no_fields))) (no_fields)))) (no_fields))) (field (codes "all") (rec (field (codes "hosts") (list (item (text (codes "a")) (item (text (codes "b")) (no_items)))) (field (codes "vars") (rec (field (codes "i2") (text (codes "t")) (no_fields))) (no_fields)))) (field (codes "g1") (rec (field (codes "children") (list (item (text (codes "g2")) (no_items))) (field (codes "hosts") (list (no_items)) (field (codes "vars") (rec (field (codes "s1") (boolean false) (no_fields))) (no_fields))))) (field (codes "g2") (rec (field (codes "hosts") (list (item (text (codes "b")) (no_items))) (field (codes "vars") (rec (field (codes "i1") (boolean false) (field (codes "i2") (text (codes "a")) (no_fields)))) (no_fields)))) (no_fields)))))) ≡ Ok (record { hosts = (record { name = (codes "a"); variables = (field (codes "i2") (text (codes "t")) (no_fields)) } ∷ record { name = (codes "b"); variables = (field (codes "i1") (boolean false) (field (codes "i2") (text (codes "a")) (field (codes "s1") (boolean true) (no_fields)))) } ∷ []); groups = (record { name = (codes "all"); hosts = ((codes "a") ∷ (codes "b") ∷ []) } ∷ record { name = (codes "g1"); hosts = ((codes "b") ∷ []) } ∷ record { name = (codes "g2"); hosts = ((codes "b") ∷ []) } ∷ record { name = (codes "ungrouped"); hosts = ((codes "a") ∷ []) } ∷ []) })
inventory_389 = refl

inventory_390 : inventory_from (rec (field (codes "_meta") (rec (field (codes "hostvars") (rec (field (codes "a") (rec (no_fields)) (field (codes "b") (rec (field (codes "s1") (int (pos 1)) (no_fields))) (field (codes "c") (rec (no_fields)) (field (codes "d") (rec (no_fields)) (no_fields)))))) (no_fields))) (field (codes "all") (rec (field (codes "hosts") (list (item (text (codes "a")) (item (text (codes "b")) (item (text (codes "c")) (item (text (codes "d")) (no_items)))))) (field (codes "vars") (rec (field (codes "i2") (list (item (int (pos 1)) (no_items))) (field (codes "s1") (text (codes "b")) (no_fields)))) (no_fields)))) (field (codes "g1") (rec (field (codes "hosts") (list (item (text (codes "a")) (item (text (codes "c")) (item (text (codes "d")) (no_items))))) (field (codes "vars") (rec (no_fields)) (no_fields)))) (field (codes "g2") (rec (field (codes "hosts") (list (item (text (codes "a")) (item (text (codes "b")) (item (text (codes "c")) (item (text (codes "d")) (no_items)))))) (field (codes "vars") (rec (field (codes "op") opaque (no_fields))) (no_fields)))) (no_fields)))))) ≡ Ok (record { hosts = (record { name = (codes "a"); variables = (field (codes "i2") (list (item (int (pos 1)) (no_items))) (field (codes "op") opaque (field (codes "s1") (text (codes "b")) (no_fields)))) } ∷ record { name = (codes "b"); variables = (field (codes "i2") (list (item (int (pos 1)) (no_items))) (field (codes "op") opaque (field (codes "s1") (int (pos 1)) (no_fields)))) } ∷ record { name = (codes "c"); variables = (field (codes "i2") (list (item (int (pos 1)) (no_items))) (field (codes "op") opaque (field (codes "s1") (text (codes "b")) (no_fields)))) } ∷ record { name = (codes "d"); variables = (field (codes "i2") (list (item (int (pos 1)) (no_items))) (field (codes "op") opaque (field (codes "s1") (text (codes "b")) (no_fields)))) } ∷ []); groups = (record { name = (codes "all"); hosts = ((codes "a") ∷ (codes "b") ∷ (codes "c") ∷ (codes "d") ∷ []) } ∷ record { name = (codes "g1"); hosts = ((codes "a") ∷ (codes "c") ∷ (codes "d") ∷ []) } ∷ record { name = (codes "g2"); hosts = ((codes "a") ∷ (codes "b") ∷ (codes "c") ∷ (codes "d") ∷ []) } ∷ record { name = (codes "ungrouped"); hosts = ([]) } ∷ []) })
inventory_390 = refl

inventory_391 : inventory_from (rec (field (codes "_meta") (rec (field (codes "hostvars") (rec (field (codes "a") (rec (no_fields)) (field (codes "b") (rec (field (codes "s1") (int (pos 2)) (no_fields))) (no_fields)))) (no_fields))) (field (codes "all") (rec (field (codes "hosts") (list (item (text (codes "a")) (item (text (codes "b")) (no_items)))) (field (codes "vars") (rec (field (codes "i2") (boolean true) (field (codes "op") opaque (no_fields)))) (no_fields)))) (field (codes "g1") (rec (field (codes "hosts") (list (item (text (codes "a")) (no_items))) (field (codes "vars") (rec (field (codes "i2") (text (codes "no")) (no_fields))) (no_fields)))) (field (codes "g2") (rec (field (codes "hosts") (list (no_items)) (field (codes "vars") (rec (no_fields)) (no_fields)))) (no_fields)))))) ≡ Ok (record { hosts = (record { name = (codes "a"); variables = (field (codes "i2") (text (codes "no")) (field (codes "op") opaque (no_fields))) } ∷ record { name = (codes "b"); variables = (field (codes "i2") (boolean true) (field (codes "op") opaque (field (codes "s1") (int (pos 2)) (no_fields)))) } ∷ []); groups = (record { name = (codes "all"); hosts = ((codes "a") ∷ (codes "b") ∷ []) } ∷ record { name = (codes "g1"); hosts = ((codes "a") ∷ []) } ∷ record { name = (codes "g2"); hosts = ([]) } ∷ record { name = (codes "ungrouped"); hosts = ((codes "b") ∷ []) } ∷ []) })
inventory_391 = refl

inventory_392 : inventory_from (rec (field (codes "_meta") (rec (field (codes "hostvars") (rec (field (codes "a") (rec (no_fields)) (field (codes "b") (rec (field (codes "s1") (int (pos 3)) (no_fields))) (field (codes "c") (rec (no_fields)) (no_fields))))) (no_fields))) (field (codes "all") (rec (field (codes "hosts") (list (item (text (codes "a")) (item (text (codes "b")) (item (text (codes "c")) (no_items))))) (field (codes "vars") (rec (field (codes "i2") (text (codes "a")) (no_fields))) (no_fields)))) (field (codes "g1") (rec (field (codes "hosts") (list (item (text (codes "b")) (item (text (codes "c")) (no_items)))) (field (codes "vars") (rec (field (codes "i1") (rec (field (codes "f") (boolean true) (field (codes "g") (text (codes "b")) (no_fields)))) (field (codes "i2") (int (negsuc 0)) (no_fields)))) (no_fields)))) (field (codes "g2") (rec (field (codes "hosts") (list (item (text (codes "c")) (no_items))) (field (codes "vars") (rec (no_fields)) (no_fields)))) (no_fields)))))) ≡ Ok (record { hosts = (record { name = (codes "a"); variables = (field (codes "i2") (text (codes "a")) (no_fields)) } ∷ record { name = (codes "b"); variables = (field (codes "i1") (rec (field (codes "f") (boolean true) (field (codes "g") (text (codes "b")) (no_fields)))) (field (codes "i2") (int (negsuc 0)) (field (codes "s1") (int (pos 3)) (no_fields)))) } ∷ record { name = (codes "c"); variables = (field (codes "i1") (rec (field (codes "f") (boolean true) (field (codes "g") (text (codes "b")) (no_fields)))) (field (codes "i2") (int (negsuc 0)) (no_fields))) } ∷ []); groups = (record { name = (codes "all"); hosts = ((codes "a") ∷ (codes "b") ∷ (codes "c") ∷ []) } ∷ record { name = (codes "g1"); hosts = ((codes "b") ∷ (codes "c") ∷ []) } ∷ record { name = (codes "g2"); hosts = ((codes "c") ∷ []) } ∷ record { name = (codes "ungrouped"); hosts = ((codes "a") ∷ []) } ∷ []) })
inventory_392 = refl

inventory_393 : inventory_from (rec (field (codes "_meta") (rec (field (codes "hostvars") (rec (field (codes "a") (rec (no_fields)) (field (codes "b") (rec (field (codes "s1") (list (item (int (pos 3)) (no_items))) (no_fields))) (field (codes "c") (rec (no_fields)) (field (codes "d") (rec (field (codes "s1") (int (pos 1)) (no_fields))) (no_fields)))))) (no_fields))) (field (codes "all") (rec (field (codes "hosts") (list (item (text (codes "a")) (item (text (codes "b")) (item (text (codes "c")) (item (text (codes "d")) (no_items)))))) (field (codes "vars") (rec (no_fields)) (no_fields)))) (no_fields)))) ≡ Ok (record { hosts = (record { name = (codes "a"); variables = (no_fields) } ∷ record { name = (codes "b"); variables = (field (codes "s1") (list (item (int (pos 3)) (no_items))) (no_fields)) } ∷ record { name = (codes "c"); variables = (no_fields) } ∷ record { name = (codes "d"); variables = (field (codes "s1") (int (pos 1)) (no_fields)) } ∷ []); groups = (record { name = (codes "all"); hosts = ((codes "a") ∷ (codes "b") ∷ (codes "c") ∷ (codes "d") ∷ []) } ∷ record { name = (codes "ungrouped"); hosts = ((codes "a") ∷ (codes "b") ∷ (codes "c") ∷ (codes "d") ∷ []) } ∷ []) })
inventory_393 = refl

inventory_394 : inventory_from (rec (field (codes "_meta") (rec (field (codes "hostvars") (rec (field (codes "a") (rec (no_fields)) (field (codes "b") (rec (field (codes "s1") (list (item (text ([])) (item (text (codes "t")) (no_items)))) (no_fields))) (field (codes "c") (rec (no_fields)) (no_fields))))) (no_fields))) (field (codes "all") (rec (field (codes "hosts") (list (item (text (codes "a")) (item (text (codes "b")) (item (text (codes "c")) (no_items))))) (field (codes "vars") (rec (field (codes "i2") null (no_fields))) (no_fields)))) (field (codes "g1") (rec (field (codes "hosts") (list (item (text (codes "a")) (no_items))) (field (codes "vars") (rec (field (codes "s1") (list (item (int (pos 2)) (item (text (codes "x")) (no_items)))) (no_fields))) (no_fields)))) (no_fields))))) ≡ Ok (record { hosts = (record { name = (codes "a"); variables = (field (codes "i2") null (field (codes "s1") (list (item (int (pos 2)) (item (text (codes "x")) (no_items)))) (no_fields))) } ∷ record { name = (codes "b"); variables = (field (codes "i2") null (field (codes "s1") (list (item (text ([])) (item (text (codes "t")) (no_items)))) (no_fields))) } ∷ record { name = (codes "c"); variables = (field (codes "i2") null (no_fields)) } ∷ []); groups = (record { name = (codes "all"); hosts = ((codes "a") ∷ (codes "b") ∷ (codes "c") ∷ []) } ∷ record { name = (codes "g1"); hosts = ((codes "a") ∷ []) } ∷ record { name = (codes "ungrouped"); hosts = ((codes "b") ∷ (codes "c") ∷ []) } ∷ []) })
inventory_394 = refl

inventory_395 : inventory_from (rec (field (codes "_meta") (rec (field (codes "hostvars") (rec (field (codes "a") (rec (no_fields)) (field (codes "b") (rec (field (codes "s1") (rec (field (codes "f") (text (codes "a")) (field (codes "g") (boolean false) (no_fields)))) (no_fields))) (field (codes "c") (rec (field (codes "s1") (boolean false) (no_fields))) (no_fields))))) (no_fields))) (field (codes "all") (rec (field (codes "hosts") (list (item (text (codes "a")) (item (text (codes "b")) (item (text (codes "c")) (no_items))))) (field (codes "vars") (rec (field (codes "op") opaque (no_fields))) (no_fields)))) (field (codes "g1") (rec (field (codes "hosts") (list (item (text (codes "a")) (item (text (codes "c")) (no_items)))) (field (codes "vars") (rec (field (codes "i1") (text (codes "no")) (field (codes "op") opaque (field (codes "s1") (text (codes "t")) (no_fields))))) (no_fields)))) (no_fields))))) ≡ Ok (record { hosts = (record { name = (codes "a"); variables = (field (codes "i1") (text (codes "no")) (field (codes "op") opaque (field (codes "s1") (text (codes "t")) (no_fields)))) } ∷ record { name = (codes "b"); variables = (field (codes "op") opaque (field (codes "s1") (rec (field (codes "f") (text (codes "a")) (field (codes "g") (boolean false) (no_fields)))) (no_fields))) } ∷ record { name = (codes "c"); variables = (field (codes "i1") (text (codes "no")) (field (codes "op") opaque (field (codes "s1") (boolean false) (no_fields)))) } ∷ []); groups = (record { name = (codes "all"); hosts = ((codes "a") ∷ (codes "b") ∷ (codes "c") ∷ []) } ∷ record { name = (codes "g1"); hosts = ((codes "a") ∷ (codes "c") ∷ []) } ∷ record { name = (codes "ungrouped"); hosts = ((codes "b") ∷ []) } ∷ []) })
inventory_395 = refl

inventory_396 : inventory_from (rec (field (codes "_meta") (rec (field (codes "hostvars") (rec (field (codes "a") (rec (no_fields)) (field (codes "b") (rec (field (codes "s1") (rec (field (codes "f") (text (codes "b")) (no_fields))) (no_fields))) (field (codes "c") (rec (field (codes "op") opaque (no_fields))) (no_fields))))) (no_fields))) (field (codes "all") (rec (field (codes "hosts") (list (item (text (codes "a")) (item (text (codes "b")) (item (text (codes "c")) (no_items))))) (field (codes "vars") (rec (no_fields)) (no_fields)))) (field (codes "g1") (rec (field (codes "children") (list (item (text (codes "g2")) (no_items))) (field (codes "hosts") (list (item (text (codes "b")) (item (text (codes "c")) (no_items)))) (field (codes "vars") (rec (field (codes "i1") (list (item (boolean false) (item (int (pos 1)) (no_items)))) (field (codes "op") opaque (no_fields)))) (no_fields))))) (field (codes "g2") (rec (field (codes "hosts") (list (item (text (codes "b")) (item (text (codes "c")) (no_items)))) (field (codes "vars") (rec (field (codes "s1") (text (codes "t")) (no_fields))) (no_fields)))) (no_fields)))))) ≡ Ok (record { hosts = (record { name = (codes "a"); variables = (no_fields) } ∷ record { name = (codes "b"); variables = (field (codes "i1") (list (item (boolean false) (item (int (pos 1)) (no_items)))) (field (codes "op") opaque (field (codes "s1") (rec (field (codes "f") (text (codes "b")) (no_fields))) (no_fields)))) } ∷ record { name = (codes "c"); variables = (field (codes "i1") (list (item (boolean false) (item (int (pos 1)) (no_items)))) (field (codes "op") opaque (field (codes "s1") (text (codes "t")) (no_fields)))) } ∷ []); groups = (record { name = (codes "all"); hosts = ((codes "a") ∷ (codes "b") ∷ (codes "c") ∷ []) } ∷ record { name = (codes "g1"); hosts = ((codes "b") ∷ (codes "c") ∷ []) } ∷ record { name = (codes "g2"); hosts = ((codes "b") ∷ (codes "c") ∷ []) } ∷ record { name = (codes "ungrouped"); hosts = ((codes "a") ∷ []) } ∷ []) })
inventory_396 = refl

inventory_397 : inventory_from (rec (field (codes "_meta") (rec (field (codes "hostvars") (rec (field (codes "a") (rec (no_fields)) (field (codes "b") (rec (field (codes "s1") (text ([])) (no_fields))) (field (codes "c") (rec (field (codes "i2") (boolean true) (field (codes "s1") (boolean true) (no_fields)))) (field (codes "d") (rec (no_fields)) (no_fields)))))) (no_fields))) (field (codes "all") (rec (field (codes "hosts") (list (item (text (codes "a")) (item (text (codes "b")) (item (text (codes "c")) (item (text (codes "d")) (no_items)))))) (field (codes "vars") (rec (no_fields)) (no_fields)))) (field (codes "g1") (rec (field (codes "hosts") (list (item (text (codes "a")) (item (text (codes "b")) (item (text (codes "c")) (no_items))))) (field (codes "vars") (rec (no_fields)) (no_fields)))) (field (codes "g2") (rec (field (codes "hosts") (list (item (text (codes "a")) (item (text (codes "b")) (item (text (codes "c")) (item (text (codes "d")) (no_items)))))) (field (codes "vars") (rec (no_fields)) (no_fields)))) (no_fields)))))) ≡ Ok (record { hosts = (record { name = (codes "a"); variables = (no_fields) } ∷ record { name = (codes "b"); variables = (field (codes "s1") (text ([])) (no_fields)) } ∷ record { name = (codes "c"); variables = (field (codes "i2") (boolean true) (field (codes "s1") (boolean true) (no_fields))) } ∷ record { name = (codes "d"); variables = (no_fields) } ∷ []); groups = (record { name = (codes "all"); hosts = ((codes "a") ∷ (codes "b") ∷ (codes "c") ∷ (codes "d") ∷ []) } ∷ record { name = (codes "g1"); hosts = ((codes "a") ∷ (codes "b") ∷ (codes "c") ∷ []) } ∷ record { name = (codes "g2"); hosts = ((codes "a") ∷ (codes "b") ∷ (codes "c") ∷ (codes "d") ∷ []) } ∷ record { name = (codes "ungrouped"); hosts = ([]) } ∷ []) })
inventory_397 = refl

inventory_398 : inventory_from (rec (field (codes "_meta") (rec (field (codes "hostvars") (rec (field (codes "a") (rec (no_fields)) (field (codes "b") (rec (field (codes "s1") (text (codes "a")) (no_fields))) (field (codes "c") (rec (field (codes "i1") (list (item (text ([])) (no_items))) (no_fields))) (field (codes "d") (rec (field (codes "i1") (int (pos 2)) (no_fields))) (no_fields)))))) (no_fields))) (field (codes "all") (rec (field (codes "hosts") (list (item (text (codes "a")) (item (text (codes "b")) (item (text (codes "c")) (item (text (codes "d")) (no_items)))))) (field (codes "vars") (rec (field (codes "op") opaque (field (codes "s1") (rec (no_fields)) (no_fields)))) (no_fields)))) (field (codes "g1") (rec (field (codes "hosts") (list (item (text (codes "a")) (item (text (codes "b")) (item (text (codes "c")) (item (text (codes "d")) (no_items)))))) (field (codes "vars") (rec (field (codes "i2") (list (no_items)) (field (codes "op") opaque (field (codes "s1") (list (item (text (codes "b")) (no_items))) (no_fields))))) (no_fields)))) (no_fields))))) ≡ Ok (record { hosts = (record { name = (codes "a"); variables = (field (codes "i2") (list (no_items)) (field (codes "op") opaque (field (codes "s1") (list (item (text (codes "b")) (no_items))) (no_fields)))) } ∷ record { name = (codes "b"); variables = (field (codes "i2") (list (no_items)) (field (codes "op") opaque (field (codes "s1") (text (codes "a")) (no_fields)))) } ∷ record { name = (codes "c"); variables = (field (codes "i1") (list (item (text ([])) (no_items))) (field (codes "i2") (list (no_items)) (field (codes "op") opaque (field (codes "s1") (list (item (text (codes "b")) (no_items))) (no_fields))))) } ∷ record { name = (codes "d"); variables = (field (codes "i1") (int (pos 2)) (field (codes "i2") (list (no_items)) (field (codes "op") opaque (field (codes "s1") (list (item (text (codes "b")) (no_items))) (no_fields))))) } ∷ []); groups = (record { name = (codes "all"); hosts = ((codes "a") ∷ (codes "b") ∷ (codes "c") ∷ (codes "d") ∷ []) } ∷ record { name = (codes "g1"); hosts = ((codes "a") ∷ (codes "b") ∷ (codes "c") ∷ (codes "d") ∷ []) } ∷ record { name = (codes "ungrouped"); hosts = ([]) } ∷ []) })
inventory_398 = refl

inventory_399 : inventory_from (rec (field (codes "_meta") (rec (field (codes "hostvars") (rec (field (codes "a") (rec (no_fields)) (field (codes "b") (rec (field (codes "s1") (text (codes "t")) (no_fields))) (no_fields)))) (no_fields))) (field (codes "all") (rec (field (codes "hosts") (list (item (text (codes "a")) (item (text (codes "b")) (no_items)))) (field (codes "vars") (rec (field (codes "i1") (rec (field (codes "f") (list (item (int (negsuc 0)) (item (text (codes "no")) (no_items)))) (field (codes "g") (boolean true) (no_fields)))) (no_fields))) (no_fields)))) (field (codes "g2") (rec (field (codes "hosts") (list (item (text (codes "a")) (no_items))) (field (codes "vars") (rec (no_fields)) (no_fields)))) (no_fields))))) ≡ Ok (record { hosts = (record { name = (codes "a"); variables = (field (codes "i1") (rec (field (codes "f") (list (item (int (negsuc 0)) (item (text (codes "no")) (no_items)))) (field (codes "g") (boolean true) (no_fields)))) (no_fields)) } ∷ record { name = (codes "b"); variables = (field (codes "i1") (rec (field (codes "f") (list (item (int (negsuc 0)) (item (text (codes "no")) (no_items)))) (field (codes "g") (boolean true) (no_fields)))) (field (codes "s1") (text (codes "t")) (no_fields))) } ∷ []); groups = (record { name = (codes "all"); hosts = ((codes "a") ∷ (codes "b") ∷ []) } ∷ record { name = (codes "g2"); hosts = ((codes "a") ∷ []) } ∷ record { name = (codes "ungrouped"); hosts = ((codes "b") ∷ []) } ∷ []) })
inventory_399 = refl

inventory_400 : inventory_from (rec (field (codes "_meta") (rec (field (codes "hostvars") (rec (field (codes "a") (rec (no_fields)) (field (codes "b") (rec (field (codes "s1") (text (codes "x")) (no_fields))) (field (codes "c") (rec (no_fields)) (field (codes "d") (rec (no_fields)) (no_fields)))))) (no_fields))) (field (codes "all") (rec (field (codes "hosts") (list (item (text (codes "a")) (item (text (codes "b")) (item (text (codes "c")) (item (text (codes "d")) (no_items)))))) (field (codes "vars") (rec (no_fields)) (no_fields)))) (field (codes "g2") (rec (field (codes "hosts") (list (item (text (codes "a")) (item (text (codes "b")) (item (text (codes "c")) (item (text (codes "d")) (no_items)))))) (field (codes "vars") (rec (field (codes "s1") (text (codes "a")) (no_fields))) (no_fields)))) (no_fields))))) ≡ Ok (record { hosts = (record { name = (codes "a"); variables = (field (codes "s1") (text (codes "a")) (no_fields)) } ∷ record { name = (codes "b"); variables = (field (codes "s1") (text (codes "x")) (no_fields)) } ∷ record { name = (codes "c"); variables = (field (codes "s1") (text (codes "a")) (no_fields)) } ∷ record { name = (codes "d"); variables = (field (codes "s1") (text (codes "a")) (no_fields)) } ∷ []); groups = (record { name = (codes "all"); hosts = ((codes "a") ∷ (codes "b") ∷ (codes "c") ∷ (codes "d") ∷ []) } ∷ record { name = (codes "g2"); hosts = ((codes "a") ∷ (codes "b") ∷ (codes "c") ∷ (codes "d") ∷ []) } ∷ record { name = (codes "ungrouped"); hosts = ([]) } ∷ []) })
inventory_400 = refl

inventory_401 : inventory_from (rec (field (codes "_meta") (rec (field (codes "hostvars") (rec (field (codes "a") (rec (no_fields)) (field (codes "b") (rec (no_fields)) (field (codes "c") (rec (field (codes "i1") (boolean false) (field (codes "s1") (list (item (text ([])) (item (boolean false) (no_items)))) (no_fields)))) (field (codes "d") (rec (field (codes "i1") (list (item (int (pos 0)) (item (text ([])) (no_items)))) (field (codes "s1") (int (negsuc 0)) (no_fields)))) (no_fields)))))) (no_fields))) (field (codes "all") (rec (field (codes "hosts") (list (item (text (codes "a")) (item (text (codes "b")) (item (text (codes "c")) (item (text (codes "d")) (no_items)))))) (field (codes "vars") (rec (field (codes "i2") (rec (no_fields)) (no_fields))) (no_fields)))) (field (codes "g1") (rec (field (codes "hosts") (list (item (text (codes "d")) (no_items))) (field (codes "vars") (rec (field (codes "i2") (list (no_items)) (no_fields))) (no_fields)))) (no_fields))))) ≡ Ok (record { hosts = (record { name = (codes "a"); variables = (field (codes "i2") (rec (no_fields)) (no_fields)) } ∷ record { name = (codes "b"); variables = (field (codes "i2") (rec (no_fields)) (no_fields)) } ∷ record { name = (codes "c"); variables = (field (codes "i1") (boolean false) (field (codes "i2") (rec (no_fields)) (field (codes "s1") (list (item (text ([])) (item (boolean false) (no_items)))) (no_fields)))) } ∷ record { name = (codes "d"); variables = (field (codes "i1") (list (item (int (pos 0)) (item (text ([])) (no_items)))) (field (codes "i2") (list (no_items)) (field (codes "s1") (int (negsuc 0)) (no_fields)))) } ∷ []); groups = (record { name = (codes "all"); hosts = ((codes "a") ∷ (codes "b") ∷ (codes "c") ∷ (codes "d") ∷ []) } ∷ record { name = (codes "g1"); hosts = ((codes "d") ∷ []) } ∷ record { name = (codes "ungrouped"); hosts = ((codes "a") ∷ (codes "b") ∷ (codes "c") ∷ []) } ∷ []) })
inventory_401 = refl

inventory_402 : inventory_from (rec (field (codes "_meta") (rec (field (codes "hostvars") (rec (field (codes "a") (rec (no_fields)) (field (codes "b") (rec (no_fields)) (field (codes "c") (rec (field (codes "i1") (rec (no_fields)) (no_fields))) (no_fields))))) (no_fields))) (field (codes "all") (rec (field (codes "hosts") (list (item (text (codes "a")) (item (text (codes "b")) (item (text (codes "c")) (no_items))))) (field (codes "vars") (rec (no_fields)) (no_fields)))) (field (codes "g2") (rec (field (codes "hosts") (list (item (text (codes "a")) (item (text (codes "b")) (no_items)))) (field (codes "vars") (rec (no_fields)) (no_fields)))) (no_fields))))) ≡ Ok (record { hosts = (record { name = (codes "a"); variables = (no_fields) } ∷ record { name = (codes "b"); variables = (no_fields) } ∷ record { name = (codes "c"); variables = (field (codes "i1") (rec (no_fields)) (no_fields)) } ∷ []); groups = (record { name = (codes "all"); hosts = ((codes "a") ∷ (codes "b") ∷ (codes "c") ∷ []) } ∷ record { name = (codes "g2"); hosts = ((codes "a") ∷ (codes "b") ∷ []) } ∷ record { name = (codes "ungrouped"); hosts = ((codes "c") ∷ []) } ∷ []) })
inventory_402 = refl

inventory_403 : inventory_from (rec (field (codes "_meta") (rec (field (codes "hostvars") (rec (field (codes "a") (rec (no_fields)) (field (codes "b") (rec (no_fields)) (field (codes "c") (rec (field (codes "i1") (text ([])) (field (codes "op") opaque (field (codes "s1") (text (codes "t")) (no_fields))))) (no_fields))))) (no_fields))) (field (codes "all") (rec (field (codes "hosts") (list (item (text (codes "a")) (item (text (codes "b")) (item (text (codes "c")) (no_items))))) (field (codes "vars") (rec (no_fields)) (no_fields)))) (field (codes "g1") (rec (field (codes "children") (list (item (text (codes "g2")) (no_items))) (field (codes "hosts") (list (item (text (codes "a")) (item (text (codes "c")) (no_items)))) (field (codes "vars") (rec (field (codes "i2") (rec (no_fields)) (no_fields))) (no_fields))))) (field (codes "g2") (rec (field (codes "hosts") (list (item (text (codes "a")) (no_items))) (field (codes "vars") (rec (field (codes "i2") (list (item (boolean true) (no_items))) (field (codes "s1") (int (pos 3)) (no_fields)))) (no_fields)))) (no_fields)))))) ≡ Ok (record { hosts = (record { name = (codes "a"); variables = (field (codes "i2") (list (item (boolean true) (no_items))) (field (codes "s1") (int (pos 3)) (no_fields))) } ∷ record { name = (codes "b"); variables = (no_fields) } ∷ record { name = (codes "c"); variables = (field (codes "i1") (text ([])) (field (codes "i2") (rec (no_fields)) (field (codes "op") opaque (field (codes "s1") (text (codes "t")) (no_fields))))) } ∷ []); groups = (record { name = (codes "all"); hosts = ((codes "a") ∷ (codes "b") ∷ (codes "c") ∷ []) } ∷ record { name = (codes "g1"); hosts = ((codes "a") ∷ (codes "c") ∷ []) } ∷ record { name = (codes "g2"); hosts = ((codes "a") ∷ []) } ∷ record { name = (codes "ungrouped"); hosts = ((codes "b") ∷ []) } ∷ []) })
inventory_403 = refl

inventory_404 : inventory_from (rec (field (codes "_meta") (rec (field (codes "hostvars") (rec (field (codes "a") (rec (no_fields)) (field (codes "b") (rec (no_fields)) (field (codes "c") (rec (field (codes "i1") (text (codes "a")) (field (codes "i2") (int (negsuc 0)) (no_fields)))) (no_fields))))) (no_fields))) (field (codes "all") (rec (field (codes "hosts") (list (item (text (codes "a")) (item (text (codes "b")) (item (text (codes "c")) (no_items))))) (field (codes "vars") (rec (field (codes "s1") (list (no_items)) (no_fields))) (no_fields)))) (no_fields)))) ≡ Ok (record { hosts = (record { name = (codes "a"); variables = (field (codes "s1") (list (no_items)) (no_fields)) } ∷ record { name = (codes "b"); variables = (field (codes "s1") (list (no_items)) (no_fields)) } ∷ record { name = (codes "c"); variables = (field (codes "i1") (text (codes "a")) (field (codes "i2") (int (negsuc 0)) (field (codes "s1") (list (no_items)) (no_fields)))) } ∷ []); groups = (record { name = (codes "all"); hosts = ((codes "a") ∷ (codes "b") ∷ (codes "c") ∷ []) } ∷ record { name = (codes "ungrouped"); hosts = ((codes "a") ∷ (codes "b") ∷ (codes "c") ∷ []) } ∷ []) })
inventory_404 = refl

inventory_405 : inventory_from (rec (field (codes "_meta") (rec (field (codes "hostvars") (rec (field (codes "a") (rec (no_fields)) (field (codes "b") (rec (no_fields)) (field (codes "c") (rec (field (codes "op") opaque (field (codes "s1") (text (codes "a")) (no_fields)))) (no_fields))))) (no_fields))) (field (codes "all") (rec (field (codes "hosts") (list (item (text (codes "a")) (item (text (codes "b")) (item (text (codes "c")) (no_items))))) (field (codes "vars") (rec (field (codes "i1") (list (item (text (codes "b")) (item (text (codes "t")) (no_items)))) (field (codes "i2") (int (pos 0)) (no_fields)))) (no_fields)))) (field (codes "g2") (rec (field (codes "hosts") (list (item (text (codes "a")) (item (text (codes "b")) (no_items)))) (field (codes "vars") (rec (field (codes "i1") (int (pos 3)) (no_fields))) (no_fields)))) (no_fields))))) ≡ Ok (record { hosts = (record { name = (codes "a"); variables = (field (codes "i1") (int (pos 3)) (field (codes "i2") (int (pos 0)) (no_fields))) } ∷ record { name = (codes "b"); variables = (field (codes "i1") (int (pos 3)) (field (codes "i2") (int (pos 0)) (no_fields))) } ∷ record { name = (codes "c"); variables = (field (codes "i1") (list (item (text (codes "b")) (item (text (codes "t")) (no_items)))) (field (codes "i2") (int (pos 0)) (field (codes "op") opaque (field (codes "s1") (text (codes "a")) (no_fields))))) } ∷ []); groups = (record { name = (codes "all"); hosts = ((codes "a") ∷ (codes "b") ∷ (codes "c") ∷ []) } ∷ record { name = (codes "g2"); hosts = ((codes "a") ∷ (codes "b") ∷ []) } ∷ record { name = (codes "ungrouped"); hosts = ((codes "c") ∷ []) } ∷ []) })
inventory_405 = refl

inventory_406 : inventory_from (rec (field (codes "_meta") (rec (field (codes "hostvars") (rec (field (codes "a") (rec (no_fields)) (field (codes "b") (rec (no_fields)) (field (codes "c") (rec (field (codes "op") opaque (no_fields))) (field (codes "d") (rec (field (codes "i1") (rec (field (codes "f") (list (no_items)) (no_fields))) (field (codes "s1") (text (codes "t")) (no_fields)))) (no_fields)))))) (no_fields))) (field (codes "all") (rec (field (codes "hosts") (list (item (text (codes "a")) (item (text (codes "b")) (item (text (codes "c")) (item (text (codes "d")) (no_items)))))) (field (codes "vars") (rec (field (codes "i1") (boolean true) (field (codes "op") opaque (field (codes "s1") (rec (field (codes "g") (int (pos 1)) (no_fields))) (no_fields))))) (no_fields)))) (field (codes "g1") (rec (field (codes "hosts") (list (item (text (codes "a")) (item (text (codes "b")) (no_items)))) (field (codes "vars") (rec (field (codes "i1") (rec (field (codes "f") (list (item (int (pos 0)) (item (text (codes "a")) (no_items)))) (no_fields))) (no_fields))) (no_fields)))) (field (codes "g2") (rec (field (codes "hosts") (list (item (text (codes "c")) (item (text (codes "d")) (no_items)))) (field (codes "vars") (rec (field (codes "i1") (list (no_items)) (no_fields))) (no_fields)))) (no_fields)))))) ≡ Ok (record { hosts = (record { name = (codes "a"); variables = (field (codes "i1") (rec (field (codes "f") (list (item (int (pos 0)) (item (text (codes "a")) (no_items)))) (no_fields))) (field (codes "op") opaque (field (codes "s1") (rec (field (codes "g") (int (pos 1)) (no_fields))) (no_fields)))) } ∷ record { name = (codes "b"); variables = (field (codes "i1") (rec (field (codes "f") (list (item (int (pos 0)) (item (text (codes "a")) (no_items)))) (no_fields))) (field (codes "op") opaque (field (codes "s1") (rec (field (codes "g") (int (pos 1)) (no_fields))) (no_fields)))) } ∷ record { name = (codes "c"); variables = (field (codes "i1") (list (no_items)) (field (codes "op") opaque (field (codes "s1") (rec (field (codes "g") (int (pos 1)) (no_fields))) (no_fields)))) } ∷ record { name = (codes "d"); variables = (field (codes "i1") (rec (field (codes "f") (list (no_items)) (no_fields))) (field (codes "op") opaque (field (codes "s1") (text (codes "t")) (no_fields)))) } ∷ []); groups = (record { name = (codes "all"); hosts = ((codes "a") ∷ (codes "b") ∷ (codes "c") ∷ (codes "d") ∷ []) } ∷ record { name = (codes "g1"); hosts = ((codes "a") ∷ (codes "b") ∷ []) } ∷ record { name = (codes "g2"); hosts = ((codes "c") ∷ (codes "d") ∷ []) } ∷ record { name = (codes "ungrouped"); hosts = ([]) } ∷ []) })
inventory_406 = refl

inventory_407 : inventory_from (rec (field (codes "_meta") (rec (field (codes "hostvars") (rec (field (codes "a") (rec (no_fields)) (field (codes "b") (rec (no_fields)) (field (codes "c") (rec (field (codes "op") opaque (no_fields))) (no_fields))))) (no_fields))) (field (codes "all") (rec (field (codes "hosts") (list (item (text (codes "a")) (item (text (codes "b")) (item (text (codes "c")) (no_items))))) (field (codes "vars") (rec (field (codes "i2") (boolean true) (no_fields))) (no_fields)))) (field (codes "g1") (rec (field (codes "hosts") (list (item (text (codes "a")) (item (text (codes "b")) (item (text (codes "c")) (no_items))))) (field (codes "vars") (rec (field (codes "i1") (list (item (text (codes "t")) (no_items))) (field (codes "op") opaque (no_fields)))) (no_fields)))) (no_fields))))) ≡ Ok (record { hosts = (record { name = (codes "a"); variables = (field (codes "i1") (list (item (text (codes "t")) (no_items))) (field (codes "i2") (boolean true) (field (codes "op") opaque (no_fields)))) } ∷ record { name = (codes "b"); variables = (field (codes "i1") (list (item (text (codes "t")) (no_items))) (field (codes "i2") (boolean true) (field (codes "op") opaque (no_fields)))) } ∷ record { name = (codes "c"); variables = (field (codes "i1") (list (item (text (codes "t")) (no_items))) (field (codes "i2") (boolean true) (field (codes "op") opaque (no_fields)))) } ∷ []); groups = (record { name = (codes "all"); hosts = ((codes "a") ∷ (codes "b") ∷ (codes "c") ∷ []) } ∷ record { name = (codes "g1"); hosts = ((codes "a") ∷ (codes "b") ∷ (codes "c") ∷ []) } ∷ record { name = (codes "ungrouped"); hosts = ([]) } ∷ []) })
inventory_407 = refl

inventory_408 : inventory_from (rec (field (codes "_meta") (rec (field (codes "hostvars") (rec (field (codes "a") (rec (no_fields)) (field (codes "b") (rec (no_fields)) (field (codes "c") (rec (field (codes "s1") (int (pos 1)) (no_fields))) (no_fields))))) (no_fields))) (field (codes "all") (rec (field (codes "hosts") (list (item (text (codes "a")) (item (text (codes "b")) (item (text (codes "c")) (no_items))))) (field (codes "vars") (rec (field (codes "i1") null (no_fields))) (no_fields)))) (field (codes "g2") (rec (field (codes "hosts") (list (item (text (codes "a")) (item (text (codes "c")) (no_items)))) (field (codes "vars") (rec (field (codes "op") opaque (field (codes "s1") (text ([])) (no_fields)))) (no_fields)))) (no_fields))))) ≡ Ok (record { hosts = (record { name = (codes "a"); variables = (field (codes "i1") null (field (codes "op") opaque (field (codes "s1") (text ([])) (no_fields)))) } ∷ record { name = (codes "b"); variables = (field (codes "i1") null (no_fields)) } ∷ record { name = (codes "c"); variables = (field (codes "i1") null (field (codes "op") opaque (field (codes "s1") (int (pos 1)) (no_fields)))) } ∷ []); groups = (record { name = (codes "all"); hosts = ((codes "a") ∷ (codes "b") ∷ (codes "c") ∷ []) } ∷ record { name = (codes "g2"); hosts = ((codes "a") ∷ (codes "c") ∷ []) } ∷ record { name = (codes "ungrouped"); hosts = ((codes "b") ∷ []) } ∷ []) })
inventory_408 = refl

inventory_409 : inventory_from (rec (field (codes "_meta") (rec (field (codes "hostvars") (rec (field (codes "a") (rec (no_fields)) (field (codes "b") (rec (no_fields)) (field (codes "c") (rec (field (codes "s1") (text (codes "b")) (no_fields))) (no_fields))))) (no_fields))) (field (codes "all") (rec (field (codes "hosts") (list (item (text (codes "a")) (item (text (codes "b")) (item (text (codes "c")) (no_items))))) (field (codes "vars") (rec (field (codes "i2") (list (item (int (pos 2)) (no_items))) (field (codes "s1") (text (codes "no")) (no_fields)))) (no_fields)))) (field (codes "g1") (rec (field (codes "hosts") (list (item (text (codes "b")) (item (text (codes "c")) (no_items)))) (field (codes "vars") (rec (field (codes "i2") (list (item (text (codes "x")) (item (int (pos 0)) (no_items)))) (field (codes "op") opaque (no_fields)))) (no_fields)))) (no_fields))))) ≡ Ok (record { hosts = (record { name = (codes "a"); variables = (field (codes "i2") (list (item (int (pos 2)) (no_items))) (field (codes "s1") (text (codes "no")) (no_fields))) } ∷ record { name = (codes "b"); variables = (field (codes "i2") (list (item (text (codes "x")) (item (int (pos 0)) (no_items)))) (field (codes "op") opaque (field (codes "s1") (text (codes "no")) (no_fields)))) } ∷ record { name = (codes "c"); variables = (field (codes "i2") (list (item (text (codes "x")) (item (int (pos 0)) (no_items)))) (field (codes "op") opaque (field (codes "s1") (text (codes "b")) (no_fields)))) } ∷ []); groups = (record { name = (codes "all"); hosts = ((codes "a") ∷ (codes "b") ∷ (codes "c") ∷ []) } ∷ record { name = (codes "g1"); hosts = ((codes "b") ∷ (codes "c") ∷ []) } ∷ record { name = (codes "ungrouped"); hosts = ((codes "a") ∷ []) } ∷ []) })
inventory_409 = refl

inventory_410 : inventory_from (rec (field (codes "_meta") (rec (field (codes "hostvars") (rec (field (codes "a") (rec (no_fields)) (field (codes "b") (rec (no_fields)) (field (codes "c") (rec (no_fields)) (field (codes "d") (rec (field (codes "i1") (list (item (int (pos 1)) (item (int (pos 1)) (no_items)))) (field (codes "i2") (list (item (int (pos 2)) (no_items))) (field (codes "op") opaque (no_fields))))) (no_fields)))))) (no_fields))) (field (codes "all") (rec (field (codes "hosts") (list (item (text (codes "a")) (item (text (codes "b")) (item (text (codes "c")) (item (text (codes "d")) (no_items)))))) (field (codes "vars") (rec (no_fields)) (no_fields)))) (field (codes "g1") (rec (field (codes "hosts") (list (item (text (codes "c")) (item (text (codes "d")) (no_items)))) (field (codes "vars") (rec (field (codes "s1") (text (codes "b")) (no_fields))) (no_fields)))) (field (codes "g2") (rec (field (codes "hosts") (list (item (text (codes "b")) (item (text (codes "c")) (no_items)))) (field (codes "vars") (rec (no_fields)) (no_fields)))) (no_fields)))))) ≡ Ok (record { hosts = (record { name = (codes "a"); variables = (no_fields) } ∷ record { name = (codes "b"); variables = (no_fields) } ∷ record { name = (codes "c"); variables = (field (codes "s1") (text (codes "b")) (no_fields)) } ∷ record { name = (codes "d"); variables = (field (codes "i1") (list (item (int (pos 1)) (item (int (pos 1)) (no_items)))) (field (codes "i2") (list (item (int (pos 2)) (no_items))) (field (codes "op") opaque (field (codes "s1") (text (codes "b")) (no_fields))))) } ∷ []); groups = (record { name = (codes "all"); hosts = ((codes "a") ∷ (codes "b") ∷ (codes "c") ∷ (codes "d") ∷ []) } ∷ record { name = (codes "g1"); hosts = ((codes "c") ∷ (codes "d") ∷ []) } ∷ record { name = (codes "g2"); hosts = ((codes "b") ∷ (codes "c") ∷ []) } ∷ record { name = (codes "ungrouped"); hosts = ((codes "a") ∷ []) } ∷ []) })
inventory_410 = refl

inventory_411 : inventory_from (rec (field (codes "_meta") (rec (field (codes "hostvars") (rec (field (codes "a") (rec (no_fields)) (field (codes "b") (rec (no_fields)) (field (codes "c") (rec (no_fields)) (field (codes "d") (rec (field (codes "op") opaque (no_fields))) (no_fields)))))) (no_fields))) (field (codes "all") (rec (field (codes "hosts") (list (item (text (codes "a")) (item (text (codes "b")) (item (text (codes "c")) (item (text (codes "d")) (no_items)))))) (field (codes "vars") (rec (field (codes "op") opaque (field (codes "s1") (rec (field (codes "f") (int (pos 1)) (field (codes "g") (text (codes "no")) (no_fields)))) (no_fields)))) (no_fields)))) (field (codes "g2") (rec (field (codes "hosts") (list (no_items)) (field (codes "vars") (rec (field (codes "i1") null (no_fields))) (no_fields)))) (no_fields))))) ≡ Ok (record { hosts = (record { name = (codes "a"); variables = (field (codes "op") opaque (field (codes "s1") (rec (field (codes "f") (int (pos 1)) (field (codes "g") (text (codes "no")) (no_fields)))) (no_fields))) } ∷ record { name = (codes "b"); variables = (field (codes "op") opaque (field (codes "s1") (rec (field (codes "f") (int (pos 1)) (field (codes "g") (text (codes "no")) (no_fields)))) (no_fields))) } ∷ record { name = (codes "c"); variables = (field (codes "op") opaque (field (codes "s1") (rec (field (codes "f") (int (pos 1)) (field (codes "g") (text (codes "no")) (no_fields)))) (no_fields))) } ∷ record { name = (codes "d"); variables = (field (codes "op") opaque (field (codes "s1") (rec (field (codes "f") (int (pos 1)) (field (codes "g") (text (codes "no")) (no_fields)))) (no_fields))) } ∷ []); groups = (record { name = (codes "all"); hosts = ((codes "a") ∷ (codes "b") ∷ (codes "c") ∷ (codes "d") ∷ []) } ∷ record { name = (codes "g2"); hosts = ([]) } ∷ record { name = (codes "ungrouped"); hosts = ((codes "a") ∷ (codes "b") ∷ (codes "c") ∷ (codes "d") ∷ []) } ∷ []) })
inventory_411 = refl

inventory_412 : inventory_from (rec (field (codes "_meta") (rec (field (codes "hostvars") (rec (field (codes "a") (rec (no_fields)) (field (codes "b") (rec (no_fields)) (field (codes "c") (rec (no_fields)) (field (codes "d") (rec (no_fields)) (no_fields)))))) (no_fields))) (field (codes "all") (rec (field (codes "hosts") (list (item (text (codes "a")) (item (text (codes "b")) (item (text (codes "c")) (item (text (codes "d")) (no_items)))))) (field (codes "vars") (rec (no_fields)) (no_fields)))) (no_fields)))) ≡ Ok (record { hosts = (record { name = (codes "a"); variables = (no_fields) } ∷ record { name = (codes "b"); variables = (no_fields) } ∷ record { name = (codes "c"); variables = (no_fields) } ∷ record { name = (codes "d"); variables = (no_fields) } ∷ []); groups = (record { name = (codes "all"); hosts = ((codes "a") ∷ (codes "b") ∷ (codes "c") ∷ (codes "d") ∷ []) } ∷ record { name = (codes "ungrouped"); hosts = ((codes "a") ∷ (codes "b") ∷ (codes "c") ∷ (codes "d") ∷ []) } ∷ []) })
inventory_412 = refl

inventory_413 : inventory_from (rec (field (codes "_meta") (rec (field (codes "hostvars") (rec (field (codes "a") (rec (no_fields)) (field (codes "b") (rec (no_fields)) (field (codes "c") (rec (no_fields)) (no_fields))))) (no_fields))) (field (codes "all") (rec (field (codes "hosts") (list (item (text (codes "a")) (item (text (codes "b")) (item (text (codes "c")) (no_items))))) (field (codes "vars") (rec (field (codes "i1") (text (codes "a")) (field (codes "op") opaque (no_fields)))) (no_fields)))) (field (codes "g2") (rec (field (codes "hosts") (list (no_items)) (field (codes "vars") (rec (no_fields)) (no_fields)))) (no_fields))))) ≡ Ok (record { hosts = (record { name = (codes "a"); variables = (field (codes "i1") (text (codes "a")) (field (codes "op") opaque (no_fields))) } ∷ record { name = (codes "b"); variables = (field (codes "i1") (text (codes "a")) (field (codes "op") opaque (no_fields))) } ∷ record { name = (codes "c"); variables = (field (codes "i1") (text (codes "a")) (field (codes "op") opaque (no_fields))) } ∷ []); groups = (record { name = (codes "all"); hosts = ((codes "a") ∷ (codes "b") ∷ (codes "c") ∷ []) } ∷ record { name = (codes "g2"); hosts = ([]) } ∷ record { name = (codes "ungrouped"); hosts = ((codes "a") ∷ (codes "b") ∷ (codes "c") ∷ []) } ∷ []) })
inventory_413 = refl

inventory_414 : inventory_from (rec (field (codes "_meta") (rec (field (codes "hostvars") (rec (field (codes "a") (rec (no_fields)) (field (codes "b") (rec (no_fields)) (field (codes "c") (rec (no_fields)) (no_fields))))) (no_fields))) (field (codes "all") (rec (field (codes "hosts") (list (item (text (codes "a")) (item (text (codes "b")) (item (text (codes "c")) (no_items))))) (field (codes "vars") (rec (no_fields)) (no_fields)))) (field (codes "g1") (rec (field (codes "hosts") (list (no_items)) (field (codes "vars") (rec (field (codes "i2") (list (item (text (codes "a")) (no_items))) (field (codes "s1") (rec (field (codes "g") (list (item (text (codes "a")) (item (text (codes "b")) (no_items)))) (no_fields))) (no_fields)))) (no_fields)))) (field (codes "g2") (rec (field (codes "hosts") (list (item (text (codes "c")) (no_items))) (field (codes "vars") (rec (no_fields)) (no_fields)))) (no_fields)))))) ≡ Ok (record { hosts = (record { name = (codes "a"); variables = (no_fields) } ∷ record { name = (codes "b"); variables = (no_fields) } ∷ record { name = (codes "c"); variables = (no_fields) } ∷ []); groups = (record { name = (codes "all"); hosts = ((codes "a") ∷ (codes "b") ∷ (codes "c") ∷ []) } ∷ record { name = (codes "g1"); hosts = ([]) } ∷ record { name = (codes "g2"); hosts = ((codes "c") ∷ []) } ∷ record { name = (codes "ungrouped"); hosts = ((codes "a") ∷ (codes "b") ∷ []) } ∷ []) })
inventory_414 = refl

inventory_415 : inventory_from (rec (field (codes "_meta") (rec (field (codes "hostvars") (rec (field (codes "a") (rec (no_fields)) (field (codes "b") (rec (no_fields)) (no_fields)))) (no_fields))) (field (codes "all") (rec (field (codes "hosts") (list (item (text (codes "a")) (item (text (codes "b")) (no_items)))) (field (codes "vars") (rec (field (codes "i1") (int (negsuc 0)) (no_fields))) (no_fields)))) (field (codes "g1") (rec (field (codes "hosts") (list (item (text (codes "b")) (no_items))) (field (codes "vars") (rec (field (codes "op") opaque (no_fields))) (no_fields)))) (no_fields))))) ≡ Ok (record { hosts = (record { name = (codes "a"); variables = (field (codes "i1") (int (negsuc 0)) (no_fields)) } ∷ record { name = (codes "b"); variables = (field (codes "i1") (int (negsuc 0)) (field (codes "op") opaque (no_fields))) } ∷ []); groups = (record { name = (codes "all"); hosts = ((codes "a") ∷ (codes "b") ∷ []) } ∷ record { name = (codes "g1"); hosts = ((codes "b") ∷ []) } ∷ record { name = (codes "ungrouped"); hosts = ((codes "a") ∷ []) } ∷ []) })
inventory_415 = refl

inventory_416 : inventory_from (rec (field (codes "_meta") (rec (field (codes "hostvars") (rec (field (codes "a") (rec (no_fields)) (field (codes "b") (rec (no_fields)) (no_fields)))) (no_fields))) (field (codes "all") (rec (field (codes "hosts") (list (item (text (codes "a")) (item (text (codes "b")) (no_items)))) (field (codes "vars") (rec (field (codes "i1") (int (pos 1)) (no_fields))) (no_fields)))) (field (codes "g1") (rec (field (codes "children") (list (item (text (codes "g2")) (no_items))) (field (codes "hosts") (list (item (text (codes "a")) (no_items))) (field (codes "vars") (rec (field (codes "i1") (text ([])) (field (codes "s1") (list (item (int (pos 3)) (no_items))) (no_fields)))) (no_fields))))) (field (codes "g2") (rec (field (codes "hosts") (list (item (text (codes "a")) (no_items))) (field (codes "vars") (rec (field (codes "s1") (text (codes "b")) (no_fields))) (no_fields)))) (no_fields)))))) ≡ Ok (record { hosts = (record { name = (codes "a"); variables = (field (codes "i1") (text ([])) (field (codes "s1") (text (codes "b")) (no_fields))) } ∷ record { name = (codes "b"); variables = (field (codes "i1") (int (pos 1)) (no_fields)) } ∷ []); groups = (record { name = (codes "all"); hosts = ((codes "a") ∷ (codes "b") ∷ []) } ∷ record { name = (codes "g1"); hosts = ((codes "a") ∷ []) } ∷ record { name = (codes "g2"); hosts = ((codes "a") ∷ []) } ∷ record { name = (codes "ungrouped"); hosts = ((codes "b") ∷ []) } ∷ []) })
inventory_416 = refl

inventory_417 : inventory_from (rec (field (codes "_meta") (rec (field (codes "hostvars") (rec (field (codes "a") (rec (no_fields)) (field (codes "b") (rec (no_fields)) (no_fields)))) (no_fields))) (field (codes "all") (rec (field (codes "hosts") (list (item (text (codes "a")) (item (text (codes "b")) (no_items)))) (field (codes "vars") (rec (field (codes "i1") (list (item (text (codes "b")) (item (text (codes "t")) (no_items)))) (field (codes "i2") (boolean true) (no_fields)))) (no_fields)))) (no_fields)))) ≡ Ok (record { hosts = (record { name = (codes "a"); variables = (field (codes "i1") (list (item (text (codes "b")) (item (text (codes "t")) (no_items)))) (field (codes "i2") (boolean true) (no_fields))) } ∷ record { name = (codes "b"); variables = (field (codes "i1") (list (item (text (codes "b")) (item (text (codes "t")) (no_items)))) (field (codes "i2") (boolean true) (no_fields))) } ∷ []); groups = (record { name = (codes "all"); hosts = ((codes "a") ∷ (codes "b") ∷ []) } ∷ record { name = (codes "ungrouped"); hosts = ((codes "a") ∷ (codes "b") ∷ []) } ∷ []) })
inventory_417 = refl

inventory_418 : inventory_from (rec (field (codes "_meta") (rec (field (codes "hostvars") (rec (field (codes "a") (rec (no_fields)) (field (codes "b") (rec (no_fields)) (no_fields)))) (no_fields))) (field (codes "all") (rec (field (codes "hosts") (list (item (text (codes "a")) (item (text (codes "b")) (no_items)))) (field (codes "vars") (rec (field (codes "i1") (text ([])) (field (codes "i2") (list (item (text ([])) (item (int (pos 1)) (no_items)))) (no_fields)))) (no_fields)))) (field (codes "g1") (rec (field (codes "hosts") (list (item (text (codes "b")) (no_items))) (field (codes "vars") (rec (field (codes "i2") (text (codes "no")) (no_fields))) (no_fields)))) (field (codes "g2") (rec (field (codes "hosts") (list (item (text (codes "a")) (item (text (codes "b")) (no_items)))) (field (codes "vars") (rec (no_fields)) (no_fields)))) (no_fields)))))) ≡ Ok (record { hosts = (record { name = (codes "a"); variables = (field (codes "i1") (text ([])) (field (codes "i2") (list (item (text ([])) (item (int (pos 1)) (no_items)))) (no_fields))) } ∷ record { name = (codes "b"); variables = (field (codes "i1") (text ([])) (field (codes "i2") (text (codes "no")) (no_fields))) } ∷ []); groups = (record { name = (codes "all"); hosts = ((codes "a") ∷ (codes "b") ∷ []) } ∷ record { name = (codes "g1"); hosts = ((codes "b") ∷ []) } ∷ record { name = (codes "g2"); hosts = ((codes "a") ∷ (codes "b") ∷ []) } ∷ record { name = (codes "ungrouped"); hosts = ([]) } ∷ []) })
inventory_418 = refl

inventory_419 : inventory_from (rec (field (codes "_meta") (rec (field (codes "hostvars") (rec (field (codes "a") (rec (no_fields)) (field (codes "b") (rec (no_fields)) (no_fields)))) (no_fields))) (field (codes "all") (rec (field (codes "hosts") (list (item (text (codes "a")) (item (text (codes "b")) (no_items)))) (field (codes "vars") (rec (field (codes "i1") (text (codes "x")) (no_fields))) (no_fields)))) (field (codes "g1") (rec (field (codes "children") (list (item (text (codes "g2")) (no_items))) (field (codes "hosts") (list (no_items)) (field (codes "vars") (rec (field (codes "i1") (list (item (text (codes "b")) (no_items))) (no_fields))) (no_fields))))) (field (codes "g2") (rec (field (codes "hosts") (list (item (text (codes "a")) (no_items))) (field (codes "vars") (rec (field (codes "i1") (list (item (boolean true) (item (int (pos 0)) (no_items)))) (no_fields))) (no_fields)))) (no_fields)))))) ≡ Ok (record { hosts = (record { name = (codes "a"); variables = (field (codes "i1") (list (item (boolean true) (item (int (pos 0)) (no_items)))) (no_fields)) } ∷ record { name = (codes "b"); variables = (field (codes "i1") (text (codes "x")) (no_fields)) } ∷ []); groups = (record { name = (codes "all"); hosts = ((codes "a") ∷ (codes "b") ∷ []) } ∷ record { name = (codes "g1"); hosts = ((codes "a") ∷ []) } ∷ record { name = (codes "g2"); hosts = ((codes "a") ∷ []) } ∷ record { name = (codes "ungrouped"); hosts = ((codes "b") ∷ []) } ∷ []) })
inventory_419 = refl
