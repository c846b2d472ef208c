-- The inventories of cases, computed.
use Rattle.std.specs.Prelude.{◌≡◌, refl, pos, negsuc, [], ◌∷◌, true, false, Ok, codes}
use Rattle.pb_semantics.specs.Data.{null, boolean, int, text, list, rec, opaque, no_items, item, no_fields, field}
use Rattle.pb_language.specs.Inventories.{inventory_from}

inventory_300 : inventory_from (rec (field (codes "_meta") (rec (field (codes "hostvars") (rec (field (codes "a") (rec (field (codes "s1") (int (pos 3)) (no_fields))) (field (codes "b") (rec (field (codes "i1") (text ([])) (field (codes "s1") (text (codes "no")) (no_fields)))) (field (codes "c") (rec (no_fields)) (field (codes "d") (rec (field (codes "i2") (int (pos 1)) (no_fields))) (no_fields)))))) (no_fields))) (field (codes "all") (rec (field (codes "hosts") (list (item (text (codes "a")) (item (text (codes "b")) (item (text (codes "c")) (item (text (codes "d")) (no_items)))))) (field (codes "vars") (rec (field (codes "i2") (int (pos 3)) (field (codes "s1") (text ([])) (no_fields)))) (no_fields)))) (field (codes "g1") (rec (field (codes "hosts") (list (item (text (codes "a")) (item (text (codes "b")) (no_items)))) (field (codes "vars") (rec (field (codes "op") opaque (no_fields))) (no_fields)))) (field (codes "g2") (rec (field (codes "hosts") (list (item (text (codes "b")) (item (text (codes "c")) (no_items)))) (field (codes "vars") (rec (field (codes "i1") (text ([])) (field (codes "i2") (list (item (text (codes "a")) (no_items))) (field (codes "op") opaque (field (codes "s1") (text (codes "x")) (no_fields)))))) (no_fields)))) (no_fields)))))) ≡ Ok (record { hosts = (record { name = (codes "a"); variables = (field (codes "i2") (int (pos 3)) (field (codes "op") opaque (field (codes "s1") (int (pos 3)) (no_fields)))) } ∷ record { name = (codes "b"); variables = (field (codes "i1") (text ([])) (field (codes "i2") (list (item (text (codes "a")) (no_items))) (field (codes "op") opaque (field (codes "s1") (text (codes "no")) (no_fields))))) } ∷ record { name = (codes "c"); variables = (field (codes "i1") (text ([])) (field (codes "i2") (list (item (text (codes "a")) (no_items))) (field (codes "op") opaque (field (codes "s1") (text (codes "x")) (no_fields))))) } ∷ record { name = (codes "d"); variables = (field (codes "i2") (int (pos 1)) (field (codes "s1") (text ([])) (no_fields))) } ∷ []); groups = (record { name = (codes "all"); hosts = ((codes "a") ∷ (codes "b") ∷ (codes "c") ∷ (codes "d") ∷ []) } ∷ record { name = (codes "g1"); hosts = ((codes "a") ∷ (codes "b") ∷ []) } ∷ record { name = (codes "g2"); hosts = ((codes "b") ∷ (codes "c") ∷ []) } ∷ record { name = (codes "ungrouped"); hosts = ((codes "d") ∷ []) } ∷ []) })
inventory_300 = refl

inventory_301 : inventory_from (rec (field (codes "_meta") (rec (field (codes "hostvars") (rec (field (codes "a") (rec (field (codes "s1") (int (pos 3)) (no_fields))) (no_fields))) (no_fields))) (field (codes "all") (rec (field (codes "hosts") (list (item (text (codes "a")) (no_items))) (field (codes "vars") (rec (field (codes "i1") (text (codes "no")) (no_fields))) (no_fields)))) (field (codes "g1") (rec (field (codes "hosts") (list (item (text (codes "a")) (no_items))) (field (codes "vars") (rec (field (codes "i2") (text (codes "b")) (no_fields))) (no_fields)))) (field (codes "g2") (rec (field (codes "hosts") (list (no_items)) (field (codes "vars") (rec (field (codes "s1") (boolean true) (no_fields))) (no_fields)))) (no_fields)))))) ≡ Ok (record { hosts = (record { name = (codes "a"); variables = (field (codes "i1") (text (codes "no")) (field (codes "i2") (text (codes "b")) (field (codes "s1") (int (pos 3)) (no_fields)))) } ∷ []); groups = (record { name = (codes "all"); hosts = ((codes "a") ∷ []) } ∷ record { name = (codes "g1"); hosts = ((codes "a") ∷ []) } ∷ record { name = (codes "g2"); hosts = ([]) } ∷ record { name = (codes "ungrouped"); hosts = ([]) } ∷ []) })
inventory_301 = refl

inventory_302 : inventory_from (rec (field (codes "_meta") (rec (field (codes "hostvars") (rec (field (codes "a") (rec (field (codes "s1") (int (pos 3)) (no_fields))) (no_fields))) (no_fields))) (field (codes "all") (rec (field (codes "hosts") (list (item (text (codes "a")) (no_items))) (field (codes "vars") (rec (no_fields)) (no_fields)))) (field (codes "g1") (rec (field (codes "hosts") (list (no_items)) (field (codes "vars") (rec (field (codes "i2") (int (pos 2)) (no_fields))) (no_fields)))) (field (codes "g2") (rec (field (codes "hosts") (list (item (text (codes "a")) (no_items))) (field (codes "vars") (rec (field (codes "i2") (int (pos 3)) (field (codes "s1") (text (codes "b")) (no_fields)))) (no_fields)))) (no_fields)))))) ≡ Ok (record { hosts = (record { name = (codes "a"); variables = (field (codes "i2") (int (pos 3)) (field (codes "s1") (int (pos 3)) (no_fields))) } ∷ []); groups = (record { name = (codes "all"); hosts = ((codes "a") ∷ []) } ∷ record { name = (codes "g1"); hosts = ([]) } ∷ record { name = (codes "g2"); hosts = ((codes "a") ∷ []) } ∷ record { name = (codes "ungrouped"); hosts = ([]) } ∷ []) })
inventory_302 = refl

inventory_303 : inventory_from (rec (field (codes "_meta") (rec (field (codes "hostvars") (rec (field (codes "a") (rec (field (codes "s1") (list (item (boolean false) (item (text (codes "t")) (no_items)))) (no_fields))) (no_fields))) (no_fields))) (field (codes "all") (rec (field (codes "hosts") (list (item (text (codes "a")) (no_items))) (field (codes "vars") (rec (field (codes "op") opaque (no_fields))) (no_fields)))) (field (codes "g1") (rec (field (codes "hosts") (list (item (text (codes "a")) (no_items))) (field (codes "vars") (rec (field (codes "i2") (list (item (text (codes "a")) (no_items))) (no_fields))) (no_fields)))) (field (codes "g2") (rec (field (codes "hosts") (list (no_items)) (field (codes "vars") (rec (no_fields)) (no_fields)))) (no_fields)))))) ≡ Ok (record { hosts = (record { name = (codes "a"); variables = (field (codes "i2") (list (item (text (codes "a")) (no_items))) (field (codes "op") opaque (field (codes "s1") (list (item (boolean false) (item (text (codes "t")) (no_items)))) (no_fields)))) } ∷ []); groups = (record { name = (codes "all"); hosts = ((codes "a") ∷ []) } ∷ record { name = (codes "g1"); hosts = ((codes "a") ∷ []) } ∷ record { name = (codes "g2"); hosts = ([]) } ∷ record { name = (codes "ungrouped"); hosts = ([]) } ∷ []) })
inventory_303 = refl

inventory_304 : inventory_from (rec (field (codes "_meta") (rec (field (codes "hostvars") (rec (field (codes "a") (rec (field (codes "s1") (list (item (int (pos 2)) (item (text ([])) (no_items)))) (no_fields))) (field (codes "b") (rec (field (codes "i1") (int (pos 2)) (field (codes "i2") (list (item (boolean true) (no_items))) (no_fields)))) (no_fields)))) (no_fields))) (field (codes "all") (rec (field (codes "hosts") (list (item (text (codes "a")) (item (text (codes "b")) (no_items)))) (field (codes "vars") (rec (no_fields)) (no_fields)))) (field (codes "g1") (rec (field (codes "hosts") (list (item (text (codes "a")) (no_items))) (field (codes "vars") (rec (field (codes "i1") (text (codes "t")) (no_fields))) (no_fields)))) (no_fields))))) ≡ Ok (record { hosts = (record { name = (codes "a"); variables = (field (codes "i1") (text (codes "t")) (field (codes "s1") (list (item (int (pos 2)) (item (text ([])) (no_items)))) (no_fields))) } ∷ record { name = (codes "b"); variables = (field (codes "i1") (int (pos 2)) (field (codes "i2") (list (item (boolean true) (no_items))) (no_fields))) } ∷ []); groups = (record { name = (codes "all"); hosts = ((codes "a") ∷ (codes "b") ∷ []) } ∷ record { name = (codes "g1"); hosts = ((codes "a") ∷ []) } ∷ record { name = (codes "ungrouped"); hosts = ((codes "b") ∷ []) } ∷ []) })
inventory_304 = refl

inventory_305 : inventory_from (rec (field (codes "_meta") (rec (field (codes "hostvars") (rec (field (codes "a") (rec (field (codes "s1") (list (item (text ([])) (item (boolean true) (no_items)))) (no_fields))) (field (codes "b") (rec (no_fields)) (no_fields)))) (no_fields))) (field (codes "all") (rec (field (codes "hosts") (list (item (text (codes "a")) (item (text (codes "b")) (no_items)))) (field (codes "vars") (rec (field (codes "i2") (text ([])) (no_fields))) (no_fields)))) (field (codes "g1") (rec (field (codes "children") (list (item (text (codes "g2")) (no_items))) (field (codes "hosts") (list (item (text (codes "a")) (no_items))) (field (codes "vars") (rec (field (codes "i1") (list (item (int (pos 2)) (no_items))) (no_fields))) (no_fields))))) (field (codes "g2") (rec (field (codes "hosts") (list (item (text (codes "a")) (item (text (codes "b")) (no_items)))) (field (codes "vars") (rec (field (codes "i2") (text (codes "a")) (field (codes "op") opaque (no_fields)))) (no_fields)))) (no_fields)))))) ≡ Ok (record { hosts = (record { name = (codes "a"); variables = (field (codes "i1") (list (item (int (pos 2)) (no_items))) (field (codes "i2") (text (codes "a")) (field (codes "op") opaque (field (codes "s1") (list (item (text ([])) (item (boolean true) (no_items)))) (no_fields))))) } ∷ record { name = (codes "b"); variables = (field (codes "i1") (list (item (int (pos 2)) (no_items))) (field (codes "i2") (text (codes "a")) (field (codes "op") opaque (no_fields)))) } ∷ []); groups = (record { name = (codes "all"); hosts = ((codes "a") ∷ (codes "b") ∷ []) } ∷ record { name = (codes "g1"); hosts = ((codes "a") ∷ (codes "b") ∷ []) } ∷ record { name = (codes "g2"); hosts = ((codes "a") ∷ (codes "b") ∷ []) } ∷ record { name = (codes "ungrouped"); hosts = ([]) } ∷ []) })
inventory_305 = refl

inventory_306 : inventory_from (rec (field (codes "_meta") (rec (field (codes "hostvars") (rec (field (codes "a") (rec (field (codes "s1") (list (item (text ([])) (item (int (pos 0)) (no_items)))) (no_fields))) (field (codes "b") (rec (field (codes "op") opaque (no_fields))) (field (codes "c") (rec (no_fields)) (no_fields))))) (no_fields))) (field (codes "all") (rec (field (codes "hosts") (list (item (text (codes "a")) (item (text (codes "b")) (item (text (codes "c")) (no_items))))) (field (codes "vars") (rec (field (codes "i1") (text (codes "b")) (field (codes "op") opaque (no_fields)))) (no_fields)))) (no_fields)))) ≡ Ok (record { hosts = (record { name = (codes "a"); variables = (field (codes "i1") (text (codes "b")) (field (codes "op") opaque (field (codes "s1") (list (item (text ([])) (item (int (pos 0)) (no_items)))) (no_fields)))) } ∷ record { name = (codes "b"); variables = (field (codes "i1") (text (codes "b")) (field (codes "op") opaque (no_fields))) } ∷ record { name = (codes "c"); variables = (field (codes "i1") (text (codes "b")) (field (codes "op") opaque (no_fields))) } ∷ []); groups = (record { name = (codes "all"); hosts = ((codes "a") ∷ (codes "b") ∷ (codes "c") ∷ []) } ∷ record { name = (codes "ungrouped"); hosts = ((codes "a") ∷ (codes "b") ∷ (codes "c") ∷ []) } ∷ []) })
inventory_306 = refl

inventory_307 : inventory_from (rec (field (codes "_meta") (rec (field (codes "hostvars") (rec (field (codes "a") (rec (field (codes "s1") (list (item (text ([])) (no_items))) (no_fields))) (field (codes "b") (rec (field (codes "op") opaque (no_fields))) (field (codes "c") (rec (no_fields)) (no_fields))))) (no_fields))) (field (codes "all") (rec (field (codes "hosts") (list (item (text (codes "a")) (item (text (codes "b")) (item (text (codes "c")) (no_items))))) (field (codes "vars") (rec (field (codes "i1") (rec (field (codes "f") (list (item (boolean false) (no_items))) (no_fields))) (field (codes "i2") (list (item (text (codes "t")) (item (text (codes "x")) (no_items)))) (no_fields)))) (no_fields)))) (field (codes "g2") (rec (field (codes "hosts") (list (item (text (codes "a")) (item (text (codes "b")) (item (text (codes "c")) (no_items))))) (field (codes "vars") (rec (field (codes "i2") (boolean true) (no_fields))) (no_fields)))) (no_fields))))) ≡ Ok (record { hosts = (record { name = (codes "a"); variables = (field (codes "i1") (rec (field (codes "f") (list (item (boolean false) (no_items))) (no_fields))) (field (codes "i2") (boolean true) (field (codes "s1") (list (item (text ([])) (no_items))) (no_fields)))) } ∷ record { name = (codes "b"); variables = (field (codes "i1") (rec (field (codes "f") (list (item (boolean false) (no_items))) (no_fields))) (field (codes "i2") (boolean true) (field (codes "op") opaque (no_fields)))) } ∷ record { name = (codes "c"); variables = (field (codes "i1") (rec (field (codes "f") (list (item (boolean false) (no_items))) (no_fields))) (field (codes "i2") (boolean true) (no_fields))) } ∷ []); groups = (record { name = (codes "all"); hosts = ((codes "a") ∷ (codes "b") ∷ (codes "c") ∷ []) } ∷ record { name = (codes "g2"); hosts = ((codes "a") ∷ (codes "b") ∷ (codes "c") ∷ []) } ∷ record { name = (codes "ungrouped"); hosts = ([]) } ∷ []) })
inventory_307 = refl

inventory_308 : inventory_from (rec (field (codes "_meta") (rec (field (codes "hostvars") (rec (field (codes "a") (rec (field (codes "s1") (list (item (text ([])) (no_items))) (no_fields))) (field (codes "b") (rec (field (codes "s1") (boolean true) (no_fields))) (no_fields)))) (no_fields))) (field (codes "all") (rec (field (codes "hosts") (list (item (text (codes "a")) (item (text (codes "b")) (no_items)))) (field (codes "vars") (rec (field (codes "i2") (text (codes "x")) (no_fields))) (no_fields)))) (field (codes "g1") (rec (field (codes "children") (list (item (text (codes "g2")) (no_items))) (field (codes "hosts") (list (item (text (codes "a")) (item (text (codes "b")) (no_items)))) (field (codes "vars") (rec (no_fields)) (no_fields))))) (field (codes "g2") (rec (field (codes "hosts") (list (no_items)) (field (codes "vars") (rec (field (codes "i2") (list (no_items)) (no_fields))) (no_fields)))) (no_fields)))))) ≡ Ok (record { hosts = (record { name = (codes "a"); variables = (field (codes "i2") (text (codes "x")) (field (codes "s1") (list (item (text ([])) (no_items))) (no_fields))) } ∷ record { name = (codes "b"); variables = (field (codes "i2") (text (codes "x")) (field (codes "s1") (boolean true) (no_fields))) } ∷ []); groups = (record { name = (codes "all"); hosts = ((codes "a") ∷ (codes "b") ∷ []) } ∷ record { name = (codes "g1"); hosts = ((codes "a") ∷ (codes "b") ∷ []) } ∷ record { name = (codes "g2"); hosts = ([]) } ∷ record { name = (codes "ungrouped"); hosts = ([]) } ∷ []) })
inventory_308 = refl

inventory_309 : inventory_from (rec (field (codes "_meta") (rec (field (codes "hostvars") (rec (field (codes "a") (rec (field (codes "s1") (list (item (text (codes "b")) (item (boolean true) (no_items)))) (no_fields))) (no_fields))) (no_fields))) (field (codes "all") (rec (field (codes "hosts") (list (item (text (codes "a")) (no_items))) (field (codes "vars") (rec (field (codes "i1") (rec (field (codes "f") (rec (field (codes "f") (boolean false) (field (codes "g") null (no_fields)))) (field (codes "g") (list (item (boolean true) (item (int (pos 2)) (no_items)))) (no_fields)))) (field (codes "i2") (rec (field (codes "f") (int (pos 1)) (field (codes "g") (text (codes "no")) (no_fields)))) (no_fields)))) (no_fields)))) (field (codes "g1") (rec (field (codes "hosts") (list (item (text (codes "a")) (no_items))) (field (codes "vars") (rec (field (codes "op") opaque (no_fields))) (no_fields)))) (no_fields))))) ≡ Ok (record { hosts = (record { name = (codes "a"); variables = (field (codes "i1") (rec (field (codes "f") (rec (field (codes "f") (boolean false) (field (codes "g") null (no_fields)))) (field (codes "g") (list (item (boolean true) (item (int (pos 2)) (no_items)))) (no_fields)))) (field (codes "i2") (rec (field (codes "f") (int (pos 1)) (field (codes "g") (text (codes "no")) (no_fields)))) (field (codes "op") opaque (field (codes "s1") (list (item (text (codes "b")) (item (boolean true) (no_items)))) (no_fields))))) } ∷ []); groups = (record { name = (codes "all"); hosts = ((codes "a") ∷ []) } ∷ record { name = (codes "g1"); hosts = ((codes "a") ∷ []) } ∷ record { name = (codes "ungrouped"); hosts = ([]) } ∷ []) })
inventory_309 = refl

inventory_310 : inventory_from (rec (field (codes "_meta") (rec (field (codes "hostvars") (rec (field (codes "a") (rec (field (codes "s1") (list (item (text (codes "no")) (item (text (codes "t")) (no_items)))) (no_fields))) (field (codes "b") (rec (field (codes "op") opaque (no_fields))) (field (codes "c") (rec (no_fields)) (no_fields))))) (no_fields))) (field (codes "all") (rec (field (codes "hosts") (list (item (text (codes "a")) (item (text (codes "b")) (item (text (codes "c")) (no_items))))) (field (codes "vars") (rec (field (codes "i2") (text (codes "no")) (no_fields))) (no_fields)))) (field (codes "g1") (rec (field (codes "hosts") (list (item (text (codes "b")) (item (text (codes "c")) (no_items)))) (field (codes "vars") (rec (field (codes "s1") (int (pos 1)) (no_fields))) (no_fields)))) (no_fields))))) ≡ Ok (record { hosts = (record { name = (codes "a"); variables = (field (codes "i2") (text (codes "no")) (field (codes "s1") (list (item (text (codes "no")) (item (text (codes "t")) (no_items)))) (no_fields))) } ∷ record { name = (codes "b"); variables = (field (codes "i2") (text (codes "no")) (field (codes "op") opaque (field (codes "s1") (int (pos 1)) (no_fields)))) } ∷ record { name = (codes "c"); variables = (field (codes "i2") (text (codes "no")) (field (codes "s1") (int (pos 1)) (no_fields))) } ∷ []); groups = (record { name = (codes "all"); hosts = ((codes "a") ∷ (codes "b") ∷ (codes "c") ∷ []) } ∷ record { name = (codes "g1"); hosts = ((codes "b") ∷ (codes "c") ∷ []) } ∷ record { name = (codes "ungrouped"); hosts = ((codes "a") ∷ []) } ∷ []) })
inventory_310 = refl

inventory_311 : inventory_from (rec (field (codes "_meta") (rec (field (codes "hostvars") (rec (field (codes "a") (rec (field (codes "s1") (list (item (text (codes "t")) (item (text (codes "a")) (no_items)))) (no_fields))) (field (codes "b") (rec (field (codes "op") opaque (no_fields))) (no_fields)))) (no_fields))) (field (codes "all") (rec (field (codes "hosts") (list (item (text (codes "a")) (item (text (codes "b")) (no_items)))) (field (codes "vars") (rec (field (codes "op") opaque (no_fields))) (no_fields)))) (field (codes "g1") (rec (field (codes "hosts") (list (item (text (codes "a")) (item (text (codes "b")) (no_items)))) (field (codes "vars") (rec (no_fields)) (no_fields)))) (field (codes "g2") (rec (field (codes "hosts") (list (item (text (codes "a")) (no_items))) (field (codes "vars") (rec (field (codes "s1") (boolean false) (no_fields))) (no_fields)))) (no_fields)))))) ≡ Ok (record { hosts = (record { name = (codes "a"); variables = (field (codes "op") opaque (field (codes "s1") (list (item (text (codes "t")) (item (text (codes "a")) (no_items)))) (no_fields))) } ∷ record { name = (codes "b"); variables = (field (codes "op") opaque (no_fields)) } ∷ []); groups = (record { name = (codes "all"); hosts = ((codes "a") ∷ (codes "b") ∷ []) } ∷ record { name = (codes "g1"); hosts = ((codes "a") ∷ (codes "b") ∷ []) } ∷ record { name = (codes "g2"); hosts = ((codes "a") ∷ []) } ∷ record { name = (codes "ungrouped"); hosts = ([]) } ∷ []) })
inventory_311 = refl

inventory_312 : inventory_from (rec (field (codes "_meta") (rec (field (codes "hostvars") (rec (field (codes "a") (rec (field (codes "s1") (list (no_items)) (no_fields))) (field (codes "b") (rec (field (codes "s1") (boolean false) (no_fields))) (no_fields)))) (no_fields))) (field (codes "all") (rec (field (codes "hosts") (list (item (text (codes "a")) (item (text (codes "b")) (no_items)))) (field (codes "vars") (rec (field (codes "s1") (int (pos 1)) (no_fields))) (no_fields)))) (field (codes "g1") (rec (field (codes "children") (list (item (text (codes "g2")) (no_items))) (field (codes "hosts") (list (item (text (codes "a")) (item (text (codes "b")) (no_items)))) (field (codes "vars") (rec (field (codes "s1") (text ([])) (no_fields))) (no_fields))))) (field (codes "g2") (rec (field (codes "hosts") (list (item (text (codes "a")) (no_items))) (field (codes "vars") (rec (field (codes "i2") (int (negsuc 0)) (no_fields))) (no_fields)))) (no_fields)))))) ≡ Ok (record { hosts = (record { name = (codes "a"); variables = (field (codes "i2") (int (negsuc 0)) (field (codes "s1") (list (no_items)) (no_fields))) } ∷ record { name = (codes "b"); variables = (field (codes "s1") (boolean false) (no_fields)) } ∷ []); groups = (record { name = (codes "all"); hosts = ((codes "a") ∷ (codes "b") ∷ []) } ∷ record { name = (codes "g1"); hosts = ((codes "a") ∷ (codes "b") ∷ []) } ∷ record { name = (codes "g2"); hosts = ((codes "a") ∷ []) } ∷ record { name = (codes "ungrouped"); hosts = ([]) } ∷ []) })
inventory_312 = refl

inventory_313 : inventory_from (rec (field (codes "_meta") (rec (field (codes "hostvars") (rec (field (codes "a") (rec (field (codes "s1") (list (no_items)) (no_fields))) (field (codes "b") (rec (no_fields)) (field (codes "c") (rec (no_fields)) (no_fields))))) (no_fields))) (field (codes "all") (rec (field (codes "hosts") (list (item (text (codes "a")) (item (text (codes "b")) (item (text (codes "c")) (no_items))))) (field (codes "vars") (rec (field (codes "op") opaque (no_fields))) (no_fields)))) (no_fields)))) ≡ Ok (record { hosts = (record { name = (codes "a"); variables = (field (codes "op") opaque (field (codes "s1") (list (no_items)) (no_fields))) } ∷ record { name = (codes "b"); variables = (field (codes "op") opaque (no_fields)) } ∷ record { name = (codes "c"); variables = (field (codes "op") opaque (no_fields)) } ∷ []); groups = (record { name = (codes "all"); hosts = ((codes "a") ∷ (codes "b") ∷ (codes "c") ∷ []) } ∷ record { name = (codes "ungrouped"); hosts = ((codes "a") ∷ (codes "b") ∷ (codes "c") ∷ []) } ∷ []) })
inventory_313 = refl

inventory_314 : inventory_from (rec (field (codes "_meta") (rec (field (codes "hostvars") (rec (field (codes "a") (rec (field (codes "s1") (list (no_items)) (no_fields))) (field (codes "b") (rec (no_fields)) (no_fields)))) (no_fields))) (field (codes "all") (rec (field (codes "hosts") (list (item (text (codes "a")) (item (text (codes "b")) (no_items)))) (field (codes "vars") (rec (no_fields)) (no_fields)))) (field (codes "g1") (rec (field (codes "hosts") (list (no_items)) (field (codes "vars") (rec (field (codes "i2") (list (item (int (pos 1)) (no_items))) (field (codes "s1") null (no_fields)))) (no_fields)))) (field (codes "g2") (rec (field (codes "hosts") (list (item (text (codes "b")) (no_items))) (field (codes "vars") (rec (field (codes "i2") (rec (field (codes "f") (rec (field (codes "f") (int (pos 1)) (field (codes "g") (text (codes "x")) (no_fields)))) (field (codes "g") (list (no_items)) (no_fields)))) (field (codes "s1") (boolean false) (no_fields)))) (no_fields)))) (no_fields)))))) ≡ Ok (record { hosts = (record { name = (codes "a"); variables = (field (codes "s1") (list (no_items)) (no_fields)) } ∷ record { name = (codes "b"); variables = (field (codes "i2") (rec (field (codes "f") (rec (field (codes "f") (int (pos 1)) (field (codes "g") (text (codes "x")) (no_fields)))) (field (codes "g") (list (no_items)) (no_fields)))) (field (codes "s1") (boolean false) (no_fields))) } ∷ []); groups = (record { name = (codes "all"); hosts = ((codes "a") ∷ (codes "b") ∷ []) } ∷ record { name = (codes "g1"); hosts = ([]) } ∷ record { name = (codes "g2"); hosts = ((codes "b") ∷ []) } ∷ record { name = (codes "ungrouped"); hosts = ((codes "a") ∷ []) } ∷ []) })
inventory_314 = refl

inventory_315 : inventory_from (rec (field (codes "_meta") (rec (field (codes "hostvars") (rec (field (codes "a") (rec (field (codes "s1") (list (no_items)) (no_fields))) (no_fields))) (no_fields))) (field (codes "all") (rec (field (codes "hosts") (list (item (text (codes "a")) (no_items))) (field (codes "vars") (rec (field (codes "i2") (text (codes "t")) (no_fields))) (no_fields)))) (field (codes "g1") (rec (field (codes "children") (list (item (text (codes "g2")) (no_items))) (field (codes "hosts") (list (item (text (codes "a")) (no_items))) (field (codes "vars") (rec (field (codes "i1") (list (item (text (codes "a")) (no_items))) (field (codes "s1") null (no_fields)))) (no_fields))))) (field (codes "g2") (rec (field (codes "hosts") (list (no_items)) (field (codes "vars") (rec (field (codes "i1") (boolean false) (field (codes "i2") (boolean false) (no_fields)))) (no_fields)))) (no_fields)))))) ≡ Ok (record { hosts = (record { name = (codes "a"); variables = (field (codes "i1") (list (item (text (codes "a")) (no_items))) (field (codes "i2") (text (codes "t")) (field (codes "s1") (list (no_items)) (no_fields)))) } ∷ []); groups = (record { name = (codes "all"); hosts = ((codes "a") ∷ []) } ∷ record { name = (codes "g1"); hosts = ((codes "a") ∷ []) } ∷ record { name = (codes "g2"); hosts = ([]) } ∷ record { name = (codes "ungrouped"); hosts = ([]) } ∷ []) })
inventory_315 = refl

inventory_316 : inventory_from (rec (field (codes "_meta") (rec (field (codes "hostvars") (rec (field (codes "a") (rec (field (codes "s1") (list (no_items)) (no_fields))) (no_fields))) (no_fields))) (field (codes "all") (rec (field (codes "hosts") (list (item (text (codes "a")) (no_items))) (field (codes "vars") (rec (field (codes "s1") (rec (field (codes "f") (int (pos 1)) (field (codes "g") (rec (field (codes "f") (text (codes "x")) (field (codes "g") (boolean false) (no_fields)))) (no_fields)))) (no_fields))) (no_fields)))) (field (codes "g1") (rec (field (codes "hosts") (list (no_items)) (field (codes "vars") (rec (field (codes "i1") (boolean true) (no_fields))) (no_fields)))) (no_fields))))) ≡ Ok (record { hosts = (record { name = (codes "a"); variables = (field (codes "s1") (list (no_items)) (no_fields)) } ∷ []); groups = (record { name = (codes "all"); hosts = ((codes "a") ∷ []) } ∷ record { name = (codes "g1"); hosts = ([]) } ∷ record { name = (codes "ungrouped"); hosts = ((codes "a") ∷ []) } ∷ []) })
inventory_316 = refl

inventory_317 : inventory_from (rec (field (codes "_meta") (rec (field (codes "hostvars") (rec (field (codes "a") (rec (field (codes "s1") (rec (field (codes "f") (int (negsuc 0)) (field (codes "g") null (no_fields)))) (no_fields))) (field (codes "b") (rec (field (codes "s1") (int (pos 3)) (no_fields))) (field (codes "c") (rec (field (codes "s1") (boolean false) (no_fields))) (field (codes "d") (rec (field (codes "i1") (int (pos 1)) (field (codes "op") opaque (no_fields)))) (no_fields)))))) (no_fields))) (field (codes "all") (rec (field (codes "hosts") (list (item (text (codes "a")) (item (text (codes "b")) (item (text (codes "c")) (item (text (codes "d")) (no_items)))))) (field (codes "vars") (rec (no_fields)) (no_fields)))) (field (codes "g1") (rec (field (codes "children") (list (item (text (codes "g2")) (no_items))) (field (codes "hosts") (list (item (text (codes "a")) (item (text (codes "b")) (item (text (codes "c")) (no_items))))) (field (codes "vars") (rec (field (codes "op") opaque (field (codes "s1") (text (codes "x")) (no_fields)))) (no_fields))))) (field (codes "g2") (rec (field (codes "hosts") (list (item (text (codes "c")) (item (text (codes "d")) (no_items)))) (field (codes "vars") (rec (field (codes "i2") (int (pos 0)) (no_fields))) (no_fields)))) (no_fields)))))) ≡ Ok (record { hosts = (record { name = (codes "a"); variables = (field (codes "op") opaque (field (codes "s1") (rec (field (codes "f") (int (negsuc 0)) (field (codes "g") null (no_fields)))) (no_fields))) } ∷ record { name = (codes "b"); variables = (field (codes "op") opaque (field (codes "s1") (int (pos 3)) (no_fields))) } ∷ record { name = (codes "c"); variables = (field (codes "i2") (int (pos 0)) (field (codes "op") opaque (field (codes "s1") (boolean false) (no_fields)))) } ∷ record { name = (codes "d"); variables = (field (codes "i1") (int (pos 1)) (field (codes "i2") (int (pos 0)) (field (codes "op") opaque (field (codes "s1") (text (codes "x")) (no_fields))))) } ∷ []); groups = (record { name = (codes "all"); hosts = ((codes "a") ∷ (codes "b") ∷ (codes "c") ∷ (codes "d") ∷ []) } ∷ record { name = (codes "g1"); hosts = ((codes "a") ∷ (codes "b") ∷ (codes "c") ∷ (codes "d") ∷ []) } ∷ record { name = (codes "g2"); hosts = ((codes "c") ∷ (codes "d") ∷ []) } ∷ record { name = (codes "ungrouped"); hosts = ([]) } ∷ []) })
inventory_317 = refl

inventory_318 : inventory_from (rec (field (codes "_meta") (rec (field (codes "hostvars") (rec (field (codes "a") (rec (field (codes "s1") (rec (field (codes "f") (rec (field (codes "g") null (no_fields))) (field (codes "g") (rec (field (codes "f") (int (negsuc 0)) (field (codes "g") (text (codes "no")) (no_fields)))) (no_fields)))) (no_fields))) (no_fields))) (no_fields))) (field (codes "all") (rec (field (codes "hosts") (list (item (text (codes "a")) (no_items))) (field (codes "vars") (rec (no_fields)) (no_fields)))) (field (codes "g1") (rec (field (codes "hosts") (list (no_items)) (field (codes "vars") (rec (field (codes "i1") (rec (field (codes "f") (int (pos 0)) (field (codes "g") (text (codes "t")) (no_fields)))) (field (codes "i2") (rec (field (codes "g") null (no_fields))) (no_fields)))) (no_fields)))) (field (codes "g2") (rec (field (codes "hosts") (list (no_items)) (field (codes "vars") (rec (field (codes "op") opaque (field (codes "s1") (list (item null (item (text ([])) (no_items)))) (no_fields)))) (no_fields)))) (no_fields)))))) ≡ Ok (record { hosts = (record { name = (codes "a"); variables = (field (codes "s1") (rec (field (codes "f") (rec (field (codes "g") null (no_fields))) (field (codes "g") (rec (field (codes "f") (int (negsuc 0)) (field (codes "g") (text (codes "no")) (no_fields)))) (no_fields)))) (no_fields)) } ∷ []); groups = (record { name = (codes "all"); hosts = ((codes "a") ∷ []) } ∷ record { name = (codes "g1"); hosts = ([]) } ∷ record { name = (codes "g2"); hosts = ([]) } ∷ record { name = (codes "ungrouped"); hosts = ((codes "a") ∷ []) } ∷ []) })
inventory_318 = refl

inventory_319 : inventory_from (rec (field (codes "_meta") (rec (field (codes "hostvars") (rec (field (codes "a") (rec (field (codes "s1") (rec (field (codes "f") (rec (no_fields)) (field (codes "g") (rec (field (codes "f") (int (pos 3)) (no_fields))) (no_fields)))) (no_fields))) (no_fields))) (no_fields))) (field (codes "all") (rec (field (codes "hosts") (list (item (text (codes "a")) (no_items))) (field (codes "vars") (rec (no_fields)) (no_fields)))) (field (codes "g2") (rec (field (codes "hosts") (list (no_items)) (field (codes "vars") (rec (no_fields)) (no_fields)))) (no_fields))))) ≡ Ok (record { hosts = (record { name = (codes "a"); variables = (field (codes "s1") (rec (field (codes "f") (rec (no_fields)) (field (codes "g") (rec (field (codes "f") (int (pos 3)) (no_fields))) (no_fields)))) (no_fields)) } ∷ []); groups = (record { name = (codes "all"); hosts = ((codes "a") ∷ []) } ∷ record { name = (codes "g2"); hosts = ([]) } ∷ record { name = (codes "ungrouped"); hosts = ((codes "a") ∷ []) } ∷ []) })
inventory_319 = refl

inventory_320 : inventory_from (rec (field (codes "_meta") (rec (field (codes "hostvars") (rec (field (codes "a") (rec (field (codes "s1") (rec (field (codes "f") (text (codes "t")) (field (codes "g") (boolean true) (no_fields)))) (no_fields))) (field (codes "b") (rec (no_fields)) (field (codes "c") (rec (field (codes "s1") (rec (field (codes "f") (int (pos 2)) (no_fields))) (no_fields))) (field (codes "d") (rec (field (codes "i2") (text (codes "a")) (field (codes "s1") (rec (field (codes "f") (boolean false) (field (codes "g") (rec (field (codes "g") (text (codes "a")) (no_fields))) (no_fields)))) (no_fields)))) (no_fields)))))) (no_fields))) (field (codes "all") (rec (field (codes "hosts") (list (item (text (codes "a")) (item (text (codes "b")) (item (text (codes "c")) (item (text (codes "d")) (no_items)))))) (field (codes "vars") (rec (no_fields)) (no_fields)))) (field (codes "g1") (rec (field (codes "hosts") (list (item (text (codes "a")) (item (text (codes "c")) (no_items)))) (field (codes "vars") (rec (field (codes "s1") (text (codes "x")) (no_fields))) (no_fields)))) (no_fields))))) ≡ Ok (record { hosts = (record { name = (codes "a"); variables = (field (codes "s1") (rec (field (codes "f") (text (codes "t")) (field (codes "g") (boolean true) (no_fields)))) (no_fields)) } ∷ record { name = (codes "b"); variables = (no_fields) } ∷ record { name = (codes "c"); variables = (field (codes "s1") (rec (field (codes "f") (int (pos 2)) (no_fields))) (no_fields)) } ∷ record { name = (codes "d"); variables = (field (codes "i2") (text (codes "a")) (field (codes "s1") (rec (field (codes "f") (boolean false) (field (codes "g") (rec (field (codes "g") (text (codes "a")) (no_fields))) (no_fields)))) (no_fields))) } ∷ []); groups = (record { name = (codes "all"); hosts = ((codes "a") ∷ (codes "b") ∷ (codes "c") ∷ (codes "d") ∷ []) } ∷ record { name = (codes "g1"); hosts = ((codes "a") ∷ (codes "c") ∷ []) } ∷ record { name = (codes "ungrouped"); hosts = ((codes "b") ∷ (codes "d") ∷ []) } ∷ []) })
inventory_320 = refl

inventory_321 : inventory_from (rec (field (codes "_meta") (rec (field (codes "hostvars") (rec (field (codes "a") (rec (field (codes "s1") (rec (field (codes "g") (list (item (text (codes "t")) (no_items))) (no_fields))) (no_fields))) (no_fields))) (no_fields))) (field (codes "all") (rec (field (codes "hosts") (list (item (text (codes "a")) (no_items))) (field (codes "vars") (rec (field (codes "i1") (text (codes "t")) (no_fields))) (no_fields)))) (field (codes "g2") (rec (field (codes "hosts") (list (no_items)) (field (codes "vars") (rec (field (codes "i1") (text ([])) (no_fields))) (no_fields)))) (no_fields))))) ≡ Ok (record { hosts = (record { name = (codes "a"); variables = (field (codes "i1") (text (codes "t")) (field (codes "s1") (rec (field (codes "g") (list (item (text (codes "t")) (no_items))) (no_fields))) (no_fields))) } ∷ []); groups = (record { name = (codes "all"); hosts = ((codes "a") ∷ []) } ∷ record { name = (codes "g2"); hosts = ([]) } ∷ record { name = (codes "ungrouped"); hosts = ((codes "a") ∷ []) } ∷ []) })
inventory_321 = refl

inventory_322 : inventory_from (rec (field (codes "_meta") (rec (field (codes "hostvars") (rec (field (codes "a") (rec (field (codes "s1") (rec (field (codes "g") (text (codes "x")) (no_fields))) (no_fields))) (field (codes "b") (rec (field (codes "i1") (int (pos 0)) (no_fields))) (no_fields)))) (no_fields))) (field (codes "all") (rec (field (codes "hosts") (list (item (text (codes "a")) (item (text (codes "b")) (no_items)))) (field (codes "vars") (rec (field (codes "i2") (boolean true) (field (codes "s1") (list (item (boolean true) (item null (no_items)))) (no_fields)))) (no_fields)))) (field (codes "g1") (rec (field (codes "children") (list (item (text (codes "g2")) (no_items))) (field (codes "hosts") (list (no_items)) (field (codes "vars") (rec (field (codes "s1") (list (item (text (codes "t")) (no_items))) (no_fields))) (no_fields))))) (field (codes "g2") (rec (field (codes "hosts") (list (no_items)) (field (codes "vars") (rec (field (codes "i1") (text (codes "b")) (field (codes "i2") (text (codes "t")) (no_fields)))) (no_fields)))) (no_fields)))))) ≡ Ok (record { hosts = (record { name = (codes "a"); variables = (field (codes "i2") (boolean true) (field (codes "s1") (rec (field (codes "g") (text (codes "x")) (no_fields))) (no_fields))) } ∷ record { name = (codes "b"); variables = (field (codes "i1") (int (pos 0)) (field (codes "i2") (boolean true) (field (codes "s1") (list (item (boolean true) (item null (no_items)))) (no_fields)))) } ∷ []); groups = (record { name = (codes "all"); hosts = ((codes "a") ∷ (codes "b") ∷ []) } ∷ record { name = (codes "g1"); hosts = ([]) } ∷ record { name = (codes "g2"); hosts = ([]) } ∷ record { name = (codes "ungrouped"); hosts = ((codes "a") ∷ (codes "b") ∷ []) } ∷ []) })
inventory_322 = refl

inventory_323 : inventory_from (rec (field (codes "_meta") (rec (field (codes "hostvars") (rec (field (codes "a") (rec (field (codes "s1") (rec (no_fields)) (no_fields))) (field (codes "b") (rec (field (codes "i1") (rec (field (codes "f") (list (no_items)) (no_fields))) (no_fields))) (field (codes "c") (rec (field (codes "i1") (list (item (boolean false) (item (text ([])) (no_items)))) (no_fields))) (no_fields))))) (no_fields))) (field (codes "all") (rec (field (codes "hosts") (list (item (text (codes "a")) (item (text (codes "b")) (item (text (codes "c")) (no_items))))) (field (codes "vars") (rec (field (codes "i1") (text (codes "no")) (field (codes "op") opaque (no_fields)))) (no_fields)))) (field (codes "g2") (rec (field (codes "hosts") (list (item (text (codes "a")) (no_items))) (field (codes "vars") (rec (field (codes "i1") (rec (field (codes "f") (boolean false) (no_fields))) (no_fields))) (no_fields)))) (no_fields))))) ≡ Ok (record { hosts = (record { name = (codes "a"); variables = (field (codes "i1") (rec (field (codes "f") (boolean false) (no_fields))) (field (codes "op") opaque (field (codes "s1") (rec (no_fields)) (no_fields)))) } ∷ record { name = (codes "b"); variables = (field (codes "i1") (rec (field (codes "f") (list (no_items)) (no_fields))) (field (codes "op") opaque (no_fields))) } ∷ record { name = (codes "c"); variables = (field (codes "i1") (list (item (boolean false) (item (text ([])) (no_items)))) (field (codes "op") opaque (no_fields))) } ∷ []); groups = (record { name = (codes "all"); hosts = ((codes "a") ∷ (codes "b") ∷ (codes "c") ∷ []) } ∷ record { name = (codes "g2"); hosts = ((codes "a") ∷ []) } ∷ record { name = (codes "ungrouped"); hosts = ((codes "b") ∷ (codes "c") ∷ []) } ∷ []) })
inventory_323 = refl

inventory_324 : inventory_from (rec (field (codes "_meta") (rec (field (codes "hostvars") (rec (field (codes "a") (rec (field (codes "s1") (text ([])) (no_fields))) (field (codes "b") (rec (field (codes "i2") (text (codes "a")) (no_fields))) (field (codes "c") (rec (field (codes "i1") (boolean true) (field (codes "op") opaque (no_fields)))) (no_fields))))) (no_fields))) (field (codes "all") (rec (field (codes "hosts") (list (item (text (codes "a")) (item (text (codes "b")) (item (text (codes "c")) (no_items))))) (field (codes "vars") (rec (field (codes "i2") (rec (field (codes "f") (rec (field (codes "f") null (field (codes "g") (int (pos 1)) (no_fields)))) (field (codes "g") (text (codes "b")) (no_fields)))) (field (codes "op") opaque (no_fields)))) (no_fields)))) (field (codes "g1") (rec (field (codes "children") (list (item (text (codes "g2")) (no_items))) (field (codes "hosts") (list (item (text (codes "b")) (item (text (codes "c")) (no_items)))) (field (codes "vars") (rec (field (codes "i1") (int (pos 1)) (no_fields))) (no_fields))))) (field (codes "g2") (rec (field (codes "hosts") (list (item (text (codes "a")) (item (text (codes "c")) (no_items)))) (field (codes "vars") (rec (no_fields)) (no_fields)))) (no_fields)))))) ≡ Ok (record { hosts = (record { name = (codes "a"); variables = (field (codes "i1") (int (pos 1)) (field (codes "i2") (rec (field (codes "f") (rec (field (codes "f") null (field (codes "g") (int (pos 1)) (no_fields)))) (field (codes "g") (text (codes "b")) (no_fields)))) (field (codes "op") opaque (field (codes "s1") (text ([])) (no_fields))))) } ∷ record { name = (codes "b"); variables = (field (codes "i1") (int (pos 1)) (field (codes "i2") (text (codes "a")) (field (codes "op") opaque (no_fields)))) } ∷ record { name = (codes "c"); variables = (field (codes "i1") (boolean true) (field (codes "i2") (rec (field (codes "f") (rec (field (codes "f") null (field (codes "g") (int (pos 1)) (no_fields)))) (field (codes "g") (text (codes "b")) (no_fields)))) (field (codes "op") opaque (no_fields)))) } ∷ []); groups = (record { name = (codes "all"); hosts = ((codes "a") ∷ (codes "b") ∷ (codes "c") ∷ []) } ∷ record { name = (codes "g1"); hosts = ((codes "b") ∷ (codes "c") ∷ (codes "a") ∷ []) } ∷ record { name = (codes "g2"); hosts = ((codes "a") ∷ (codes "c") ∷ []) } ∷ record { name = (codes "ungrouped"); hosts = ([]) } ∷ []) })
inventory_324 = refl

inventory_325 : inventory_from (rec (field (codes "_meta") (rec (field (codes "hostvars") (rec (field (codes "a") (rec (field (codes "s1") (text ([])) (no_fields))) (no_fields))) (no_fields))) (field (codes "all") (rec (field (codes "hosts") (list (item (text (codes "a")) (no_items))) (field (codes "vars") (rec (field (codes "s1") (int (pos 1)) (no_fields))) (no_fields)))) (field (codes "g1") (rec (field (codes "hosts") (list (item (text (codes "a")) (no_items))) (field (codes "vars") (rec (no_fields)) (no_fields)))) (field (codes "g2") (rec (field (codes "hosts") (list (item (text (codes "a")) (no_items))) (field (codes "vars") (rec (field (codes "i1") (text (codes "a")) (field (codes "s1") (list (no_items)) (no_fields)))) (no_fields)))) (no_fields)))))) ≡ Ok (record { hosts = (record { name = (codes "a"); variables = (field (codes "i1") (text (codes "a")) (field (codes "s1") (text ([])) (no_fields))) } ∷ []); groups = (record { name = (codes "all"); hosts = ((codes "a") ∷ []) } ∷ record { name = (codes "g1"); hosts = ((codes "a") ∷ []) } ∷ record { name = (codes "g2"); hosts = ((codes "a") ∷ []) } ∷ record { name = (codes "ungrouped"); hosts = ([]) } ∷ []) })
inventory_325 = refl

inventory_326 : inventory_from (rec (field (codes "_meta") (rec (field (codes "hostvars") (rec (field (codes "a") (rec (field (codes "s1") (text (codes "a")) (no_fields))) (field (codes "b") (rec (field (codes "i1") (rec (field (codes "f") (list (item null (no_items))) (field (codes "g") (int (pos 1)) (no_fields)))) (no_fields))) (field (codes "c") (rec (field (codes "s1") (int (pos 1)) (no_fields))) (field (codes "d") (rec (field (codes "op") opaque (no_fields))) (no_fields)))))) (no_fields))) (field (codes "all") (rec (field (codes "hosts") (list (item (text (codes "a")) (item (text (codes "b")) (item (text (codes "c")) (item (text (codes "d")) (no_items)))))) (field (codes "vars") (rec (field (codes "i2") (boolean false) (no_fields))) (no_fields)))) (field (codes "g2") (rec (field (codes "hosts") (list (item (text (codes "a")) (item (text (codes "d")) (no_items)))) (field (codes "vars") (rec (field (codes "op") opaque (no_fields))) (no_fields)))) (no_fields))))) ≡ Ok (record { hosts = (record { name = (codes "a"); variables = (field (codes "i2") (boolean false) (field (codes "op") opaque (field (codes "s1") (text (codes "a")) (no_fields)))) } ∷ record { name = (codes "b"); variables = (field (codes "i1") (rec (field (codes "f") (list (item null (no_items))) (field (codes "g") (int (pos 1)) (no_fields)))) (field (codes "i2") (boolean false) (no_fields))) } ∷ record { name = (codes "c"); variables = (field (codes "i2") (boolean false) (field (codes "s1") (int (pos 1)) (no_fields))) } ∷ record { name = (codes "d"); variables = (field (codes "i2") (boolean false) (field (codes "op") opaque (no_fields))) } ∷ []); groups = (record { name = (codes "all"); hosts = ((codes "a") ∷ (codes "b") ∷ (codes "c") ∷ (codes "d") ∷ []) } ∷ record { name = (codes "g2"); hosts = ((codes "a") ∷ (codes "d") ∷ []) } ∷ record { name = (codes "ungrouped"); hosts = ((codes "b") ∷ (codes "c") ∷ []) } ∷ []) })
inventory_326 = refl

inventory_327 : inventory_from (rec (field (codes "_meta") (rec (field (codes "hostvars") (rec (field (codes "a") (rec (field (codes "s1") (text (codes "a")) (no_fields))) (field (codes "b") (rec (field (codes "i1") (text (codes "x")) (field (codes "i2") (text ([])) (field (codes "s1") (text (codes "x")) (no_fields))))) (field (codes "c") (rec (no_fields)) (no_fields))))) (no_fields))) (field (codes "all") (rec (field (codes "hosts") (list (item (text (codes "a")) (item (text (codes "b")) (item (text (codes "c")) (no_items))))) (field (codes "vars") (rec (field (codes "i1") (int (negsuc 0)) (field (codes "s1") (text (codes "x")) (no_fields)))) (no_fields)))) (field (codes "g2") (rec (field (codes "hosts") (list (item (text (codes "a")) (item (text (codes "b")) (no_items)))) (field (codes "vars") (rec (field (codes "i1") (text (codes "x")) (field (codes "s1") (int (pos 1)) (no_fields)))) (no_fields)))) (no_fields))))) ≡ Ok (record { hosts = (record { name = (codes "a"); variables = (field (codes "i1") (text (codes "x")) (field (codes "s1") (text (codes "a")) (no_fields))) } ∷ record { name = (codes "b"); variables = (field (codes "i1") (text (codes "x")) (field (codes "i2") (text ([])) (field (codes "s1") (text (codes "x")) (no_fields)))) } ∷ record { name = (codes "c"); variables = (field (codes "i1") (int (negsuc 0)) (field (codes "s1") (text (codes "x")) (no_fields))) } ∷ []); groups = (record { name = (codes "all"); hosts = ((codes "a") ∷ (codes "b") ∷ (codes "c") ∷ []) } ∷ record { name = (codes "g2"); hosts = ((codes "a") ∷ (codes "b") ∷ []) } ∷ record { name = (codes "ungrouped"); hosts = ((codes "c") ∷ []) } ∷ []) })
inventory_327 = refl

inventory_328 : inventory_from (rec (field (codes "_meta") (rec (field (codes "hostvars") (rec (field (codes "a") (rec (field (codes "s1") (text (codes "a")) (no_fields))) (field (codes "b") (rec (field (codes "s1") (text ([])) (no_fields))) (field (codes "c") (rec (no_fields)) (no_fields))))) (no_fields))) (field (codes "all") (rec (field (codes "hosts") (list (item (text (codes "a")) (item (text (codes "b")) (item (text (codes "c")) (no_items))))) (field (codes "vars") (rec (no_fields)) (no_fields)))) (field (codes "g1") (rec (field (codes "hosts") (list (no_items)) (field (codes "vars") (rec (field (codes "i1") (text (codes "a")) (field (codes "op") opaque (no_fields)))) (no_fields)))) (field (codes "g2") (rec (field (codes "hosts") (list (item (text (codes "b")) (no_items))) (field (codes "vars") (rec (no_fields)) (no_fields)))) (no_fields)))))) ≡ Ok (record { hosts = (record { name = (codes "a"); variables = (field (codes "s1") (text (codes "a")) (no_fields)) } ∷ record { name = (codes "b"); variables = (field (codes "s1") (text ([])) (no_fields)) } ∷ record { name = (codes "c"); variables = (no_fields) } ∷ []); groups = (record { name = (codes "all"); hosts = ((codes "a") ∷ (codes "b") ∷ (codes "c") ∷ []) } ∷ record { name = (codes "g1"); hosts = ([]) } ∷ record { name = (codes "g2"); hosts = ((codes "b") ∷ []) } ∷ record { name = (codes "ungrouped"); hosts = ((codes "a") ∷ (codes "c") ∷ []) } ∷ []) })
inventory_328 = refl

inventory_329 : inventory_from (rec (field (codes "_meta") (rec (field (codes "hostvars") (rec (field (codes "a") (rec (field (codes "s1") (text (codes "b")) (no_fields))) (field (codes "b") (rec (field (codes "op") opaque (no_fields))) (field (codes "c") (rec (field (codes "op") opaque (no_fields))) (no_fields))))) (no_fields))) (field (codes "all") (rec (field (codes "hosts") (list (item (text (codes "a")) (item (text (codes "b")) (item (text (codes "c")) (no_items))))) (field (codes "vars") (rec (field (codes "i1") (int (pos 3)) (no_fields))) (no_fields)))) (field (codes "g2") (rec (field (codes "hosts") (list (item (text (codes "a")) (item (text (codes "b")) (item (text (codes "c")) (no_items))))) (field (codes "vars") (rec (no_fields)) (no_fields)))) (no_fields))))) ≡ Ok (record { hosts = (record { name = (codes "a"); variables = (field (codes "i1") (int (pos 3)) (field (codes "s1") (text (codes "b")) (no_fields))) } ∷ record { name = (codes "b"); variables = (field (codes "i1") (int (pos 3)) (field (codes "op") opaque (no_fields))) } ∷ record { name = (codes "c"); variables = (field (codes "i1") (int (pos 3)) (field (codes "op") opaque (no_fields))) } ∷ []); groups = (record { name = (codes "all"); hosts = ((codes "a") ∷ (codes "b") ∷ (codes "c") ∷ []) } ∷ record { name = (codes "g2"); hosts = ((codes "a") ∷ (codes "b") ∷ (codes "c") ∷ []) } ∷ record { name = (codes "ungrouped"); hosts = ([]) } ∷ []) })
inventory_329 = refl

inventory_330 : inventory_from (rec (field (codes "_meta") (rec (field (codes "hostvars") (rec (field (codes "a") (rec (field (codes "s1") (text (codes "b")) (no_fields))) (no_fields))) (no_fields))) (field (codes "all") (rec (field (codes "hosts") (list (item (text (codes "a")) (no_items))) (field (codes "vars") (rec (field (codes "i1") (boolean true) (field (codes "i2") (text ([])) (no_fields)))) (no_fields)))) (field (codes "g1") (rec (field (codes "hosts") (list (no_items)) (field (codes "vars") (rec (field (codes "i2") (list (no_items)) (field (codes "s1") null (no_fields)))) (no_fields)))) (no_fields))))) ≡ Ok (record { hosts = (record { name = (codes "a"); variables = (field (codes "i1") (boolean true) (field (codes "i2") (text ([])) (field (codes "s1") (text (codes "b")) (no_fields)))) } ∷ []); groups = (record { name = (codes "all"); hosts = ((codes "a") ∷ []) } ∷ record { name = (codes "g1"); hosts = ([]) } ∷ record { name = (codes "ungrouped"); hosts = ((codes "a") ∷ []) } ∷ []) })
inventory_330 = refl

inventory_331 : inventory_from (rec (field (codes "_meta") (rec (field (codes "hostvars") (rec (field (codes "a") (rec (field (codes "s1") (text (codes "b")) (no_fields))) (no_fields))) (no_fields))) (field (codes "all") (rec (field (codes "hosts") (list (item (text (codes "a")) (no_items))) (field (codes "vars") (rec (field (codes "i2") (list (item (text ([])) (item (text ([])) (no_items)))) (no_fields))) (no_fields)))) (no_fields)))) ≡ Ok (record { hosts = (record { name = (codes "a"); variables = (field (codes "i2") (list (item (text ([])) (item (text ([])) (no_items)))) (field (codes "s1") (text (codes "b")) (no_fields))) } ∷ []); groups = (record { name = (codes "all"); hosts = ((codes "a") ∷ []) } ∷ record { name = (codes "ungrouped"); hosts = ((codes "a") ∷ []) } ∷ []) })
inventory_331 = refl

inventory_332 : inventory_from (rec (field (codes "_meta") (rec (field (codes "hostvars") (rec (field (codes "a") (rec (field (codes "s1") (text (codes "no")) (no_fields))) (field (codes "b") (rec (field (codes "i1") (boolean false) (no_fields))) (field (codes "c") (rec (no_fields)) (no_fields))))) (no_fields))) (field (codes "all") (rec (field (codes "hosts") (list (item (text (codes "a")) (item (text (codes "b")) (item (text (codes "c")) (no_items))))) (field (codes "vars") (rec (field (codes "i1") (list (item (int (pos 1)) (item (boolean false) (no_items)))) (no_fields))) (no_fields)))) (field (codes "g1") (rec (field (codes "hosts") (list (item (text (codes "b")) (item (text (codes "c")) (no_items)))) (field (codes "vars") (rec (field (codes "s1") (text (codes "b")) (no_fields))) (no_fields)))) (no_fields))))) ≡ Ok (record { hosts = (record { name = (codes "a"); variables = (field (codes "i1") (list (item (int (pos 1)) (item (boolean false) (no_items)))) (field (codes "s1") (text (codes "no")) (no_fields))) } ∷ record { name = (codes "b"); variables = (field (codes "i1") (boolean false) (field (codes "s1") (text (codes "b")) (no_fields))) } ∷ record { name = (codes "c"); variables = (field (codes "i1") (list (item (int (pos 1)) (item (boolean false) (no_items)))) (field (codes "s1") (text (codes "b")) (no_fields))) } ∷ []); groups = (record { name = (codes "all"); hosts = ((codes "a") ∷ (codes "b") ∷ (codes "c") ∷ []) } ∷ record { name = (codes "g1"); hosts = ((codes "b") ∷ (codes "c") ∷ []) } ∷ record { name = (codes "ungrouped"); hosts = ((codes "a") ∷ []) } ∷ []) })
inventory_332 = refl

inventory_333 : inventory_from (rec (field (codes "_meta") (rec (field (codes "hostvars") (rec (field (codes "a") (rec (field (codes "s1") (text (codes "no")) (no_fields))) (field (codes "b") (rec (field (codes "i2") (int (pos 1)) (no_fields))) (field (codes "c") (rec (field (codes "i2") (rec (field (codes "f") (boolean false) (field (codes "g") (int (pos 2)) (no_fields)))) (no_fields))) (field (codes "d") (rec (field (codes "op") opaque (no_fields))) (no_fields)))))) (no_fields))) (field (codes "all") (rec (field (codes "hosts") (list (item (text (codes "a")) (item (text (codes "b")) (item (text (codes "c")) (item (text (codes "d")) (no_items)))))) (field (codes "vars") (rec (field (codes "i1") (rec (field (codes "f") (rec (field (codes "f") (text (codes "t")) (field (codes "g") (text (codes "a")) (no_fields)))) (field (codes "g") (list (item (int (negsuc 0)) (item (boolean false) (no_items)))) (no_fields)))) (field (codes "i2") (text (codes "x")) (no_fields)))) (no_fields)))) (field (codes "g1") (rec (field (codes "hosts") (list (item (text (codes "a")) (item (text (codes "b")) (item (text (codes "d")) (no_items))))) (field (codes "vars") (rec (field (codes "i2") (rec (field (codes "g") (list (item (text ([])) (item (int (pos 3)) (no_items)))) (no_fields))) (no_fields))) (no_fields)))) (field (codes "g2") (rec (field (codes "hosts") (list (item (text (codes "b")) (item (text (codes "c")) (no_items)))) (field (codes "vars") (rec (no_fields)) (no_fields)))) (no_fields)))))) ≡ Ok (record { hosts = (record { name = (codes "a"); variables = (field (codes "i1") (rec (field (codes "f") (rec (field (codes "f") (text (codes "t")) (field (codes "g") (text (codes "a")) (no_fields)))) (field (codes "g") (list (item (int (negsuc 0)) (item (boolean false) (no_items)))) (no_fields)))) (field (codes "i2") (rec (field (codes "g") (list (item (text ([])) (item (int (pos 3)) (no_items)))) (no_fields))) (field (codes "s1") (text (codes "no")) (no_fields)))) } ∷ record { name = (codes "b"); variables = (field (codes "i1") (rec (field (codes "f") (rec (field (codes "f") (text (codes "t")) (field (codes "g") (text (codes "a")) (no_fields)))) (field (codes "g") (list (item (int (negsuc 0)) (item (boolean false) (no_items)))) (no_fields)))) (field (codes "i2") (int (pos 1)) (no_fields))) } ∷ record { name = (codes "c"); variables = (field (codes "i1") (rec (field (codes "f") (rec (field (codes "f") (text (codes "t")) (field (codes "g") (text (codes "a")) (no_fields)))) (field (codes "g") (list (item (int (negsuc 0)) (item (boolean false) (no_items)))) (no_fields)))) (field (codes "i2") (rec (field (codes "f") (boolean false) (field (codes "g") (int (pos 2)) (no_fields)))) (no_fields))) } ∷ record { name = (codes "d"); variables = (field (codes "i1") (rec (field (codes "f") (rec (field (codes "f") (text (codes "t")) (field (codes "g") (text (codes "a")) (no_fields)))) (field (codes "g") (list (item (int (negsuc 0)) (item (boolean false) (no_items)))) (no_fields)))) (field (codes "i2") (rec (field (codes "g") (list (item (text ([])) (item (int (pos 3)) (no_items)))) (no_fields))) (field (codes "op") opaque (no_fields)))) } ∷ []); groups = (record { name = (codes "all"); hosts = ((codes "a") ∷ (codes "b") ∷ (codes "c") ∷ (codes "d") ∷ []) } ∷ record { name = (codes "g1"); hosts = ((codes "a") ∷ (codes "b") ∷ (codes "d") ∷ []) } ∷ record { name = (codes "g2"); hosts = ((codes "b") ∷ (codes "c") ∷ []) } ∷ record { name = (codes "ungrouped"); hosts = ([]) } ∷ []) })
inventory_333 = refl

inventory_334 : inventory_from (rec (field (codes "_meta") (rec (field (codes "hostvars") (rec (field (codes "a") (rec (field (codes "s1") (text (codes "no")) (no_fields))) (no_fields))) (no_fields))) (field (codes "all") (rec (field (codes "hosts") (list (item (text (codes "a")) (no_items))) (field (codes "vars") (rec (no_fields)) (no_fields)))) (field (codes "g2") (rec (field (codes "hosts") (list (no_items)) (field (codes "vars") (rec (no_fields)) (no_fields)))) (no_fields))))) ≡ Ok (record { hosts = (record { name = (codes "a"); variables = (field (codes "s1") (text (codes "no")) (no_fields)) } ∷ []); groups = (record { name = (codes "all"); hosts = ((codes "a") ∷ []) } ∷ record { name = (codes "g2"); hosts = ([]) } ∷ record { name = (codes "ungrouped"); hosts = ((codes "a") ∷ []) } ∷ []) })
inventory_334 = refl

inventory_335 : inventory_from (rec (field (codes "_meta") (rec (field (codes "hostvars") (rec (field (codes "a") (rec (field (codes "s1") (text (codes "x")) (no_fields))) (field (codes "b") (rec (field (codes "i2") (list (item (text ([])) (item null (no_items)))) (field (codes "s1") (list (no_items)) (no_fields)))) (field (codes "c") (rec (field (codes "i1") (text ([])) (no_fields))) (field (codes "d") (rec (field (codes "i1") (int (pos 1)) (field (codes "i2") (int (negsuc 0)) (no_fields)))) (no_fields)))))) (no_fields))) (field (codes "all") (rec (field (codes "hosts") (list (item (text (codes "a")) (item (text (codes "b")) (item (text (codes "c")) (item (text (codes "d")) (no_items)))))) (field (codes "vars") (rec (no_fields)) (no_fields)))) (field (codes "g1") (rec (field (codes "children") (list (item (text (codes "g2")) (no_items))) (field (codes "hosts") (list (item (text (codes "c")) (item (text (codes "d")) (no_items)))) (field (codes "vars") (rec (field (codes "i2") (text (codes "no")) (field (codes "s1") (text (codes "a")) (no_fields)))) (no_fields))))) (field (codes "g2") (rec (field (codes "hosts") (list (item (text (codes "a")) (item (text (codes "b")) (item (text (codes "c")) (no_items))))) (field (codes "vars") (rec (no_fields)) (no_fields)))) (no_fields)))))) ≡ Ok (record { hosts = (record { name = (codes "a"); variables = (field (codes "i2") (text (codes "no")) (field (codes "s1") (text (codes "x")) (no_fields))) } ∷ record { name = (codes "b"); variables = (field (codes "i2") (list (item (text ([])) (item null (no_items)))) (field (codes "s1") (list (no_items)) (no_fields))) } ∷ record { name = (codes "c"); variables = (field (codes "i1") (text ([])) (field (codes "i2") (text (codes "no")) (field (codes "s1") (text (codes "a")) (no_fields)))) } ∷ record { name = (codes "d"); variables = (field (codes "i1") (int (pos 1)) (field (codes "i2") (int (negsuc 0)) (field (codes "s1") (text (codes "a")) (no_fields)))) } ∷ []); groups = (record { name = (codes "all"); hosts = ((codes "a") ∷ (codes "b") ∷ (codes "c") ∷ (codes "d") ∷ []) } ∷ record { name = (codes "g1"); hosts = ((codes "c") ∷ (codes "d") ∷ (codes "a") ∷ (codes "b") ∷ []) } ∷ record { name = (codes "g2"); hosts = ((codes "a") ∷ (codes "b") ∷ (codes "c") ∷ []) } ∷ record { name = (codes "ungrouped"); hosts = ([]) } ∷ []) })
inventory_335 = refl

inventory_336 : inventory_from (rec (field (codes "_meta") (rec (field (codes "hostvars") (rec (field (codes "a") (rec (field (codes "s1") (text (codes "x")) (no_fields))) (field (codes "b") (rec (field (codes "op") opaque (no_fields))) (field (codes "c") (rec (field (codes "s1") (text (codes "x")) (no_fields))) (field (codes "d") (rec (field (codes "i2") (text (codes "no")) (field (codes "op") opaque (no_fields)))) (no_fields)))))) (no_fields))) (field (codes "all") (rec (field (codes "hosts") (list (item (text (codes "a")) (item (text (codes "b")) (item (text (codes "c")) (item (text (codes "d")) (no_items)))))) (field (codes "vars") (rec (no_fields)) (no_fields)))) (field (codes "g1") (rec (field (codes "hosts") (list (item (text (codes "b")) (item (text (codes "c")) (no_items)))) (field (codes "vars") (rec (field (codes "i1") (rec (field (codes "g") (list (item (int (pos 3)) (item (int (pos 3)) (no_items)))) (no_fields))) (no_fields))) (no_fields)))) (no_fields))))) ≡ Ok (record { hosts = (record { name = (codes "a"); variables = (field (codes "s1") (text (codes "x")) (no_fields)) } ∷ record { name = (codes "b"); variables = (field (codes "i1") (rec (field (codes "g") (list (item (int (pos 3)) (item (int (pos 3)) (no_items)))) (no_fields))) (field (codes "op") opaque (no_fields))) } ∷ record { name = (codes "c"); variables = (field (codes "i1") (rec (field (codes "g") (list (item (int (pos 3)) (item (int (pos 3)) (no_items)))) (no_fields))) (field (codes "s1") (text (codes "x")) (no_fields))) } ∷ record { name = (codes "d"); variables = (field (codes "i2") (text (codes "no")) (field (codes "op") opaque (no_fields))) } ∷ []); groups = (record { name = (codes "all"); hosts = ((codes "a") ∷ (codes "b") ∷ (codes "c") ∷ (codes "d") ∷ []) } ∷ record { name = (codes "g1"); hosts = ((codes "b") ∷ (codes "c") ∷ []) } ∷ record { name = (codes "ungrouped"); hosts = ((codes "a") ∷ (codes "d") ∷ []) } ∷ []) })
inventory_336 = refl

inventory_337 : inventory_from (rec (field (codes "_meta") (rec (field (codes "hostvars") (rec (field (codes "a") (rec (field (codes "s1") (text (codes "x")) (no_fields))) (field (codes "b") (rec (no_fields)) (field (codes "c") (rec (field (codes "i1") (list (no_items)) (field (codes "s1") (rec (field (codes "f") (int (pos 0)) (no_fields))) (no_fields)))) (no_fields))))) (no_fields))) (field (codes "all") (rec (field (codes "hosts") (list (item (text (codes "a")) (item (text (codes "b")) (item (text (codes "c")) (no_items))))) (field (codes "vars") (rec (field (codes "i2") (rec (field (codes "f") (list (item (boolean false) (item (text (codes "x")) (no_items)))) (field (codes "g") (int (pos 1)) (no_fields)))) (no_fields))) (no_fields)))) (no_fields)))) ≡ Ok (record { hosts = (record { name = (codes "a"); variables = (field (codes "i2") (rec (field (codes "f") (list (item (boolean false) (item (text (codes "x")) (no_items)))) (field (codes "g") (int (pos 1)) (no_fields)))) (field (codes "s1") (text (codes "x")) (no_fields))) } ∷ record { name = (codes "b"); variables = (field (codes "i2") (rec (field (codes "f") (list (item (boolean false) (item (text (codes "x")) (no_items)))) (field (codes "g") (int (pos 1)) (no_fields)))) (no_fields)) } ∷ record { name = (codes "c"); variables = (field (codes "i1") (list (no_items)) (field (codes "i2") (rec (field (codes "f") (list (item (boolean false) (item (text (codes "x")) (no_items)))) (field (codes "g") (int (pos 1)) (no_fields)))) (field (codes "s1") (rec (field (codes "f") (int (pos 0)) (no_fields))) (no_fields)))) } ∷ []); groups = (record { name = (codes "all"); hosts = ((codes "a") ∷ (codes "b") ∷ (codes "c") ∷ []) } ∷ record { name = (codes "ungrouped"); hosts = ((codes "a") ∷ (codes "b") ∷ (codes "c") ∷ []) } ∷ []) })
inventory_337 = refl

inventory_338 : inventory_from (rec (field (codes "_meta") (rec (field (codes "hostvars") (rec (field (codes "a") (rec (field (codes "s1") null (no_fields))) (field (codes "b") (rec (field (codes "op") opaque (no_fields))) (field (codes "c") (rec (field (codes "op") opaque (no_fields))) (field (codes "d") (rec (field (codes "s1") (boolean false) (no_fields))) (no_fields)))))) (no_fields))) (field (codes "all") (rec (field (codes "hosts") (list (item (text (codes "a")) (item (text (codes "b")) (item (text (codes "c")) (item (text (codes "d")) (no_items)))))) (field (codes "vars") (rec (field (codes "op") opaque (field (codes "s1") (boolean false) (no_fields)))) (no_fields)))) (field (codes "g1") (rec (field (codes "hosts") (list (item (text (codes "a")) (item (text (codes "c")) (no_items)))) (field (codes "vars") (rec (field (codes "s1") (list (item (text (codes "a")) (no_items))) (no_fields))) (no_fields)))) (no_fields))))) ≡ Ok (record { hosts = (record { name = (codes "a"); variables = (field (codes "op") opaque (field (codes "s1") null (no_fields))) } ∷ record { name = (codes "b"); variables = (field (codes "op") opaque (field (codes "s1") (boolean false) (no_fields))) } ∷ record { name = (codes "c"); variables = (field (codes "op") opaque (field (codes "s1") (list (item (text (codes "a")) (no_items))) (no_fields))) } ∷ record { name = (codes "d"); variables = (field (codes "op") opaque (field (codes "s1") (boolean false) (no_fields))) } ∷ []); groups = (record { name = (codes "all"); hosts = ((codes "a") ∷ (codes "b") ∷ (codes "c") ∷ (codes "d") ∷ []) } ∷ record { name = (codes "g1"); hosts = ((codes "a") ∷ (codes "c") ∷ []) } ∷ record { name = (codes "ungrouped"); hosts = ((codes "b") ∷ (codes "d") ∷ []) } ∷ []) })
inventory_338 = refl

inventory_339 : inventory_from (rec (field (codes "_meta") (rec (field (codes "hostvars") (rec (field (codes "a") (rec (no_fields)) (field (codes "b") (rec (field (codes "i1") (boolean false) (no_fields))) (field (codes "c") (rec (field (codes "i1") (rec (field (codes "g") (rec (field (codes "f") (text (codes "t")) (field (codes "g") (int (pos 1)) (no_fields)))) (no_fields))) (no_fields))) (field (codes "d") (rec (field (codes "i1") (list (item (text (codes "x")) (item (text (codes "no")) (no_items)))) (field (codes "i2") (text ([])) (field (codes "s1") (list (no_items)) (no_fields))))) (no_fields)))))) (no_fields))) (field (codes "all") (rec (field (codes "hosts") (list (item (text (codes "a")) (item (text (codes "b")) (item (text (codes "c")) (item (text (codes "d")) (no_items)))))) (field (codes "vars") (rec (field (codes "i1") (int (pos 1)) (no_fields))) (no_fields)))) (field (codes "g1") (rec (field (codes "children") (list (item (text (codes "g2")) (no_items))) (field (codes "hosts") (list (item (text (codes "c")) (item (text (codes "d")) (no_items)))) (field (codes "vars") (rec (field (codes "i1") (boolean false) (field (codes "i2") (int (pos 1)) (no_fields)))) (no_fields))))) (field (codes "g2") (rec (field (codes "hosts") (list (item (text (codes "a")) (item (text (codes "b")) (item (text (codes "c")) (no_items))))) (field (codes "vars") (rec (no_fields)) (no_fields)))) (no_fields)))))) ≡ Ok (record { hosts = (record { name = (codes "a"); variables = (field (codes "i1") (boolean false) (field (codes "i2") (int (pos 1)) (no_fields))) } ∷ record { name = (codes "b"); variables = (field (codes "i1") (boolean false) (field (codes "i2") (int (pos 1)) (no_fields))) } ∷ record { name = (codes "c"); variables = (field (codes "i1") (rec (field (codes "g") (rec (field (codes "f") (text (codes "t")) (field (codes "g") (int (pos 1)) (no_fields)))) (no_fields))) (field (codes "i2") (int (pos 1)) (no_fields))) } ∷ record { name = (codes "d"); variables = (field (codes "i1") (list (item (text (codes "x")) (item (text (codes "no")) (no_items)))) (field (codes "i2") (text ([])) (field (codes "s1") (list (no_items)) (no_fields)))) } ∷ []); groups = (record { name = (codes "all"); hosts = ((codes "a") ∷ (codes "b") ∷ (codes "c") ∷ (codes "d") ∷ []) } ∷ record { name = (codes "g1"); hosts = ((codes "c") ∷ (codes "d") ∷ (codes "a") ∷ (codes "b") ∷ []) } ∷ record { name = (codes "g2"); hosts = ((codes "a") ∷ (codes "b") ∷ (codes "c") ∷ []) } ∷ record { name = (codes "ungrouped"); hosts = ([]) } ∷ []) })
inventory_339 = refl

inventory_340 : inventory_from (rec (field (codes "_meta") (rec (field (codes "hostvars") (rec (field (codes "a") (rec (no_fields)) (field (codes "b") (rec (field (codes "i1") (boolean true) (field (codes "s1") (int (negsuc 0)) (no_fields)))) (no_fields)))) (no_fields))) (field (codes "all") (rec (field (codes "hosts") (list (item (text (codes "a")) (item (text (codes "b")) (no_items)))) (field (codes "vars") (rec (field (codes "i1") (int (pos 1)) (field (codes "s1") (boolean false) (no_fields)))) (no_fields)))) (field (codes "g1") (rec (field (codes "children") (list (item (text (codes "g2")) (no_items))) (field (codes "hosts") (list (item (text (codes "b")) (no_items))) (field (codes "vars") (rec (field (codes "i1") (boolean true) (no_fields))) (no_fields))))) (field (codes "g2") (rec (field (codes "hosts") (list (item (text (codes "a")) (item (text (codes "b")) (no_items)))) (field (codes "vars") (rec (no_fields)) (no_fields)))) (no_fields)))))) ≡ Ok (record { hosts = (record { name = (codes "a"); variables = (field (codes "i1") (boolean true) (field (codes "s1") (boolean false) (no_fields))) } ∷ record { name = (codes "b"); variables = (field (codes "i1") (boolean true) (field (codes "s1") (int (negsuc 0)) (no_fields))) } ∷ []); groups = (record { name = (codes "all"); hosts = ((codes "a") ∷ (codes "b") ∷ []) } ∷ record { name = (codes "g1"); hosts = ((codes "b") ∷ (codes "a") ∷ []) } ∷ record { name = (codes "g2"); hosts = ((codes "a") ∷ (codes "b") ∷ []) } ∷ record { name = (codes "ungrouped"); hosts = ([]) } ∷ []) })
inventory_340 = refl

inventory_341 : inventory_from (rec (field (codes "_meta") (rec (field (codes "hostvars") (rec (field (codes "a") (rec (no_fields)) (field (codes "b") (rec (field (codes "i1") (boolean true) (field (codes "s1") (text (codes "t")) (no_fields)))) (field (codes "c") (rec (field (codes "i2") (boolean true) (field (codes "s1") (rec (field (codes "g") (list (no_items)) (no_fields))) (no_fields)))) (field (codes "d") (rec (field (codes "i1") (boolean true) (field (codes "s1") (rec (field (codes "f") (rec (field (codes "g") (text (codes "t")) (no_fields))) (field (codes "g") (boolean false) (no_fields)))) (no_fields)))) (no_fields)))))) (no_fields))) (field (codes "all") (rec (field (codes "hosts") (list (item (text (codes "a")) (item (text (codes "b")) (item (text (codes "c")) (item (text (codes "d")) (no_items)))))) (field (codes "vars") (rec (field (codes "op") opaque (no_fields))) (no_fields)))) (no_fields)))) ≡ Ok (record { hosts = (record { name = (codes "a"); variables = (field (codes "op") opaque (no_fields)) } ∷ record { name = (codes "b"); variables = (field (codes "i1") (boolean true) (field (codes "op") opaque (field (codes "s1") (text (codes "t")) (no_fields)))) } ∷ record { name = (codes "c"); variables = (field (codes "i2") (boolean true) (field (codes "op") opaque (field (codes "s1") (rec (field (codes "g") (list (no_items)) (no_fields))) (no_fields)))) } ∷ record { name = (codes "d"); variables = (field (codes "i1") (boolean true) (field (codes "op") opaque (field (codes "s1") (rec (field (codes "f") (rec (field (codes "g") (text (codes "t")) (no_fields))) (field (codes "g") (boolean false) (no_fields)))) (no_fields)))) } ∷ []); groups = (record { name = (codes "all"); hosts = ((codes "a") ∷ (codes "b") ∷ (codes "c") ∷ (codes "d") ∷ []) } ∷ record { name = (codes "ungrouped"); hosts = ((codes "a") ∷ (codes "b") ∷ (codes "c") ∷ (codes "d") ∷ []) } ∷ []) })
inventory_341 = refl

inventory_342 : inventory_from (rec (field (codes "_meta") (rec (field (codes "hostvars") (rec (field (codes "a") (rec (no_fields)) (field (codes "b") (rec (field (codes "i1") (int (pos 1)) (field (codes "i2") (text (codes "t")) (no_fields)))) (field (codes "c") (rec (no_fields)) (field (codes "d") (rec (field (codes "op") opaque (no_fields))) (no_fields)))))) (no_fields))) (field (codes "all") (rec (field (codes "hosts") (list (item (text (codes "a")) (item (text (codes "b")) (item (text (codes "c")) (item (text (codes "d")) (no_items)))))) (field (codes "vars") (rec (no_fields)) (no_fields)))) (field (codes "g1") (rec (field (codes "hosts") (list (item (text (codes "a")) (item (text (codes "c")) (item (text (codes "d")) (no_items))))) (field (codes "vars") (rec (no_fields)) (no_fields)))) (no_fields))))) ≡ Ok (record { hosts = (record { name = (codes "a"); variables = (no_fields) } ∷ record { name = (codes "b"); variables = (field (codes "i1") (int (pos 1)) (field (codes "i2") (text (codes "t")) (no_fields))) } ∷ record { name = (codes "c"); variables = (no_fields) } ∷ record { name = (codes "d"); variables = (field (codes "op") opaque (no_fields)) } ∷ []); groups = (record { name = (codes "all"); hosts = ((codes "a") ∷ (codes "b") ∷ (codes "c") ∷ (codes "d") ∷ []) } ∷ record { name = (codes "g1"); hosts = ((codes "a") ∷ (codes "c") ∷ (codes "d") ∷ []) } ∷ record { name = (codes "ungrouped"); hosts = ((codes "b") ∷ []) } ∷ []) })
inventory_342 = refl

inventory_343 : inventory_from (rec (field (codes "_meta") (rec (field (codes "hostvars") (rec (field (codes "a") (rec (no_fields)) (field (codes "b") (rec (field (codes "i1") (int (pos 2)) (field (codes "op") opaque (field (codes "s1") (list (no_items)) (no_fields))))) (field (codes "c") (rec (field (codes "s1") (text (codes "b")) (no_fields))) (field (codes "d") (rec (no_fields)) (no_fields)))))) (no_fields))) (field (codes "all") (rec (field (codes "hosts") (list (item (text (codes "a")) (item (text (codes "b")) (item (text (codes "c")) (item (text (codes "d")) (no_items)))))) (field (codes "vars") (rec (no_fields)) (no_fields)))) (field (codes "g2") (rec (field (codes "hosts") (list (item (text (codes "b")) (item (text (codes "c")) (no_items)))) (field (codes "vars") (rec (field (codes "i2") null (no_fields))) (no_fields)))) (no_fields))))) ≡ Ok (record { hosts = (record { name = (codes "a"); variables = (no_fields) } ∷ record { name = (codes "b"); variables = (field (codes "i1") (int (pos 2)) (field (codes "i2") null (field (codes "op") opaque (field (codes "s1") (list (no_items)) (no_fields))))) } ∷ record { name = (codes "c"); variables = (field (codes "i2") null (field (codes "s1") (text (codes "b")) (no_fields))) } ∷ record { name = (codes "d"); variables = (no_fields) } ∷ []); groups = (record { name = (codes "all"); hosts = ((codes "a") ∷ (codes "b") ∷ (codes "c") ∷ (codes "d") ∷ []) } ∷ record { name = (codes "g2"); hosts = ((codes "b") ∷ (codes "c") ∷ []) } ∷ record { name = (codes "ungrouped"); hosts = ((codes "a") ∷ (codes "d") ∷ []) } ∷ []) })
inventory_343 = refl

inventory_344 : inventory_from (rec (field (codes "_meta") (rec (field (codes "hostvars") (rec (field (codes "a") (rec (no_fields)) (field (codes "b") (rec (field (codes "i1") (int (pos 2)) (no_fields))) (field (codes "c") (rec (no_fields)) (no_fields))))) (no_fields))) (field (codes "all") (rec (field (codes "hosts") (list (item (text (codes "a")) (item (text (codes "b")) (item (text (codes "c")) (no_items))))) (field (codes "vars") (rec (no_fields)) (no_fields)))) (field (codes "g1") (rec (field (codes "hosts") (list (item (text (codes "b")) (item (text (codes "c")) (no_items)))) (field (codes "vars") (rec (no_fields)) (no_fields)))) (field (codes "g2") (rec (field (codes "hosts") (list (item (text (codes "a")) (item (text (codes "b")) (item (text (codes "c")) (no_items))))) (field (codes "vars") (rec (field (codes "op") opaque (no_fields))) (no_fields)))) (no_fields)))))) ≡ Ok (record { hosts = (record { name = (codes "a"); variables = (field (codes "op") opaque (no_fields)) } ∷ record { name = (codes "b"); variables = (field (codes "i1") (int (pos 2)) (field (codes "op") opaque (no_fields))) } ∷ record { name = (codes "c"); variables = (field (codes "op") opaque (no_fields)) } ∷ []); groups = (record { name = (codes "all"); hosts = ((codes "a") ∷ (codes "b") ∷ (codes "c") ∷ []) } ∷ record { name = (codes "g1"); hosts = ((codes "b") ∷ (codes "c") ∷ []) } ∷ record { name = (codes "g2"); hosts = ((codes "a") ∷ (codes "b") ∷ (codes "c") ∷ []) } ∷ record { name = (codes "ungrouped"); hosts = ([]) } ∷ []) })
inventory_344 = refl

inventory_345 : inventory_from (rec (field (codes "_meta") (rec (field (codes "hostvars") (rec (field (codes "a") (rec (no_fields)) (field (codes "b") (rec (field (codes "i1") (list (item (int (pos 1)) (item (int (pos 0)) (no_items)))) (field (codes "s1") (int (pos 1)) (no_fields)))) (field (codes "c") (rec (no_fields)) (no_fields))))) (no_fields))) (field (codes "all") (rec (field (codes "hosts") (list (item (text (codes "a")) (item (text (codes "b")) (item (text (codes "c")) (no_items))))) (field (codes "vars") (rec (field (codes "i1") (list (item (boolean false) (item (boolean false) (no_items)))) (no_fields))) (no_fields)))) (field (codes "g1") (rec (field (codes "hosts") (list (item (text (codes "b")) (item (text (codes "c")) (no_items)))) (field (codes "vars") (rec (field (codes "i1") (text (codes "a")) (no_fields))) (no_fields)))) (field (codes "g2") (rec (field (codes "hosts") (list (item (text (codes "a")) (item (text (codes "b")) (item (text (codes "c")) (no_items))))) (field (codes "vars") (rec (field (codes "i1") (rec (no_fields)) (no_fields))) (no_fields)))) (no_fields)))))) ≡ Ok (record { hosts = (record { name = (codes "a"); variables = (field (codes "i1") (rec (no_fields)) (no_fields)) } ∷ record { name = (codes "b"); variables = (field (codes "i1") (list (item (int (pos 1)) (item (int (pos 0)) (no_items)))) (field (codes "s1") (int (pos 1)) (no_fields))) } ∷ record { name = (codes "c"); variables = (field (codes "i1") (rec (no_fields)) (no_fields)) } ∷ []); groups = (record { name = (codes "all"); hosts = ((codes "a") ∷ (codes "b") ∷ (codes "c") ∷ []) } ∷ record { name = (codes "g1"); hosts = ((codes "b") ∷ (codes "c") ∷ []) } ∷ record { name = (codes "g2"); hosts = ((codes "a") ∷ (codes "b") ∷ (codes "c") ∷ []) } ∷ record { name = (codes "ungrouped"); hosts = ([]) } ∷ []) })
inventory_345 = refl

inventory_346 : inventory_from (rec (field (codes "_meta") (rec (field (codes "hostvars") (rec (field (codes "a") (rec (no_fields)) (field (codes "b") (rec (field (codes "i1") (list (item (int (pos 1)) (no_items))) (no_fields))) (field (codes "c") (rec (no_fields)) (no_fields))))) (no_fields))) (field (codes "all") (rec (field (codes "hosts") (list (item (text (codes "a")) (item (text (codes "b")) (item (text (codes "c")) (no_items))))) (field (codes "vars") (rec (field (codes "op") opaque (no_fields))) (no_fields)))) (field (codes "g1") (rec (field (codes "hosts") (list (item (text (codes "a")) (item (text (codes "b")) (item (text (codes "c")) (no_items))))) (field (codes "vars") (rec (field (codes "s1") (int (negsuc 0)) (no_fields))) (no_fields)))) (no_fields))))) ≡ Ok (record { hosts = (record { name = (codes "a"); variables = (field (codes "op") opaque (field (codes "s1") (int (negsuc 0)) (no_fields))) } ∷ record { name = (codes "b"); variables = (field (codes "i1") (list (item (int (pos 1)) (no_items))) (field (codes "op") opaque (field (codes "s1") (int (negsuc 0)) (no_fields)))) } ∷ record { name = (codes "c"); variables = (field (codes "op") opaque (field (codes "s1") (int (negsuc 0)) (no_fields))) } ∷ []); groups = (record { name = (codes "all"); hosts = ((codes "a") ∷ (codes "b") ∷ (codes "c") ∷ []) } ∷ record { name = (codes "g1"); hosts = ((codes "a") ∷ (codes "b") ∷ (codes "c") ∷ []) } ∷ record { name = (codes "ungrouped"); hosts = ([]) } ∷ []) })
inventory_346 = refl

inventory_347 : inventory_from (rec (field (codes "_meta") (rec (field (codes "hostvars") (rec (field (codes "a") (rec (no_fields)) (field (codes "b") (rec (field (codes "i1") (list (item (text (codes "x")) (item (text ([])) (no_items)))) (field (codes "s1") (list (item null (no_items))) (no_fields)))) (field (codes "c") (rec (field (codes "op") opaque (field (codes "s1") (text (codes "x")) (no_fields)))) (no_fields))))) (no_fields))) (field (codes "all") (rec (field (codes "hosts") (list (item (text (codes "a")) (item (text (codes "b")) (item (text (codes "c")) (no_items))))) (field (codes "vars") (rec (field (codes "s1") (rec (field (codes "g") (int (pos 3)) (no_fields))) (no_fields))) (no_fields)))) (no_fields)))) ≡ Ok (record { hosts = (record { name = (codes "a"); variables = (field (codes "s1") (rec (field (codes "g") (int (pos 3)) (no_fields))) (no_fields)) } ∷ record { name = (codes "b"); variables = (field (codes "i1") (list (item (text (codes "x")) (item (text ([])) (no_items)))) (field (codes "s1") (list (item null (no_items))) (no_fields))) } ∷ record { name = (codes "c"); variables = (field (codes "op") opaque (field (codes "s1") (text (codes "x")) (no_fields))) } ∷ []); groups = (record { name = (codes "all"); hosts = ((codes "a") ∷ (codes "b") ∷ (codes "c") ∷ []) } ∷ record { name = (codes "ungrouped"); hosts = ((codes "a") ∷ (codes "b") ∷ (codes "c") ∷ []) } ∷ []) })
inventory_347 = refl

inventory_348 : inventory_from (rec (field (codes "_meta") (rec (field (codes "hostvars") (rec (field (codes "a") (rec (no_fields)) (field (codes "b") (rec (field (codes "i1") (list (no_items)) (no_fields))) (field (codes "c") (rec (field (codes "i1") (int (pos 1)) (no_fields))) (field (codes "d") (rec (field (codes "s1") (int (pos 3)) (no_fields))) (no_fields)))))) (no_fields))) (field (codes "all") (rec (field (codes "hosts") (list (item (text (codes "a")) (item (text (codes "b")) (item (text (codes "c")) (item (text (codes "d")) (no_items)))))) (field (codes "vars") (rec (field (codes "s1") (list (item (int (pos 1)) (item (text (codes "no")) (no_items)))) (no_fields))) (no_fields)))) (field (codes "g2") (rec (field (codes "hosts") (list (item (text (codes "a")) (item (text (codes "d")) (no_items)))) (field (codes "vars") (rec (field (codes "i1") (text (codes "x")) (no_fields))) (no_fields)))) (no_fields))))) ≡ Ok (record { hosts = (record { name = (codes "a"); variables = (field (codes "i1") (text (codes "x")) (field (codes "s1") (list (item (int (pos 1)) (item (text (codes "no")) (no_items)))) (no_fields))) } ∷ record { name = (codes "b"); variables = (field (codes "i1") (list (no_items)) (field (codes "s1") (list (item (int (pos 1)) (item (text (codes "no")) (no_items)))) (no_fields))) } ∷ record { name = (codes "c"); variables = (field (codes "i1") (int (pos 1)) (field (codes "s1") (list (item (int (pos 1)) (item (text (codes "no")) (no_items)))) (no_fields))) } ∷ record { name = (codes "d"); variables = (field (codes "i1") (text (codes "x")) (field (codes "s1") (int (pos 3)) (no_fields))) } ∷ []); groups = (record { name = (codes "all"); hosts = ((codes "a") ∷ (codes "b") ∷ (codes "c") ∷ (codes "d") ∷ []) } ∷ record { name = (codes "g2"); hosts = ((codes "a") ∷ (codes "d") ∷ []) } ∷ record { name = (codes "ungrouped"); hosts = ((codes "b") ∷ (codes "c") ∷ []) } ∷ []) })
inventory_348 = refl

inventory_349 : inventory_from (rec (field (codes "_meta") (rec (field (codes "hostvars") (rec (field (codes "a") (rec (no_fields)) (field (codes "b") (rec (field (codes "i1") (list (no_items)) (no_fields))) (field (codes "c") (rec (field (codes "i1") (text (codes "a")) (no_fields))) (field (codes "d") (rec (field (codes "i1") (int (pos 2)) (field (codes "op") opaque (field (codes "s1") (rec (field (codes "f") (text (codes "no")) (no_fields))) (no_fields))))) (no_fields)))))) (no_fields))) (field (codes "all") (rec (field (codes "hosts") (list (item (text (codes "a")) (item (text (codes "b")) (item (text (codes "c")) (item (text (codes "d")) (no_items)))))) (field (codes "vars") (rec (field (codes "i1") (boolean true) (no_fields))) (no_fields)))) (field (codes "g1") (rec (field (codes "children") (list (item (text (codes "g2")) (no_items))) (field (codes "hosts") (list (item (text (codes "a")) (item (text (codes "b")) (item (text (codes "d")) (no_items))))) (field (codes "vars") (rec (no_fields)) (no_fields))))) (field (codes "g2") (rec (field (codes "hosts") (list (item (text (codes "b")) (item (text (codes "d")) (no_items)))) (field (codes "vars") (rec (field (codes "i1") (rec (field (codes "g") (boolean true) (no_fields))) (field (codes "op") opaque (no_fields)))) (no_fields)))) (no_fields)))))) ≡ Ok (record { hosts = (record { name = (codes "a"); variables = (field (codes "i1") (boolean true) (no_fields)) } ∷ record { name = (codes "b"); variables = (field (codes "i1") (list (no_items)) (field (codes "op") opaque (no_fields))) } ∷ record { name = (codes "c"); variables = (field (codes "i1") (text (codes "a")) (no_fields)) } ∷ record { name = (codes "d"); variables = (field (codes "i1") (int (pos 2)) (field (codes "op") opaque (field (codes "s1") (rec (field (codes "f") (text (codes "no")) (no_fields))) (no_fields)))) } ∷ []); groups = (record { name = (codes "all"); hosts = ((codes "a") ∷ (codes "b") ∷ (codes "c") ∷ (codes "d") ∷ []) } ∷ record { name = (codes "g1"); hosts = ((codes "a") ∷ (codes "b") ∷ (codes "d") ∷ []) } ∷ record { name = (codes "g2"); hosts = ((codes "b") ∷ (codes "d") ∷ []) } ∷ record { name = (codes "ungrouped"); hosts = ((codes "c") ∷ []) } ∷ []) })
inventory_349 = refl

inventory_350 : inventory_from (rec (field (codes "_meta") (rec (field (codes "hostvars") (rec (field (codes "a") (rec (no_fields)) (field (codes "b") (rec (field (codes "i1") (rec (field (codes "f") (list (item (text (codes "no")) (item (boolean false) (no_items)))) (no_fields))) (field (codes "s1") (text (codes "x")) (no_fields)))) (field (codes "c") (rec (field (codes "s1") (text (codes "t")) (no_fields))) (field (codes "d") (rec (field (codes "i2") (text (codes "no")) (field (codes "op") opaque (no_fields)))) (no_fields)))))) (no_fields))) (field (codes "all") (rec (field (codes "hosts") (list (item (text (codes "a")) (item (text (codes "b")) (item (text (codes "c")) (item (text (codes "d")) (no_items)))))) (field (codes "vars") (rec (field (codes "i2") null (no_fields))) (no_fields)))) (field (codes "g1") (rec (field (codes "hosts") (list (item (text (codes "c")) (item (text (codes "d")) (no_items)))) (field (codes "vars") (rec (field (codes "op") opaque (no_fields))) (no_fields)))) (no_fields))))) ≡ Ok (record { hosts = (record { name = (codes "a"); variables = (field (codes "i2") null (no_fields)) } ∷ record { name = (codes "b"); variables = (field (codes "i1") (rec (field (codes "f") (list (item (text (codes "no")) (item (boolean false) (no_items)))) (no_fields))) (field (codes "i2") null (field (codes "s1") (text (codes "x")) (no_fields)))) } ∷ record { name = (codes "c"); variables = (field (codes "i2") null (field (codes "op") opaque (field (codes "s1") (text (codes "t")) (no_fields)))) } ∷ record { name = (codes "d"); variables = (field (codes "i2") (text (codes "no")) (field (codes "op") opaque (no_fields))) } ∷ []); groups = (record { name = (codes "all"); hosts = ((codes "a") ∷ (codes "b") ∷ (codes "c") ∷ (codes "d") ∷ []) } ∷ record { name = (codes "g1"); hosts = ((codes "c") ∷ (codes "d") ∷ []) } ∷ record { name = (codes "ungrouped"); hosts = ((codes "a") ∷ (codes "b") ∷ []) } ∷ []) })
inventory_350 = refl

inventory_351 : inventory_from (rec (field (codes "_meta") (rec (field (codes "hostvars") (rec (field (codes "a") (rec (no_fields)) (field (codes "b") (rec (field (codes "i1") (rec (field (codes "f") (list (item (text (codes "x")) (item (text (codes "x")) (no_items)))) (no_fields))) (field (codes "i2") (boolean true) (no_fields)))) (field (codes "c") (rec (no_fields)) (field (codes "d") (rec (field (codes "op") opaque (no_fields))) (no_fields)))))) (no_fields))) (field (codes "all") (rec (field (codes "hosts") (list (item (text (codes "a")) (item (text (codes "b")) (item (text (codes "c")) (item (text (codes "d")) (no_items)))))) (field (codes "vars") (rec (field (codes "i1") (boolean false) (field (codes "i2") (text (codes "a")) (no_fields)))) (no_fields)))) (field (codes "g2") (rec (field (codes "hosts") (list (item (text (codes "a")) (item (text (codes "c")) (item (text (codes "d")) (no_items))))) (field (codes "vars") (rec (no_fields)) (no_fields)))) (no_fields))))) ≡ Ok (record { hosts = (record { name = (codes "a"); variables = (field (codes "i1") (boolean false) (field (codes "i2") (text (codes "a")) (no_fields))) } ∷ record { name = (codes "b"); variables = (field (codes "i1") (rec (field (codes "f") (list (item (text (codes "x")) (item (text (codes "x")) (no_items)))) (no_fields))) (field (codes "i2") (boolean true) (no_fields))) } ∷ record { name = (codes "c"); variables = (field (codes "i1") (boolean false) (field (codes "i2") (text (codes "a")) (no_fields))) } ∷ record { name = (codes "d"); variables = (field (codes "i1") (boolean false) (field (codes "i2") (text (codes "a")) (field (codes "op") opaque (no_fields)))) } ∷ []); groups = (record { name = (codes "all"); hosts = ((codes "a") ∷ (codes "b") ∷ (codes "c") ∷ (codes "d") ∷ []) } ∷ record { name = (codes "g2"); hosts = ((codes "a") ∷ (codes "c") ∷ (codes "d") ∷ []) } ∷ record { name = (codes "ungrouped"); hosts = ((codes "b") ∷ []) } ∷ []) })
inventory_351 = refl

inventory_352 : inventory_from (rec (field (codes "_meta") (rec (field (codes "hostvars") (rec (field (codes "a") (rec (no_fields)) (field (codes "b") (rec (field (codes "i1") (rec (field (codes "g") (int (pos 1)) (no_fields))) (field (codes "i2") (text (codes "t")) (no_fields)))) (field (codes "c") (rec (field (codes "i2") (list (item (int (pos 1)) (item (int (negsuc 0)) (no_items)))) (no_fields))) (field (codes "d") (rec (field (codes "op") opaque (no_fields))) (no_fields)))))) (no_fields))) (field (codes "all") (rec (field (codes "hosts") (list (item (text (codes "a")) (item (text (codes "b")) (item (text (codes "c")) (item (text (codes "d")) (no_items)))))) (field (codes "vars") (rec (field (codes "s1") (text ([])) (no_fields))) (no_fields)))) (no_fields)))) ≡ Ok (record { hosts = (record { name = (codes "a"); variables = (field (codes "s1") (text ([])) (no_fields)) } ∷ record { name = (codes "b"); variables = (field (codes "i1") (rec (field (codes "g") (int (pos 1)) (no_fields))) (field (codes "i2") (text (codes "t")) (field (codes "s1") (text ([])) (no_fields)))) } ∷ record { name = (codes "c"); variables = (field (codes "i2") (list (item (int (pos 1)) (item (int (negsuc 0)) (no_items)))) (field (codes "s1") (text ([])) (no_fields))) } ∷ record { name = (codes "d"); variables = (field (codes "op") opaque (field (codes "s1") (text ([])) (no_fields))) } ∷ []); groups = (record { name = (codes "all"); hosts = ((codes "a") ∷ (codes "b") ∷ (codes "c") ∷ (codes "d") ∷ []) } ∷ record { name = (codes "ungrouped"); hosts = ((codes "a") ∷ (codes "b") ∷ (codes "c") ∷ (codes "d") ∷ []) } ∷ []) })
inventory_352 = refl

inventory_353 : inventory_from (rec (field (codes "_meta") (rec (field (codes "hostvars") (rec (field (codes "a") (rec (no_fields)) (field (codes "b") (rec (field (codes "i1") (text (codes "a")) (no_fields))) (field (codes "c") (rec (field (codes "i1") (list (no_items)) (field (codes "i2") (text (codes "b")) (no_fields)))) (no_fields))))) (no_fields))) (field (codes "all") (rec (field (codes "hosts") (list (item (text (codes "a")) (item (text (codes "b")) (item (text (codes "c")) (no_items))))) (field (codes "vars") (rec (no_fields)) (no_fields)))) (field (codes "g1") (rec (field (codes "hosts") (list (item (text (codes "c")) (no_items))) (field (codes "vars") (rec (field (codes "op") opaque (field (codes "s1") (int (negsuc 0)) (no_fields)))) (no_fields)))) (no_fields))))) ≡ Ok (record { hosts = (record { name = (codes "a"); variables = (no_fields) } ∷ record { name = (codes "b"); variables = (field (codes "i1") (text (codes "a")) (no_fields)) } ∷ record { name = (codes "c"); variables = (field (codes "i1") (list (no_items)) (field (codes "i2") (text (codes "b")) (field (codes "op") opaque (field (codes "s1") (int (negsuc 0)) (no_fields))))) } ∷ []); groups = (record { name = (codes "all"); hosts = ((codes "a") ∷ (codes "b") ∷ (codes "c") ∷ []) } ∷ record { name = (codes "g1"); hosts = ((codes "c") ∷ []) } ∷ record { name = (codes "ungrouped"); hosts = ((codes "a") ∷ (codes "b") ∷ []) } ∷ []) })
inventory_353 = refl

inventory_354 : inventory_from (rec (field (codes "_meta") (rec (field (codes "hostvars") (rec (field (codes "a") (rec (no_fields)) (field (codes "b") (rec (field (codes "i1") (text (codes "b")) (no_fields))) (no_fields)))) (no_fields))) (field (codes "all") (rec (field (codes "hosts") (list (item (text (codes "a")) (item (text (codes "b")) (no_items)))) (field (codes "vars") (rec (no_fields)) (no_fields)))) (field (codes "g2") (rec (field (codes "hosts") (list (item (text (codes "a")) (item (text (codes "b")) (no_items)))) (field (codes "vars") (rec (no_fields)) (no_fields)))) (no_fields))))) ≡ Ok (record { hosts = (record { name = (codes "a"); variables = (no_fields) } ∷ record { name = (codes "b"); variables = (field (codes "i1") (text (codes "b")) (no_fields)) } ∷ []); groups = (record { name = (codes "all"); hosts = ((codes "a") ∷ (codes "b") ∷ []) } ∷ record { name = (codes "g2"); hosts = ((codes "a") ∷ (codes "b") ∷ []) } ∷ record { name = (codes "ungrouped"); hosts = ([]) } ∷ []) })
inventory_354 = refl

inventory_355 : inventory_from (rec (field (codes "_meta") (rec (field (codes "hostvars") (rec (field (codes "a") (rec (no_fields)) (field (codes "b") (rec (field (codes "i1") (text (codes "t")) (field (codes "op") opaque (no_fields)))) (no_fields)))) (no_fields))) (field (codes "all") (rec (field (codes "hosts") (list (item (text (codes "a")) (item (text (codes "b")) (no_items)))) (field (codes "vars") (rec (field (codes "s1") (list (no_items)) (no_fields))) (no_fields)))) (field (codes "g1") (rec (field (codes "hosts") (list (no_items)) (field (codes "vars") (rec (field (codes "s1") (int (pos 0)) (no_fields))) (no_fields)))) (no_fields))))) ≡ Ok (record { hosts = (record { name = (codes "a"); variables = (field (codes "s1") (list (no_items)) (no_fields)) } ∷ record { name = (codes "b"); variables = (field (codes "i1") (text (codes "t")) (field (codes "op") opaque (field (codes "s1") (list (no_items)) (no_fields)))) } ∷ []); groups = (record { name = (codes "all"); hosts = ((codes "a") ∷ (codes "b") ∷ []) } ∷ record { name = (codes "g1"); hosts = ([]) } ∷ record { name = (codes "ungrouped"); hosts = ((codes "a") ∷ (codes "b") ∷ []) } ∷ []) })
inventory_355 = refl

inventory_356 : inventory_from (rec (field (codes "_meta") (rec (field (codes "hostvars") (rec (field (codes "a") (rec (no_fields)) (field (codes "b") (rec (field (codes "i1") (text (codes "t")) (no_fields))) (no_fields)))) (no_fields))) (field (codes "all") (rec (field (codes "hosts") (list (item (text (codes "a")) (item (text (codes "b")) (no_items)))) (field (codes "vars") (rec (field (codes "i1") (list (item (text (codes "b")) (item (text (codes "no")) (no_items)))) (field (codes "op") opaque (no_fields)))) (no_fields)))) (no_fields)))) ≡ Ok (record { hosts = (record { name = (codes "a"); variables = (field (codes "i1") (list (item (text (codes "b")) (item (text (codes "no")) (no_items)))) (field (codes "op") opaque (no_fields))) } ∷ record { name = (codes "b"); variables = (field (codes "i1") (text (codes "t")) (field (codes "op") opaque (no_fields))) } ∷ []); groups = (record { name = (codes "all"); hosts = ((codes "a") ∷ (codes "b") ∷ []) } ∷ record { name = (codes "ungrouped"); hosts = ((codes "a") ∷ (codes "b") ∷ []) } ∷ []) })
inventory_356 = refl

inventory_357 : inventory_from (rec (field (codes "_meta") (rec (field (codes "hostvars") (rec (field (codes "a") (rec (no_fields)) (field (codes "b") (rec (field (codes "i1") null (field (codes "i2") (list (item (boolean true) (item (text (codes "x")) (no_items)))) (field (codes "op") opaque (no_fields))))) (no_fields)))) (no_fields))) (field (codes "all") (rec (field (codes "hosts") (list (item (text (codes "a")) (item (text (codes "b")) (no_items)))) (field (codes "vars") (rec (field (codes "i1") (list (item (int (pos 3)) (item (text (codes "t")) (no_items)))) (field (codes "i2") (text (codes "a")) (field (codes "op") opaque (no_fields))))) (no_fields)))) (field (codes "g1") (rec (field (codes "hosts") (list (no_items)) (field (codes "vars") (rec (no_fields)) (no_fields)))) (field (codes "g2") (rec (field (codes "hosts") (list (item (text (codes "a")) (item (text (codes "b")) (no_items)))) (field (codes "vars") (rec (no_fields)) (no_fields)))) (no_fields)))))) ≡ Ok (record { hosts = (record { name = (codes "a"); variables = (field (codes "i1") (list (item (int (pos 3)) (item (text (codes "t")) (no_items)))) (field (codes "i2") (text (codes "a")) (field (codes "op") opaque (no_fields)))) } ∷ record { name = (codes "b"); variables = (field (codes "i1") null (field (codes "i2") (list (item (boolean true) (item (text (codes "x")) (no_items)))) (field (codes "op") opaque (no_fields)))) } ∷ []); groups = (record { name = (codes "all"); hosts = ((codes "a") ∷ (codes "b") ∷ []) } ∷ record { name = (codes "g1"); hosts = ([]) } ∷ record { name = (codes "g2"); hosts = ((codes "a") ∷ (codes "b") ∷ []) } ∷ record { name = (codes "ungrouped"); hosts = ([]) } ∷ []) })
inventory_357 = refl

inventory_358 : inventory_from (rec (field (codes "_meta") (rec (field (codes "hostvars") (rec (field (codes "a") (rec (no_fields)) (field (codes "b") (rec (field (codes "i2") (boolean false) (field (codes "s1") (list (item (int (pos 0)) (no_items))) (no_fields)))) (no_fields)))) (no_fields))) (field (codes "all") (rec (field (codes "hosts") (list (item (text (codes "a")) (item (text (codes "b")) (no_items)))) (field (codes "vars") (rec (field (codes "op") opaque (field (codes "s1") (list (item (text (codes "no")) (item (int (pos 2)) (no_items)))) (no_fields)))) (no_fields)))) (no_fields)))) ≡ Ok (record { hosts = (record { name = (codes "a"); variables = (field (codes "op") opaque (field (codes "s1") (list (item (text (codes "no")) (item (int (pos 2)) (no_items)))) (no_fields))) } ∷ record { name = (codes "b"); variables = (field (codes "i2") (boolean false) (field (codes "op") opaque (field (codes "s1") (list (item (int (pos 0)) (no_items))) (no_fields)))) } ∷ []); groups = (record { name = (codes "all"); hosts = ((codes "a") ∷ (codes "b") ∷ []) } ∷ record { name = (codes "ungrouped"); hosts = ((codes "a") ∷ (codes "b") ∷ []) } ∷ []) })
inventory_358 = refl

inventory_359 : inventory_from (rec (field (codes "_meta") (rec (field (codes "hostvars") (rec (field (codes "a") (rec (no_fields)) (field (codes "b") (rec (field (codes "i2") (int (negsuc 0)) (no_fields))) (field (codes "c") (rec (field (codes "i2") (text (codes "a")) (no_fields))) (field (codes "d") (rec (field (codes "s1") (boolean false) (no_fields))) (no_fields)))))) (no_fields))) (field (codes "all") (rec (field (codes "hosts") (list (item (text (codes "a")) (item (text (codes "b")) (item (text (codes "c")) (item (text (codes "d")) (no_items)))))) (field (codes "vars") (rec (field (codes "op") opaque (no_fields))) (no_fields)))) (field (codes "g1") (rec (field (codes "hosts") (list (item (text (codes "a")) (item (text (codes "b")) (no_items)))) (field (codes "vars") (rec (field (codes "i1") (boolean true) (no_fields))) (no_fields)))) (field (codes "g2") (rec (field (codes "hosts") (list (item (text (codes "a")) (item (text (codes "d")) (no_items)))) (field (codes "vars") (rec (no_fields)) (no_fields)))) (no_fields)))))) ≡ Ok (record { hosts = (record { name = (codes "a"); variables = (field (codes "i1") (boolean true) (field (codes "op") opaque (no_fields))) } ∷ record { name = (codes "b"); variables = (field (codes "i1") (boolean true) (field (codes "i2") (int (negsuc 0)) (field (codes "op") opaque (no_fields)))) } ∷ record { name = (codes "c"); variables = (field (codes "i2") (text (codes "a")) (field (codes "op") opaque (no_fields))) } ∷ record { name = (codes "d"); variables = (field (codes "op") opaque (field (codes "s1") (boolean false) (no_fields))) } ∷ []); groups = (record { name = (codes "all"); hosts = ((codes "a") ∷ (codes "b") ∷ (codes "c") ∷ (codes "d") ∷ []) } ∷ record { name = (codes "g1"); hosts = ((codes "a") ∷ (codes "b") ∷ []) } ∷ record { name = (codes "g2"); hosts = ((codes "a") ∷ (codes "d") ∷ []) } ∷ record { name = (codes "ungrouped"); hosts = ((codes "c") ∷ []) } ∷ []) })
inventory_359 = refl
