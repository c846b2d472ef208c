-- The inventories of cases, computed.
use Rattle.std.specs.Prelude.{◌≡◌, refl, pos, negsuc, [], ◌∷◌, true, false, Ok, codes}
use Rattle.pb_semantics.specs.Data.{null, boolean, int, text, list, rec, opaque, no_items, item, no_fields, field}
use Rattle.pb_language.specs.Inventories.{inventory_from}

inventory_240 : inventory_from (rec (field (codes "_meta") (rec (field (codes "hostvars") (rec (field (codes "a") (rec (field (codes "op") opaque (no_fields))) (field (codes "b") (rec (field (codes "i1") (text (codes "no")) (no_fields))) (field (codes "c") (rec (no_fields)) (no_fields))))) (no_fields))) (field (codes "all") (rec (field (codes "hosts") (list (item (text (codes "a")) (item (text (codes "b")) (item (text (codes "c")) (no_items))))) (field (codes "vars") (rec (field (codes "op") opaque (no_fields))) (no_fields)))) (field (codes "g1") (rec (field (codes "hosts") (list (item (text (codes "b")) (item (text (codes "c")) (no_items)))) (field (codes "vars") (rec (field (codes "i1") (list (no_items)) (field (codes "i2") (int (pos 0)) (field (codes "op") opaque (no_fields))))) (no_fields)))) (field (codes "g2") (rec (field (codes "hosts") (list (item (text (codes "c")) (no_items))) (field (codes "vars") (rec (field (codes "i1") (text (codes "x")) (no_fields))) (no_fields)))) (no_fields)))))) ≡ Ok (record { hosts = (record { name = (codes "a"); variables = (field (codes "op") opaque (no_fields)) } ∷ record { name = (codes "b"); variables = (field (codes "i1") (text (codes "no")) (field (codes "i2") (int (pos 0)) (field (codes "op") opaque (no_fields)))) } ∷ record { name = (codes "c"); variables = (field (codes "i1") (text (codes "x")) (field (codes "i2") (int (pos 0)) (field (codes "op") opaque (no_fields)))) } ∷ []); groups = (record { name = (codes "all"); hosts = ((codes "a") ∷ (codes "b") ∷ (codes "c") ∷ []) } ∷ record { name = (codes "g1"); hosts = ((codes "b") ∷ (codes "c") ∷ []) } ∷ record { name = (codes "g2"); hosts = ((codes "c") ∷ []) } ∷ record { name = (codes "ungrouped"); hosts = ((codes "a") ∷ []) } ∷ []) })
inventory_240 = refl

inventory_241 : inventory_from (rec (field (codes "_meta") (rec (field (codes "hostvars") (rec (field (codes "a") (rec (field (codes "op") opaque (no_fields))) (field (codes "b") (rec (field (codes "i2") (int (negsuc 0)) (no_fields))) (field (codes "c") (rec (field (codes "i1") (list (item (text (codes "a")) (item (int (pos 1)) (no_items)))) (no_fields))) (field (codes "d") (rec (field (codes "i1") (int (pos 0)) (no_fields))) (no_fields)))))) (no_fields))) (field (codes "all") (rec (field (codes "hosts") (list (item (text (codes "a")) (item (text (codes "b")) (item (text (codes "c")) (item (text (codes "d")) (no_items)))))) (field (codes "vars") (rec (no_fields)) (no_fields)))) (field (codes "g1") (rec (field (codes "children") (list (item (text (codes "g2")) (no_items))) (field (codes "hosts") (list (item (text (codes "b")) (item (text (codes "c")) (no_items)))) (field (codes "vars") (rec (field (codes "i1") (int (pos 2)) (field (codes "op") opaque (no_fields)))) (no_fields))))) (field (codes "g2") (rec (field (codes "hosts") (list (item (text (codes "a")) (item (text (codes "d")) (no_items)))) (field (codes "vars") (rec (no_fields)) (no_fields)))) (no_fields)))))) ≡ Ok (record { hosts = (record { name = (codes "a"); variables = (field (codes "i1") (int (pos 2)) (field (codes "op") opaque (no_fields))) } ∷ record { name = (codes "b"); variables = (field (codes "i1") (int (pos 2)) (field (codes "i2") (int (negsuc 0)) (field (codes "op") opaque (no_fields)))) } ∷ record { name = (codes "c"); variables = (field (codes "i1") (list (item (text (codes "a")) (item (int (pos 1)) (no_items)))) (field (codes "op") opaque (no_fields))) } ∷ record { name = (codes "d"); variables = (field (codes "i1") (int (pos 0)) (field (codes "op") opaque (no_fields))) } ∷ []); groups = (record { name = (codes "all"); hosts = ((codes "a") ∷ (codes "b") ∷ (codes "c") ∷ (codes "d") ∷ []) } ∷ record { name = (codes "g1"); hosts = ((codes "b") ∷ (codes "c") ∷ (codes "a") ∷ (codes "d") ∷ []) } ∷ record { name = (codes "g2"); hosts = ((codes "a") ∷ (codes "d") ∷ []) } ∷ record { name = (codes "ungrouped"); hosts = ([]) } ∷ []) })
inventory_241 = refl

inventory_242 : inventory_from (rec (field (codes "_meta") (rec (field (codes "hostvars") (rec (field (codes "a") (rec (field (codes "op") opaque (no_fields))) (field (codes "b") (rec (field (codes "i2") (int (pos 1)) (no_fields))) (field (codes "c") (rec (field (codes "op") opaque (no_fields))) (field (codes "d") (rec (field (codes "i1") (boolean true) (field (codes "s1") (list (item (text (codes "no")) (no_items))) (no_fields)))) (no_fields)))))) (no_fields))) (field (codes "all") (rec (field (codes "hosts") (list (item (text (codes "a")) (item (text (codes "b")) (item (text (codes "c")) (item (text (codes "d")) (no_items)))))) (field (codes "vars") (rec (field (codes "op") opaque (no_fields))) (no_fields)))) (field (codes "g1") (rec (field (codes "hosts") (list (no_items)) (field (codes "vars") (rec (field (codes "op") opaque (field (codes "s1") (text (codes "b")) (no_fields)))) (no_fields)))) (field (codes "g2") (rec (field (codes "hosts") (list (item (text (codes "a")) (item (text (codes "b")) (item (text (codes "d")) (no_items))))) (field (codes "vars") (rec (field (codes "i1") (boolean false) (no_fields))) (no_fields)))) (no_fields)))))) ≡ Ok (record { hosts = (record { name = (codes "a"); variables = (field (codes "i1") (boolean false) (field (codes "op") opaque (no_fields))) } ∷ record { name = (codes "b"); variables = (field (codes "i1") (boolean false) (field (codes "i2") (int (pos 1)) (field (codes "op") opaque (no_fields)))) } ∷ record { name = (codes "c"); variables = (field (codes "op") opaque (no_fields)) } ∷ record { name = (codes "d"); variables = (field (codes "i1") (boolean true) (field (codes "op") opaque (field (codes "s1") (list (item (text (codes "no")) (no_items))) (no_fields)))) } ∷ []); groups = (record { name = (codes "all"); hosts = ((codes "a") ∷ (codes "b") ∷ (codes "c") ∷ (codes "d") ∷ []) } ∷ record { name = (codes "g1"); hosts = ([]) } ∷ record { name = (codes "g2"); hosts = ((codes "a") ∷ (codes "b") ∷ (codes "d") ∷ []) } ∷ record { name = (codes "ungrouped"); hosts = ((codes "c") ∷ []) } ∷ []) })
inventory_242 = refl

inventory_243 : inventory_from (rec (field (codes "_meta") (rec (field (codes "hostvars") (rec (field (codes "a") (rec (field (codes "op") opaque (no_fields))) (field (codes "b") (rec (field (codes "i2") (list (item (boolean false) (no_items))) (field (codes "s1") (int (pos 0)) (no_fields)))) (no_fields)))) (no_fields))) (field (codes "all") (rec (field (codes "hosts") (list (item (text (codes "a")) (item (text (codes "b")) (no_items)))) (field (codes "vars") (rec (field (codes "i1") (list (no_items)) (no_fields))) (no_fields)))) (field (codes "g1") (rec (field (codes "hosts") (list (item (text (codes "a")) (no_items))) (field (codes "vars") (rec (no_fields)) (no_fields)))) (field (codes "g2") (rec (field (codes "hosts") (list (item (text (codes "a")) (item (text (codes "b")) (no_items)))) (field (codes "vars") (rec (field (codes "i1") (boolean false) (no_fields))) (no_fields)))) (no_fields)))))) ≡ Ok (record { hosts = (record { name = (codes "a"); variables = (field (codes "i1") (boolean false) (field (codes "op") opaque (no_fields))) } ∷ record { name = (codes "b"); variables = (field (codes "i1") (boolean false) (field (codes "i2") (list (item (boolean false) (no_items))) (field (codes "s1") (int (pos 0)) (no_fields)))) } ∷ []); groups = (record { name = (codes "all"); hosts = ((codes "a") ∷ (codes "b") ∷ []) } ∷ record { name = (codes "g1"); hosts = ((codes "a") ∷ []) } ∷ record { name = (codes "g2"); hosts = ((codes "a") ∷ (codes "b") ∷ []) } ∷ record { name = (codes "ungrouped"); hosts = ([]) } ∷ []) })
inventory_243 = refl

inventory_244 : inventory_from (rec (field (codes "_meta") (rec (field (codes "hostvars") (rec (field (codes "a") (rec (field (codes "op") opaque (no_fields))) (field (codes "b") (rec (field (codes "i2") (text (codes "a")) (field (codes "op") opaque (field (codes "s1") (list (item (text (codes "a")) (item (text (codes "b")) (no_items)))) (no_fields))))) (field (codes "c") (rec (field (codes "i2") (int (negsuc 0)) (field (codes "op") opaque (no_fields)))) (no_fields))))) (no_fields))) (field (codes "all") (rec (field (codes "hosts") (list (item (text (codes "a")) (item (text (codes "b")) (item (text (codes "c")) (no_items))))) (field (codes "vars") (rec (no_fields)) (no_fields)))) (field (codes "g1") (rec (field (codes "hosts") (list (item (text (codes "a")) (item (text (codes "b")) (item (text (codes "c")) (no_items))))) (field (codes "vars") (rec (field (codes "op") opaque (field (codes "s1") (list (item (text (codes "a")) (item (text (codes "x")) (no_items)))) (no_fields)))) (no_fields)))) (no_fields))))) ≡ Ok (record { hosts = (record { name = (codes "a"); variables = (field (codes "op") opaque (field (codes "s1") (list (item (text (codes "a")) (item (text (codes "x")) (no_items)))) (no_fields))) } ∷ record { name = (codes "b"); variables = (field (codes "i2") (text (codes "a")) (field (codes "op") opaque (field (codes "s1") (list (item (text (codes "a")) (item (text (codes "b")) (no_items)))) (no_fields)))) } ∷ record { name = (codes "c"); variables = (field (codes "i2") (int (negsuc 0)) (field (codes "op") opaque (field (codes "s1") (list (item (text (codes "a")) (item (text (codes "x")) (no_items)))) (no_fields)))) } ∷ []); groups = (record { name = (codes "all"); hosts = ((codes "a") ∷ (codes "b") ∷ (codes "c") ∷ []) } ∷ record { name = (codes "g1"); hosts = ((codes "a") ∷ (codes "b") ∷ (codes "c") ∷ []) } ∷ record { name = (codes "ungrouped"); hosts = ([]) } ∷ []) })
inventory_244 = refl

inventory_245 : inventory_from (rec (field (codes "_meta") (rec (field (codes "hostvars") (rec (field (codes "a") (rec (field (codes "op") opaque (no_fields))) (field (codes "b") (rec (field (codes "i2") (text (codes "a")) (no_fields))) (field (codes "c") (rec (no_fields)) (field (codes "d") (rec (field (codes "op") opaque (no_fields))) (no_fields)))))) (no_fields))) (field (codes "all") (rec (field (codes "hosts") (list (item (text (codes "a")) (item (text (codes "b")) (item (text (codes "c")) (item (text (codes "d")) (no_items)))))) (field (codes "vars") (rec (no_fields)) (no_fields)))) (field (codes "g1") (rec (field (codes "hosts") (list (item (text (codes "a")) (item (text (codes "c")) (no_items)))) (field (codes "vars") (rec (field (codes "i1") (list (item (boolean true) (no_items))) (no_fields))) (no_fields)))) (no_fields))))) ≡ Ok (record { hosts = (record { name = (codes "a"); variables = (field (codes "i1") (list (item (boolean true) (no_items))) (field (codes "op") opaque (no_fields))) } ∷ record { name = (codes "b"); variables = (field (codes "i2") (text (codes "a")) (no_fields)) } ∷ record { name = (codes "c"); variables = (field (codes "i1") (list (item (boolean true) (no_items))) (no_fields)) } ∷ record { name = (codes "d"); variables = (field (codes "op") opaque (no_fields)) } ∷ []); groups = (record { name = (codes "all"); hosts = ((codes "a") ∷ (codes "b") ∷ (codes "c") ∷ (codes "d") ∷ []) } ∷ record { name = (codes "g1"); hosts = ((codes "a") ∷ (codes "c") ∷ []) } ∷ record { name = (codes "ungrouped"); hosts = ((codes "b") ∷ (codes "d") ∷ []) } ∷ []) })
inventory_245 = refl

inventory_246 : inventory_from (rec (field (codes "_meta") (rec (field (codes "hostvars") (rec (field (codes "a") (rec (field (codes "op") opaque (no_fields))) (field (codes "b") (rec (field (codes "i2") (text (codes "t")) (no_fields))) (field (codes "c") (rec (no_fields)) (no_fields))))) (no_fields))) (field (codes "all") (rec (field (codes "hosts") (list (item (text (codes "a")) (item (text (codes "b")) (item (text (codes "c")) (no_items))))) (field (codes "vars") (rec (field (codes "i2") (text ([])) (field (codes "s1") (boolean true) (no_fields)))) (no_fields)))) (no_fields)))) ≡ Ok (record { hosts = (record { name = (codes "a"); variables = (field (codes "i2") (text ([])) (field (codes "op") opaque (field (codes "s1") (boolean true) (no_fields)))) } ∷ record { name = (codes "b"); variables = (field (codes "i2") (text (codes "t")) (field (codes "s1") (boolean true) (no_fields))) } ∷ record { name = (codes "c"); variables = (field (codes "i2") (text ([])) (field (codes "s1") (boolean true) (no_fields))) } ∷ []); groups = (record { name = (codes "all"); hosts = ((codes "a") ∷ (codes "b") ∷ (codes "c") ∷ []) } ∷ record { name = (codes "ungrouped"); hosts = ((codes "a") ∷ (codes "b") ∷ (codes "c") ∷ []) } ∷ []) })
inventory_246 = refl

inventory_247 : inventory_from (rec (field (codes "_meta") (rec (field (codes "hostvars") (rec (field (codes "a") (rec (field (codes "op") opaque (no_fields))) (field (codes "b") (rec (field (codes "op") opaque (field (codes "s1") (boolean false) (no_fields)))) (field (codes "c") (rec (field (codes "i1") (boolean true) (no_fields))) (field (codes "d") (rec (field (codes "op") opaque (no_fields))) (no_fields)))))) (no_fields))) (field (codes "all") (rec (field (codes "hosts") (list (item (text (codes "a")) (item (text (codes "b")) (item (text (codes "c")) (item (text (codes "d")) (no_items)))))) (field (codes "vars") (rec (field (codes "i1") (int (pos 1)) (field (codes "i2") (text (codes "t")) (no_fields)))) (no_fields)))) (field (codes "g2") (rec (field (codes "hosts") (list (item (text (codes "a")) (item (text (codes "b")) (item (text (codes "c")) (no_items))))) (field (codes "vars") (rec (field (codes "op") opaque (no_fields))) (no_fields)))) (no_fields))))) ≡ Ok (record { hosts = (record { name = (codes "a"); variables = (field (codes "i1") (int (pos 1)) (field (codes "i2") (text (codes "t")) (field (codes "op") opaque (no_fields)))) } ∷ record { name = (codes "b"); variables = (field (codes "i1") (int (pos 1)) (field (codes "i2") (text (codes "t")) (field (codes "op") opaque (field (codes "s1") (boolean false) (no_fields))))) } ∷ record { name = (codes "c"); variables = (field (codes "i1") (boolean true) (field (codes "i2") (text (codes "t")) (field (codes "op") opaque (no_fields)))) } ∷ record { name = (codes "d"); variables = (field (codes "i1") (int (pos 1)) (field (codes "i2") (text (codes "t")) (field (codes "op") opaque (no_fields)))) } ∷ []); groups = (record { name = (codes "all"); hosts = ((codes "a") ∷ (codes "b") ∷ (codes "c") ∷ (codes "d") ∷ []) } ∷ record { name = (codes "g2"); hosts = ((codes "a") ∷ (codes "b") ∷ (codes "c") ∷ []) } ∷ record { name = (codes "ungrouped"); hosts = ((codes "d") ∷ []) } ∷ []) })
inventory_247 = refl

inventory_248 : inventory_from (rec (field (codes "_meta") (rec (field (codes "hostvars") (rec (field (codes "a") (rec (field (codes "op") opaque (no_fields))) (field (codes "b") (rec (field (codes "op") opaque (no_fields))) (field (codes "c") (rec (field (codes "s1") (text (codes "x")) (no_fields))) (no_fields))))) (no_fields))) (field (codes "all") (rec (field (codes "hosts") (list (item (text (codes "a")) (item (text (codes "b")) (item (text (codes "c")) (no_items))))) (field (codes "vars") (rec (no_fields)) (no_fields)))) (field (codes "g2") (rec (field (codes "hosts") (list (item (text (codes "a")) (item (text (codes "b")) (item (text (codes "c")) (no_items))))) (field (codes "vars") (rec (field (codes "i1") (list (no_items)) (field (codes "s1") (text (codes "no")) (no_fields)))) (no_fields)))) (no_fields))))) ≡ Ok (record { hosts = (record { name = (codes "a"); variables = (field (codes "i1") (list (no_items)) (field (codes "op") opaque (field (codes "s1") (text (codes "no")) (no_fields)))) } ∷ record { name = (codes "b"); variables = (field (codes "i1") (list (no_items)) (field (codes "op") opaque (field (codes "s1") (text (codes "no")) (no_fields)))) } ∷ record { name = (codes "c"); variables = (field (codes "i1") (list (no_items)) (field (codes "s1") (text (codes "x")) (no_fields))) } ∷ []); groups = (record { name = (codes "all"); hosts = ((codes "a") ∷ (codes "b") ∷ (codes "c") ∷ []) } ∷ record { name = (codes "g2"); hosts = ((codes "a") ∷ (codes "b") ∷ (codes "c") ∷ []) } ∷ record { name = (codes "ungrouped"); hosts = ([]) } ∷ []) })
inventory_248 = refl

inventory_249 : inventory_from (rec (field (codes "_meta") (rec (field (codes "hostvars") (rec (field (codes "a") (rec (field (codes "op") opaque (no_fields))) (field (codes "b") (rec (field (codes "op") opaque (no_fields))) (field (codes "c") (rec (no_fields)) (no_fields))))) (no_fields))) (field (codes "all") (rec (field (codes "hosts") (list (item (text (codes "a")) (item (text (codes "b")) (item (text (codes "c")) (no_items))))) (field (codes "vars") (rec (field (codes "s1") (int (pos 2)) (no_fields))) (no_fields)))) (field (codes "g1") (rec (field (codes "hosts") (list (item (text (codes "b")) (item (text (codes "c")) (no_items)))) (field (codes "vars") (rec (no_fields)) (no_fields)))) (no_fields))))) ≡ Ok (record { hosts = (record { name = (codes "a"); variables = (field (codes "op") opaque (field (codes "s1") (int (pos 2)) (no_fields))) } ∷ record { name = (codes "b"); variables = (field (codes "op") opaque (field (codes "s1") (int (pos 2)) (no_fields))) } ∷ record { name = (codes "c"); variables = (field (codes "s1") (int (pos 2)) (no_fields)) } ∷ []); groups = (record { name = (codes "all"); hosts = ((codes "a") ∷ (codes "b") ∷ (codes "c") ∷ []) } ∷ record { name = (codes "g1"); hosts = ((codes "b") ∷ (codes "c") ∷ []) } ∷ record { name = (codes "ungrouped"); hosts = ((codes "a") ∷ []) } ∷ []) })
inventory_249 = refl

inventory_250 : inventory_from (rec (field (codes "_meta") (rec (field (codes "hostvars") (rec (field (codes "a") (rec (field (codes "op") opaque (no_fields))) (field (codes "b") (rec (field (codes "op") opaque (no_fields))) (no_fields)))) (no_fields))) (field (codes "all") (rec (field (codes "hosts") (list (item (text (codes "a")) (item (text (codes "b")) (no_items)))) (field (codes "vars") (rec (field (codes "i1") (text (codes "a")) (no_fields))) (no_fields)))) (field (codes "g1") (rec (field (codes "hosts") (list (item (text (codes "a")) (no_items))) (field (codes "vars") (rec (field (codes "i1") (text (codes "a")) (field (codes "s1") (rec (field (codes "f") (boolean true) (field (codes "g") (int (pos 1)) (no_fields)))) (no_fields)))) (no_fields)))) (no_fields))))) ≡ Ok (record { hosts = (record { name = (codes "a"); variables = (field (codes "i1") (text (codes "a")) (field (codes "op") opaque (field (codes "s1") (rec (field (codes "f") (boolean true) (field (codes "g") (int (pos 1)) (no_fields)))) (no_fields)))) } ∷ record { name = (codes "b"); variables = (field (codes "i1") (text (codes "a")) (field (codes "op") opaque (no_fields))) } ∷ []); groups = (record { name = (codes "all"); hosts = ((codes "a") ∷ (codes "b") ∷ []) } ∷ record { name = (codes "g1"); hosts = ((codes "a") ∷ []) } ∷ record { name = (codes "ungrouped"); hosts = ((codes "b") ∷ []) } ∷ []) })
inventory_250 = refl

inventory_251 : inventory_from (rec (field (codes "_meta") (rec (field (codes "hostvars") (rec (field (codes "a") (rec (field (codes "op") opaque (no_fields))) (field (codes "b") (rec (field (codes "op") opaque (no_fields))) (no_fields)))) (no_fields))) (field (codes "all") (rec (field (codes "hosts") (list (item (text (codes "a")) (item (text (codes "b")) (no_items)))) (field (codes "vars") (rec (field (codes "i1") null (field (codes "op") opaque (no_fields)))) (no_fields)))) (field (codes "g1") (rec (field (codes "hosts") (list (no_items)) (field (codes "vars") (rec (field (codes "i1") (text (codes "b")) (no_fields))) (no_fields)))) (field (codes "g2") (rec (field (codes "hosts") (list (no_items)) (field (codes "vars") (rec (no_fields)) (no_fields)))) (no_fields)))))) ≡ Ok (record { hosts = (record { name = (codes "a"); variables = (field (codes "i1") null (field (codes "op") opaque (no_fields))) } ∷ record { name = (codes "b"); variables = (field (codes "i1") null (field (codes "op") opaque (no_fields))) } ∷ []); groups = (record { name = (codes "all"); hosts = ((codes "a") ∷ (codes "b") ∷ []) } ∷ record { name = (codes "g1"); hosts = ([]) } ∷ record { name = (codes "g2"); hosts = ([]) } ∷ record { name = (codes "ungrouped"); hosts = ((codes "a") ∷ (codes "b") ∷ []) } ∷ []) })
inventory_251 = refl

inventory_252 : inventory_from (rec (field (codes "_meta") (rec (field (codes "hostvars") (rec (field (codes "a") (rec (field (codes "op") opaque (no_fields))) (field (codes "b") (rec (field (codes "op") opaque (no_fields))) (no_fields)))) (no_fields))) (field (codes "all") (rec (field (codes "hosts") (list (item (text (codes "a")) (item (text (codes "b")) (no_items)))) (field (codes "vars") (rec (field (codes "s1") (int (negsuc 0)) (no_fields))) (no_fields)))) (field (codes "g2") (rec (field (codes "hosts") (list (item (text (codes "b")) (no_items))) (field (codes "vars") (rec (field (codes "s1") (rec (field (codes "g") (list (no_items)) (no_fields))) (no_fields))) (no_fields)))) (no_fields))))) ≡ Ok (record { hosts = (record { name = (codes "a"); variables = (field (codes "op") opaque (field (codes "s1") (int (negsuc 0)) (no_fields))) } ∷ record { name = (codes "b"); variables = (field (codes "op") opaque (field (codes "s1") (rec (field (codes "g") (list (no_items)) (no_fields))) (no_fields))) } ∷ []); groups = (record { name = (codes "all"); hosts = ((codes "a") ∷ (codes "b") ∷ []) } ∷ record { name = (codes "g2"); hosts = ((codes "b") ∷ []) } ∷ record { name = (codes "ungrouped"); hosts = ((codes "a") ∷ []) } ∷ []) })
inventory_252 = refl

inventory_253 : inventory_from (rec (field (codes "_meta") (rec (field (codes "hostvars") (rec (field (codes "a") (rec (field (codes "op") opaque (no_fields))) (field (codes "b") (rec (field (codes "op") opaque (no_fields))) (no_fields)))) (no_fields))) (field (codes "all") (rec (field (codes "hosts") (list (item (text (codes "a")) (item (text (codes "b")) (no_items)))) (field (codes "vars") (rec (field (codes "s1") (text (codes "no")) (no_fields))) (no_fields)))) (field (codes "g1") (rec (field (codes "hosts") (list (item (text (codes "b")) (no_items))) (field (codes "vars") (rec (no_fields)) (no_fields)))) (no_fields))))) ≡ Ok (record { hosts = (record { name = (codes "a"); variables = (field (codes "op") opaque (field (codes "s1") (text (codes "no")) (no_fields))) } ∷ record { name = (codes "b"); variables = (field (codes "op") opaque (field (codes "s1") (text (codes "no")) (no_fields))) } ∷ []); groups = (record { name = (codes "all"); hosts = ((codes "a") ∷ (codes "b") ∷ []) } ∷ record { name = (codes "g1"); hosts = ((codes "b") ∷ []) } ∷ record { name = (codes "ungrouped"); hosts = ((codes "a") ∷ []) } ∷ []) })
inventory_253 = refl

inventory_254 : inventory_from (rec (field (codes "_meta") (rec (field (codes "hostvars") (rec (field (codes "a") (rec (field (codes "op") opaque (no_fields))) (field (codes "b") (rec (field (codes "op") opaque (no_fields))) (no_fields)))) (no_fields))) (field (codes "all") (rec (field (codes "hosts") (list (item (text (codes "a")) (item (text (codes "b")) (no_items)))) (field (codes "vars") (rec (field (codes "s1") (text (codes "x")) (no_fields))) (no_fields)))) (field (codes "g1") (rec (field (codes "hosts") (list (item (text (codes "b")) (no_items))) (field (codes "vars") (rec (field (codes "i1") (text (codes "no")) (field (codes "op") opaque (field (codes "s1") (rec (field (codes "f") (list (item (text ([])) (no_items))) (field (codes "g") (boolean true) (no_fields)))) (no_fields))))) (no_fields)))) (no_fields))))) ≡ Ok (record { hosts = (record { name = (codes "a"); variables = (field (codes "op") opaque (field (codes "s1") (text (codes "x")) (no_fields))) } ∷ record { name = (codes "b"); variables = (field (codes "i1") (text (codes "no")) (field (codes "op") opaque (field (codes "s1") (rec (field (codes "f") (list (item (text ([])) (no_items))) (field (codes "g") (boolean true) (no_fields)))) (no_fields)))) } ∷ []); groups = (record { name = (codes "all"); hosts = ((codes "a") ∷ (codes "b") ∷ []) } ∷ record { name = (codes "g1"); hosts = ((codes "b") ∷ []) } ∷ record { name = (codes "ungrouped"); hosts = ((codes "a") ∷ []) } ∷ []) })
inventory_254 = refl

inventory_255 : inventory_from (rec (field (codes "_meta") (rec (field (codes "hostvars") (rec (field (codes "a") (rec (field (codes "op") opaque (no_fields))) (field (codes "b") (rec (field (codes "s1") (int (pos 1)) (no_fields))) (field (codes "c") (rec (field (codes "i2") (boolean true) (no_fields))) (field (codes "d") (rec (field (codes "op") opaque (field (codes "s1") null (no_fields)))) (no_fields)))))) (no_fields))) (field (codes "all") (rec (field (codes "hosts") (list (item (text (codes "a")) (item (text (codes "b")) (item (text (codes "c")) (item (text (codes "d")) (no_items)))))) (field (codes "vars") (rec (field (codes "op") opaque (no_fields))) (no_fields)))) (field (codes "g1") (rec (field (codes "children") (list (item (text (codes "g2")) (no_items))) (field (codes "hosts") (list (item (text (codes "a")) (item (text (codes "d")) (no_items)))) (field (codes "vars") (rec (field (codes "i2") (text (codes "b")) (field (codes "op") opaque (no_fields)))) (no_fields))))) (field (codes "g2") (rec (field (codes "hosts") (list (item (text (codes "a")) (item (text (codes "d")) (no_items)))) (field (codes "vars") (rec (field (codes "i2") (int (pos 1)) (field (codes "op") opaque (field (codes "s1") (list (no_items)) (no_fields))))) (no_fields)))) (no_fields)))))) ≡ Ok (record { hosts = (record { name = (codes "a"); variables = (field (codes "i2") (int (pos 1)) (field (codes "op") opaque (field (codes "s1") (list (no_items)) (no_fields)))) } ∷ record { name = (codes "b"); variables = (field (codes "op") opaque (field (codes "s1") (int (pos 1)) (no_fields))) } ∷ record { name = (codes "c"); variables = (field (codes "i2") (boolean true) (field (codes "op") opaque (no_fields))) } ∷ record { name = (codes "d"); variables = (field (codes "i2") (int (pos 1)) (field (codes "op") opaque (field (codes "s1") null (no_fields)))) } ∷ []); groups = (record { name = (codes "all"); hosts = ((codes "a") ∷ (codes "b") ∷ (codes "c") ∷ (codes "d") ∷ []) } ∷ record { name = (codes "g1"); hosts = ((codes "a") ∷ (codes "d") ∷ []) } ∷ record { name = (codes "g2"); hosts = ((codes "a") ∷ (codes "d") ∷ []) } ∷ record { name = (codes "ungrouped"); hosts = ((codes "b") ∷ (codes "c") ∷ []) } ∷ []) })
inventory_255 = refl

inventory_256 : inventory_from (rec (field (codes "_meta") (rec (field (codes "hostvars") (rec (field (codes "a") (rec (field (codes "op") opaque (no_fields))) (field (codes "b") (rec (no_fields)) (field (codes "c") (rec (field (codes "i1") (text ([])) (no_fields))) (field (codes "d") (rec (field (codes "i1") (rec (field (codes "f") (text (codes "b")) (no_fields))) (field (codes "op") opaque (no_fields)))) (no_fields)))))) (no_fields))) (field (codes "all") (rec (field (codes "hosts") (list (item (text (codes "a")) (item (text (codes "b")) (item (text (codes "c")) (item (text (codes "d")) (no_items)))))) (field (codes "vars") (rec (no_fields)) (no_fields)))) (field (codes "g1") (rec (field (codes "children") (list (item (text (codes "g2")) (no_items))) (field (codes "hosts") (list (item (text (codes "a")) (item (text (codes "c")) (item (text (codes "d")) (no_items))))) (field (codes "vars") (rec (field (codes "i1") (text (codes "b")) (field (codes "s1") (text (codes "no")) (no_fields)))) (no_fields))))) (field (codes "g2") (rec (field (codes "hosts") (list (item (text (codes "a")) (item (text (codes "b")) (item (text (codes "c")) (item (text (codes "d")) (no_items)))))) (field (codes "vars") (rec (field (codes "i2") (text (codes "no")) (no_fields))) (no_fields)))) (no_fields)))))) ≡ Ok (record { hosts = (record { name = (codes "a"); variables = (field (codes "i1") (text (codes "b")) (field (codes "i2") (text (codes "no")) (field (codes "op") opaque (field (codes "s1") (text (codes "no")) (no_fields))))) } ∷ record { name = (codes "b"); variables = (field (codes "i1") (text (codes "b")) (field (codes "i2") (text (codes "no")) (field (codes "s1") (text (codes "no")) (no_fields)))) } ∷ record { name = (codes "c"); variables = (field (codes "i1") (text ([])) (field (codes "i2") (text (codes "no")) (field (codes "s1") (text (codes "no")) (no_fields)))) } ∷ record { name = (codes "d"); variables = (field (codes "i1") (rec (field (codes "f") (text (codes "b")) (no_fields))) (field (codes "i2") (text (codes "no")) (field (codes "op") opaque (field (codes "s1") (text (codes "no")) (no_fields))))) } ∷ []); groups = (record { name = (codes "all"); hosts = ((codes "a") ∷ (codes "b") ∷ (codes "c") ∷ (codes "d") ∷ []) } ∷ record { name = (codes "g1"); hosts = ((codes "a") ∷ (codes "c") ∷ (codes "d") ∷ (codes "b") ∷ []) } ∷ record { name = (codes "g2"); hosts = ((codes "a") ∷ (codes "b") ∷ (codes "c") ∷ (codes "d") ∷ []) } ∷ record { name = (codes "ungrouped"); hosts = ([]) } ∷ []) })
inventory_256 = refl

inventory_257 : inventory_from (rec (field (codes "_meta") (rec (field (codes "hostvars") (rec (field (codes "a") (rec (field (codes "op") opaque (no_fields))) (field (codes "b") (rec (no_fields)) (field (codes "c") (rec (field (codes "i2") (list (item (int (pos 3)) (no_items))) (field (codes "op") opaque (field (codes "s1") (int (pos 0)) (no_fields))))) (field (codes "d") (rec (no_fields)) (no_fields)))))) (no_fields))) (field (codes "all") (rec (field (codes "hosts") (list (item (text (codes "a")) (item (text (codes "b")) (item (text (codes "c")) (item (text (codes "d")) (no_items)))))) (field (codes "vars") (rec (field (codes "op") opaque (no_fields))) (no_fields)))) (no_fields)))) ≡ Ok (record { hosts = (record { name = (codes "a"); variables = (field (codes "op") opaque (no_fields)) } ∷ record { name = (codes "b"); variables = (field (codes "op") opaque (no_fields)) } ∷ record { name = (codes "c"); variables = (field (codes "i2") (list (item (int (pos 3)) (no_items))) (field (codes "op") opaque (field (codes "s1") (int (pos 0)) (no_fields)))) } ∷ record { name = (codes "d"); variables = (field (codes "op") opaque (no_fields)) } ∷ []); groups = (record { name = (codes "all"); hosts = ((codes "a") ∷ (codes "b") ∷ (codes "c") ∷ (codes "d") ∷ []) } ∷ record { name = (codes "ungrouped"); hosts = ((codes "a") ∷ (codes "b") ∷ (codes "c") ∷ (codes "d") ∷ []) } ∷ []) })
inventory_257 = refl

inventory_258 : inventory_from (rec (field (codes "_meta") (rec (field (codes "hostvars") (rec (field (codes "a") (rec (field (codes "op") opaque (no_fields))) (field (codes "b") (rec (no_fields)) (field (codes "c") (rec (field (codes "i2") (list (item (text (codes "a")) (item (int (negsuc 0)) (no_items)))) (field (codes "op") opaque (no_fields)))) (no_fields))))) (no_fields))) (field (codes "all") (rec (field (codes "hosts") (list (item (text (codes "a")) (item (text (codes "b")) (item (text (codes "c")) (no_items))))) (field (codes "vars") (rec (field (codes "i2") (text (codes "x")) (field (codes "s1") (rec (field (codes "f") (int (pos 1)) (field (codes "g") (boolean true) (no_fields)))) (no_fields)))) (no_fields)))) (field (codes "g2") (rec (field (codes "hosts") (list (item (text (codes "b")) (item (text (codes "c")) (no_items)))) (field (codes "vars") (rec (field (codes "op") opaque (no_fields))) (no_fields)))) (no_fields))))) ≡ Ok (record { hosts = (record { name = (codes "a"); variables = (field (codes "i2") (text (codes "x")) (field (codes "op") opaque (field (codes "s1") (rec (field (codes "f") (int (pos 1)) (field (codes "g") (boolean true) (no_fields)))) (no_fields)))) } ∷ record { name = (codes "b"); variables = (field (codes "i2") (text (codes "x")) (field (codes "op") opaque (field (codes "s1") (rec (field (codes "f") (int (pos 1)) (field (codes "g") (boolean true) (no_fields)))) (no_fields)))) } ∷ record { name = (codes "c"); variables = (field (codes "i2") (list (item (text (codes "a")) (item (int (negsuc 0)) (no_items)))) (field (codes "op") opaque (field (codes "s1") (rec (field (codes "f") (int (pos 1)) (field (codes "g") (boolean true) (no_fields)))) (no_fields)))) } ∷ []); groups = (record { name = (codes "all"); hosts = ((codes "a") ∷ (codes "b") ∷ (codes "c") ∷ []) } ∷ record { name = (codes "g2"); hosts = ((codes "b") ∷ (codes "c") ∷ []) } ∷ record { name = (codes "ungrouped"); hosts = ((codes "a") ∷ []) } ∷ []) })
inventory_258 = refl

inventory_259 : inventory_from (rec (field (codes "_meta") (rec (field (codes "hostvars") (rec (field (codes "a") (rec (field (codes "op") opaque (no_fields))) (field (codes "b") (rec (no_fields)) (field (codes "c") (rec (field (codes "op") opaque (field (codes "s1") (list (item (text (codes "x")) (no_items))) (no_fields)))) (no_fields))))) (no_fields))) (field (codes "all") (rec (field (codes "hosts") (list (item (text (codes "a")) (item (text (codes "b")) (item (text (codes "c")) (no_items))))) (field (codes "vars") (rec (field (codes "s1") (list (item (boolean false) (item (boolean true) (no_items)))) (no_fields))) (no_fields)))) (no_fields)))) ≡ Ok (record { hosts = (record { name = (codes "a"); variables = (field (codes "op") opaque (field (codes "s1") (list (item (boolean false) (item (boolean true) (no_items)))) (no_fields))) } ∷ record { name = (codes "b"); variables = (field (codes "s1") (list (item (boolean false) (item (boolean true) (no_items)))) (no_fields)) } ∷ record { name = (codes "c"); variables = (field (codes "op") opaque (field (codes "s1") (list (item (text (codes "x")) (no_items))) (no_fields))) } ∷ []); groups = (record { name = (codes "all"); hosts = ((codes "a") ∷ (codes "b") ∷ (codes "c") ∷ []) } ∷ record { name = (codes "ungrouped"); hosts = ((codes "a") ∷ (codes "b") ∷ (codes "c") ∷ []) } ∷ []) })
inventory_259 = refl

inventory_260 : inventory_from (rec (field (codes "_meta") (rec (field (codes "hostvars") (rec (field (codes "a") (rec (field (codes "op") opaque (no_fields))) (field (codes "b") (rec (no_fields)) (field (codes "c") (rec (field (codes "s1") (int (pos 3)) (no_fields))) (field (codes "d") (rec (field (codes "s1") (list (item (boolean false) (no_items))) (no_fields))) (no_fields)))))) (no_fields))) (field (codes "all") (rec (field (codes "hosts") (list (item (text (codes "a")) (item (text (codes "b")) (item (text (codes "c")) (item (text (codes "d")) (no_items)))))) (field (codes "vars") (rec (field (codes "i2") (list (item (text ([])) (item null (no_items)))) (field (codes "s1") (int (pos 0)) (no_fields)))) (no_fields)))) (field (codes "g2") (rec (field (codes "hosts") (list (item (text (codes "a")) (item (text (codes "b")) (item (text (codes "d")) (no_items))))) (field (codes "vars") (rec (no_fields)) (no_fields)))) (no_fields))))) ≡ Ok (record { hosts = (record { name = (codes "a"); variables = (field (codes "i2") (list (item (text ([])) (item null (no_items)))) (field (codes "op") opaque (field (codes "s1") (int (pos 0)) (no_fields)))) } ∷ record { name = (codes "b"); variables = (field (codes "i2") (list (item (text ([])) (item null (no_items)))) (field (codes "s1") (int (pos 0)) (no_fields))) } ∷ record { name = (codes "c"); variables = (field (codes "i2") (list (item (text ([])) (item null (no_items)))) (field (codes "s1") (int (pos 3)) (no_fields))) } ∷ record { name = (codes "d"); variables = (field (codes "i2") (list (item (text ([])) (item null (no_items)))) (field (codes "s1") (list (item (boolean false) (no_items))) (no_fields))) } ∷ []); groups = (record { name = (codes "all"); hosts = ((codes "a") ∷ (codes "b") ∷ (codes "c") ∷ (codes "d") ∷ []) } ∷ record { name = (codes "g2"); hosts = ((codes "a") ∷ (codes "b") ∷ (codes "d") ∷ []) } ∷ record { name = (codes "ungrouped"); hosts = ((codes "c") ∷ []) } ∷ []) })
inventory_260 = refl

inventory_261 : inventory_from (rec (field (codes "_meta") (rec (field (codes "hostvars") (rec (field (codes "a") (rec (field (codes "op") opaque (no_fields))) (field (codes "b") (rec (no_fields)) (field (codes "c") (rec (field (codes "s1") (text ([])) (no_fields))) (no_fields))))) (no_fields))) (field (codes "all") (rec (field (codes "hosts") (list (item (text (codes "a")) (item (text (codes "b")) (item (text (codes "c")) (no_items))))) (field (codes "vars") (rec (field (codes "i1") (list (item (int (negsuc 0)) (item (int (pos 1)) (no_items)))) (field (codes "i2") (list (item (int (pos 1)) (no_items))) (field (codes "s1") (rec (field (codes "f") (int (pos 3)) (no_fields))) (no_fields))))) (no_fields)))) (field (codes "g1") (rec (field (codes "children") (list (item (text (codes "g2")) (no_items))) (field (codes "hosts") (list (item (text (codes "b")) (no_items))) (field (codes "vars") (rec (field (codes "s1") (int (pos 2)) (no_fields))) (no_fields))))) (field (codes "g2") (rec (field (codes "hosts") (list (item (text (codes "a")) (item (text (codes "c")) (no_items)))) (field (codes "vars") (rec (field (codes "i1") (text (codes "t")) (field (codes "i2") (list (no_items)) (no_fields)))) (no_fields)))) (no_fields)))))) ≡ Ok (record { hosts = (record { name = (codes "a"); variables = (field (codes "i1") (text (codes "t")) (field (codes "i2") (list (no_items)) (field (codes "op") opaque (field (codes "s1") (int (pos 2)) (no_fields))))) } ∷ record { name = (codes "b"); variables = (field (codes "i1") (list (item (int (negsuc 0)) (item (int (pos 1)) (no_items)))) (field (codes "i2") (list (item (int (pos 1)) (no_items))) (field (codes "s1") (int (pos 2)) (no_fields)))) } ∷ record { name = (codes "c"); variables = (field (codes "i1") (text (codes "t")) (field (codes "i2") (list (no_items)) (field (codes "s1") (text ([])) (no_fields)))) } ∷ []); groups = (record { name = (codes "all"); hosts = ((codes "a") ∷ (codes "b") ∷ (codes "c") ∷ []) } ∷ record { name = (codes "g1"); hosts = ((codes "b") ∷ (codes "a") ∷ (codes "c") ∷ []) } ∷ record { name = (codes "g2"); hosts = ((codes "a") ∷ (codes "c") ∷ []) } ∷ record { name = (codes "ungrouped"); hosts = ([]) } ∷ []) })
inventory_261 = refl

inventory_262 : inventory_from (rec (field (codes "_meta") (rec (field (codes "hostvars") (rec (field (codes "a") (rec (field (codes "op") opaque (no_fields))) (field (codes "b") (rec (no_fields)) (no_fields)))) (no_fields))) (field (codes "all") (rec (field (codes "hosts") (list (item (text (codes "a")) (item (text (codes "b")) (no_items)))) (field (codes "vars") (rec (field (codes "i1") (boolean true) (field (codes "i2") (list (item (text ([])) (item (boolean false) (no_items)))) (field (codes "op") opaque (no_fields))))) (no_fields)))) (field (codes "g1") (rec (field (codes "hosts") (list (item (text (codes "b")) (no_items))) (field (codes "vars") (rec (field (codes "s1") (list (no_items)) (no_fields))) (no_fields)))) (no_fields))))) ≡ Ok (record { hosts = (record { name = (codes "a"); variables = (field (codes "i1") (boolean true) (field (codes "i2") (list (item (text ([])) (item (boolean false) (no_items)))) (field (codes "op") opaque (no_fields)))) } ∷ record { name = (codes "b"); variables = (field (codes "i1") (boolean true) (field (codes "i2") (list (item (text ([])) (item (boolean false) (no_items)))) (field (codes "op") opaque (field (codes "s1") (list (no_items)) (no_fields))))) } ∷ []); groups = (record { name = (codes "all"); hosts = ((codes "a") ∷ (codes "b") ∷ []) } ∷ record { name = (codes "g1"); hosts = ((codes "b") ∷ []) } ∷ record { name = (codes "ungrouped"); hosts = ((codes "a") ∷ []) } ∷ []) })
inventory_262 = refl

inventory_263 : inventory_from (rec (field (codes "_meta") (rec (field (codes "hostvars") (rec (field (codes "a") (rec (field (codes "op") opaque (no_fields))) (field (codes "b") (rec (no_fields)) (no_fields)))) (no_fields))) (field (codes "all") (rec (field (codes "hosts") (list (item (text (codes "a")) (item (text (codes "b")) (no_items)))) (field (codes "vars") (rec (field (codes "i2") (text ([])) (no_fields))) (no_fields)))) (field (codes "g2") (rec (field (codes "hosts") (list (item (text (codes "b")) (no_items))) (field (codes "vars") (rec (no_fields)) (no_fields)))) (no_fields))))) ≡ Ok (record { hosts = (record { name = (codes "a"); variables = (field (codes "i2") (text ([])) (field (codes "op") opaque (no_fields))) } ∷ record { name = (codes "b"); variables = (field (codes "i2") (text ([])) (no_fields)) } ∷ []); groups = (record { name = (codes "all"); hosts = ((codes "a") ∷ (codes "b") ∷ []) } ∷ record { name = (codes "g2"); hosts = ((codes "b") ∷ []) } ∷ record { name = (codes "ungrouped"); hosts = ((codes "a") ∷ []) } ∷ []) })
inventory_263 = refl

inventory_264 : inventory_from (rec (field (codes "_meta") (rec (field (codes "hostvars") (rec (field (codes "a") (rec (field (codes "op") opaque (no_fields))) (field (codes "b") (rec (no_fields)) (no_fields)))) (no_fields))) (field (codes "all") (rec (field (codes "hosts") (list (item (text (codes "a")) (item (text (codes "b")) (no_items)))) (field (codes "vars") (rec (field (codes "s1") (rec (no_fields)) (no_fields))) (no_fields)))) (field (codes "g1") (rec (field (codes "hosts") (list (item (text (codes "a")) (item (text (codes "b")) (no_items)))) (field (codes "vars") (rec (no_fields)) (no_fields)))) (field (codes "g2") (rec (field (codes "hosts") (list (item (text (codes "a")) (item (text (codes "b")) (no_items)))) (field (codes "vars") (rec (no_fields)) (no_fields)))) (no_fields)))))) ≡ Ok (record { hosts = (record { name = (codes "a"); variables = (field (codes "op") opaque (field (codes "s1") (rec (no_fields)) (no_fields))) } ∷ record { name = (codes "b"); variables = (field (codes "s1") (rec (no_fields)) (no_fields)) } ∷ []); groups = (record { name = (codes "all"); hosts = ((codes "a") ∷ (codes "b") ∷ []) } ∷ record { name = (codes "g1"); hosts = ((codes "a") ∷ (codes "b") ∷ []) } ∷ record { name = (codes "g2"); hosts = ((codes "a") ∷ (codes "b") ∷ []) } ∷ record { name = (codes "ungrouped"); hosts = ([]) } ∷ []) })
inventory_264 = refl

inventory_265 : inventory_from (rec (field (codes "_meta") (rec (field (codes "hostvars") (rec (field (codes "a") (rec (field (codes "op") opaque (no_fields))) (no_fields))) (no_fields))) (field (codes "all") (rec (field (codes "hosts") (list (item (text (codes "a")) (no_items))) (field (codes "vars") (rec (field (codes "i1") (boolean false) (field (codes "s1") (list (item (text (codes "no")) (item (int (pos 1)) (no_items)))) (no_fields)))) (no_fields)))) (field (codes "g1") (rec (field (codes "hosts") (list (no_items)) (field (codes "vars") (rec (no_fields)) (no_fields)))) (field (codes "g2") (rec (field (codes "hosts") (list (item (text (codes "a")) (no_items))) (field (codes "vars") (rec (no_fields)) (no_fields)))) (no_fields)))))) ≡ Ok (record { hosts = (record { name = (codes "a"); variables = (field (codes "i1") (boolean false) (field (codes "op") opaque (field (codes "s1") (list (item (text (codes "no")) (item (int (pos 1)) (no_items)))) (no_fields)))) } ∷ []); groups = (record { name = (codes "all"); hosts = ((codes "a") ∷ []) } ∷ record { name = (codes "g1"); hosts = ([]) } ∷ record { name = (codes "g2"); hosts = ((codes "a") ∷ []) } ∷ record { name = (codes "ungrouped"); hosts = ([]) } ∷ []) })
inventory_265 = refl

inventory_266 : inventory_from (rec (field (codes "_meta") (rec (field (codes "hostvars") (rec (field (codes "a") (rec (field (codes "op") opaque (no_fields))) (no_fields))) (no_fields))) (field (codes "all") (rec (field (codes "hosts") (list (item (text (codes "a")) (no_items))) (field (codes "vars") (rec (field (codes "i1") (int (negsuc 0)) (field (codes "s1") (text (codes "x")) (no_fields)))) (no_fields)))) (field (codes "g2") (rec (field (codes "hosts") (list (no_items)) (field (codes "vars") (rec (field (codes "i1") (int (pos 1)) (no_fields))) (no_fields)))) (no_fields))))) ≡ Ok (record { hosts = (record { name = (codes "a"); variables = (field (codes "i1") (int (negsuc 0)) (field (codes "op") opaque (field (codes "s1") (text (codes "x")) (no_fields)))) } ∷ []); groups = (record { name = (codes "all"); hosts = ((codes "a") ∷ []) } ∷ record { name = (codes "g2"); hosts = ([]) } ∷ record { name = (codes "ungrouped"); hosts = ((codes "a") ∷ []) } ∷ []) })
inventory_266 = refl

inventory_267 : inventory_from (rec (field (codes "_meta") (rec (field (codes "hostvars") (rec (field (codes "a") (rec (field (codes "op") opaque (no_fields))) (no_fields))) (no_fields))) (field (codes "all") (rec (field (codes "hosts") (list (item (text (codes "a")) (no_items))) (field (codes "vars") (rec (field (codes "i1") (text (codes "a")) (field (codes "i2") (list (item (text (codes "t")) (no_items))) (field (codes "s1") (list (no_items)) (no_fields))))) (no_fields)))) (field (codes "g2") (rec (field (codes "hosts") (list (item (text (codes "a")) (no_items))) (field (codes "vars") (rec (field (codes "s1") (int (pos 1)) (no_fields))) (no_fields)))) (no_fields))))) ≡ Ok (record { hosts = (record { name = (codes "a"); variables = (field (codes "i1") (text (codes "a")) (field (codes "i2") (list (item (text (codes "t")) (no_items))) (field (codes "op") opaque (field (codes "s1") (int (pos 1)) (no_fields))))) } ∷ []); groups = (record { name = (codes "all"); hosts = ((codes "a") ∷ []) } ∷ record { name = (codes "g2"); hosts = ((codes "a") ∷ []) } ∷ record { name = (codes "ungrouped"); hosts = ([]) } ∷ []) })
inventory_267 = refl

inventory_268 : inventory_from (rec (field (codes "_meta") (rec (field (codes "hostvars") (rec (field (codes "a") (rec (field (codes "op") opaque (no_fields))) (no_fields))) (no_fields))) (field (codes "all") (rec (field (codes "hosts") (list (item (text (codes "a")) (no_items))) (field (codes "vars") (rec (field (codes "i1") (text (codes "t")) (field (codes "op") opaque (field (codes "s1") (rec (field (codes "g") (rec (field (codes "f") (text (codes "b")) (field (codes "g") (boolean true) (no_fields)))) (no_fields))) (no_fields))))) (no_fields)))) (field (codes "g2") (rec (field (codes "hosts") (list (item (text (codes "a")) (no_items))) (field (codes "vars") (rec (field (codes "s1") (list (item (text (codes "no")) (item (int (pos 1)) (no_items)))) (no_fields))) (no_fields)))) (no_fields))))) ≡ Ok (record { hosts = (record { name = (codes "a"); variables = (field (codes "i1") (text (codes "t")) (field (codes "op") opaque (field (codes "s1") (list (item (text (codes "no")) (item (int (pos 1)) (no_items)))) (no_fields)))) } ∷ []); groups = (record { name = (codes "all"); hosts = ((codes "a") ∷ []) } ∷ record { name = (codes "g2"); hosts = ((codes "a") ∷ []) } ∷ record { name = (codes "ungrouped"); hosts = ([]) } ∷ []) })
inventory_268 = refl

inventory_269 : inventory_from (rec (field (codes "_meta") (rec (field (codes "hostvars") (rec (field (codes "a") (rec (field (codes "op") opaque (no_fields))) (no_fields))) (no_fields))) (field (codes "all") (rec (field (codes "hosts") (list (item (text (codes "a")) (no_items))) (field (codes "vars") (rec (field (codes "i2") (list (item (boolean true) (item (int (pos 3)) (no_items)))) (field (codes "s1") (text (codes "a")) (no_fields)))) (no_fields)))) (field (codes "g1") (rec (field (codes "hosts") (list (no_items)) (field (codes "vars") (rec (no_fields)) (no_fields)))) (no_fields))))) ≡ Ok (record { hosts = (record { name = (codes "a"); variables = (field (codes "i2") (list (item (boolean true) (item (int (pos 3)) (no_items)))) (field (codes "op") opaque (field (codes "s1") (text (codes "a")) (no_fields)))) } ∷ []); groups = (record { name = (codes "all"); hosts = ((codes "a") ∷ []) } ∷ record { name = (codes "g1"); hosts = ([]) } ∷ record { name = (codes "ungrouped"); hosts = ((codes "a") ∷ []) } ∷ []) })
inventory_269 = refl

inventory_270 : inventory_from (rec (field (codes "_meta") (rec (field (codes "hostvars") (rec (field (codes "a") (rec (field (codes "op") opaque (no_fields))) (no_fields))) (no_fields))) (field (codes "all") (rec (field (codes "hosts") (list (item (text (codes "a")) (no_items))) (field (codes "vars") (rec (field (codes "i2") (text (codes "x")) (field (codes "op") opaque (field (codes "s1") (boolean false) (no_fields))))) (no_fields)))) (field (codes "g1") (rec (field (codes "hosts") (list (item (text (codes "a")) (no_items))) (field (codes "vars") (rec (no_fields)) (no_fields)))) (field (codes "g2") (rec (field (codes "hosts") (list (item (text (codes "a")) (no_items))) (field (codes "vars") (rec (field (codes "i1") (text (codes "b")) (field (codes "op") opaque (no_fields)))) (no_fields)))) (no_fields)))))) ≡ Ok (record { hosts = (record { name = (codes "a"); variables = (field (codes "i1") (text (codes "b")) (field (codes "i2") (text (codes "x")) (field (codes "op") opaque (field (codes "s1") (boolean false) (no_fields))))) } ∷ []); groups = (record { name = (codes "all"); hosts = ((codes "a") ∷ []) } ∷ record { name = (codes "g1"); hosts = ((codes "a") ∷ []) } ∷ record { name = (codes "g2"); hosts = ((codes "a") ∷ []) } ∷ record { name = (codes "ungrouped"); hosts = ([]) } ∷ []) })
inventory_270 = refl

inventory_271 : inventory_from (rec (field (codes "_meta") (rec (field (codes "hostvars") (rec (field (codes "a") (rec (field (codes "op") opaque (no_fields))) (no_fields))) (no_fields))) (field (codes "all") (rec (field (codes "hosts") (list (item (text (codes "a")) (no_items))) (field (codes "vars") (rec (field (codes "i2") null (field (codes "op") opaque (no_fields)))) (no_fields)))) (field (codes "g1") (rec (field (codes "hosts") (list (item (text (codes "a")) (no_items))) (field (codes "vars") (rec (field (codes "i1") (text (codes "no")) (field (codes "i2") (int (pos 1)) (no_fields)))) (no_fields)))) (no_fields))))) ≡ Ok (record { hosts = (record { name = (codes "a"); variables = (field (codes "i1") (text (codes "no")) (field (codes "i2") (int (pos 1)) (field (codes "op") opaque (no_fields)))) } ∷ []); groups = (record { name = (codes "all"); hosts = ((codes "a") ∷ []) } ∷ record { name = (codes "g1"); hosts = ((codes "a") ∷ []) } ∷ record { name = (codes "ungrouped"); hosts = ([]) } ∷ []) })
inventory_271 = refl

inventory_272 : inventory_from (rec (field (codes "_meta") (rec (field (codes "hostvars") (rec (field (codes "a") (rec (field (codes "op") opaque (no_fields))) (no_fields))) (no_fields))) (field (codes "all") (rec (field (codes "hosts") (list (item (text (codes "a")) (no_items))) (field (codes "vars") (rec (field (codes "op") opaque (no_fields))) (no_fields)))) (field (codes "g2") (rec (field (codes "hosts") (list (item (text (codes "a")) (no_items))) (field (codes "vars") (rec (field (codes "i2") (int (pos 2)) (no_fields))) (no_fields)))) (no_fields))))) ≡ Ok (record { hosts = (record { name = (codes "a"); variables = (field (codes "i2") (int (pos 2)) (field (codes "op") opaque (no_fields))) } ∷ []); groups = (record { name = (codes "all"); hosts = ((codes "a") ∷ []) } ∷ record { name = (codes "g2"); hosts = ((codes "a") ∷ []) } ∷ record { name = (codes "ungrouped"); hosts = ([]) } ∷ []) })
inventory_272 = refl

inventory_273 : inventory_from (rec (field (codes "_meta") (rec (field (codes "hostvars") (rec (field (codes "a") (rec (field (codes "op") opaque (no_fields))) (no_fields))) (no_fields))) (field (codes "all") (rec (field (codes "hosts") (list (item (text (codes "a")) (no_items))) (field (codes "vars") (rec (field (codes "s1") (rec (field (codes "f") (int (pos 1)) (no_fields))) (no_fields))) (no_fields)))) (field (codes "g1") (rec (field (codes "hosts") (list (no_items)) (field (codes "vars") (rec (field (codes "i2") (list (no_items)) (field (codes "op") opaque (field (codes "s1") (rec (field (codes "f") (list (item (text ([])) (item (boolean true) (no_items)))) (field (codes "g") (list (no_items)) (no_fields)))) (no_fields))))) (no_fields)))) (field (codes "g2") (rec (field (codes "hosts") (list (no_items)) (field (codes "vars") (rec (no_fields)) (no_fields)))) (no_fields)))))) ≡ Ok (record { hosts = (record { name = (codes "a"); variables = (field (codes "op") opaque (field (codes "s1") (rec (field (codes "f") (int (pos 1)) (no_fields))) (no_fields))) } ∷ []); groups = (record { name = (codes "all"); hosts = ((codes "a") ∷ []) } ∷ record { name = (codes "g1"); hosts = ([]) } ∷ record { name = (codes "g2"); hosts = ([]) } ∷ record { name = (codes "ungrouped"); hosts = ((codes "a") ∷ []) } ∷ []) })
inventory_273 = refl

inventory_274 : inventory_from (rec (field (codes "_meta") (rec (field (codes "hostvars") (rec (field (codes "a") (rec (field (codes "op") opaque (no_fields))) (no_fields))) (no_fields))) (field (codes "all") (rec (field (codes "hosts") (list (item (text (codes "a")) (no_items))) (field (codes "vars") (rec (no_fields)) (no_fields)))) (field (codes "g1") (rec (field (codes "children") (list (item (text (codes "g2")) (no_items))) (field (codes "hosts") (list (item (text (codes "a")) (no_items))) (field (codes "vars") (rec (no_fields)) (no_fields))))) (field (codes "g2") (rec (field (codes "hosts") (list (no_items)) (field (codes "vars") (rec (field (codes "i2") (int (pos 3)) (no_fields))) (no_fields)))) (no_fields)))))) ≡ Ok (record { hosts = (record { name = (codes "a"); variables = (field (codes "op") opaque (no_fields)) } ∷ []); groups = (record { name = (codes "all"); hosts = ((codes "a") ∷ []) } ∷ record { name = (codes "g1"); hosts = ((codes "a") ∷ []) } ∷ record { name = (codes "g2"); hosts = ([]) } ∷ record { name = (codes "ungrouped"); hosts = ([]) } ∷ []) })
inventory_274 = refl

inventory_275 : inventory_from (rec (field (codes "_meta") (rec (field (codes "hostvars") (rec (field (codes "a") (rec (field (codes "op") opaque (no_fields))) (no_fields))) (no_fields))) (field (codes "all") (rec (field (codes "hosts") (list (item (text (codes "a")) (no_items))) (field (codes "vars") (rec (no_fields)) (no_fields)))) (field (codes "g1") (rec (field (codes "children") (list (item (text (codes "g2")) (no_items))) (field (codes "hosts") (list (no_items)) (field (codes "vars") (rec (field (codes "i1") (boolean true) (no_fields))) (no_fields))))) (field (codes "g2") (rec (field (codes "hosts") (list (item (text (codes "a")) (no_items))) (field (codes "vars") (rec (field (codes "i1") (text ([])) (field (codes "s1") (list (item (text (codes "x")) (item null (no_items)))) (no_fields)))) (no_fields)))) (no_fields)))))) ≡ Ok (record { hosts = (record { name = (codes "a"); variables = (field (codes "i1") (text ([])) (field (codes "op") opaque (field (codes "s1") (list (item (text (codes "x")) (item null (no_items)))) (no_fields)))) } ∷ []); groups = (record { name = (codes "all"); hosts = ((codes "a") ∷ []) } ∷ record { name = (codes "g1"); hosts = ((codes "a") ∷ []) } ∷ record { name = (codes "g2"); hosts = ((codes "a") ∷ []) } ∷ record { name = (codes "ungrouped"); hosts = ([]) } ∷ []) })
inventory_275 = refl

inventory_276 : inventory_from (rec (field (codes "_meta") (rec (field (codes "hostvars") (rec (field (codes "a") (rec (field (codes "op") opaque (no_fields))) (no_fields))) (no_fields))) (field (codes "all") (rec (field (codes "hosts") (list (item (text (codes "a")) (no_items))) (field (codes "vars") (rec (no_fields)) (no_fields)))) (field (codes "g1") (rec (field (codes "hosts") (list (item (text (codes "a")) (no_items))) (field (codes "vars") (rec (field (codes "s1") (text (codes "b")) (no_fields))) (no_fields)))) (field (codes "g2") (rec (field (codes "hosts") (list (item (text (codes "a")) (no_items))) (field (codes "vars") (rec (field (codes "i2") (boolean true) (no_fields))) (no_fields)))) (no_fields)))))) ≡ Ok (record { hosts = (record { name = (codes "a"); variables = (field (codes "i2") (boolean true) (field (codes "op") opaque (field (codes "s1") (text (codes "b")) (no_fields)))) } ∷ []); groups = (record { name = (codes "all"); hosts = ((codes "a") ∷ []) } ∷ record { name = (codes "g1"); hosts = ((codes "a") ∷ []) } ∷ record { name = (codes "g2"); hosts = ((codes "a") ∷ []) } ∷ record { name = (codes "ungrouped"); hosts = ([]) } ∷ []) })
inventory_276 = refl

inventory_277 : inventory_from (rec (field (codes "_meta") (rec (field (codes "hostvars") (rec (field (codes "a") (rec (field (codes "op") opaque (no_fields))) (no_fields))) (no_fields))) (field (codes "all") (rec (field (codes "hosts") (list (item (text (codes "a")) (no_items))) (field (codes "vars") (rec (no_fields)) (no_fields)))) (field (codes "g1") (rec (field (codes "hosts") (list (no_items)) (field (codes "vars") (rec (field (codes "i1") null (no_fields))) (no_fields)))) (field (codes "g2") (rec (field (codes "hosts") (list (no_items)) (field (codes "vars") (rec (field (codes "i1") (text (codes "no")) (no_fields))) (no_fields)))) (no_fields)))))) ≡ Ok (record { hosts = (record { name = (codes "a"); variables = (field (codes "op") opaque (no_fields)) } ∷ []); groups = (record { name = (codes "all"); hosts = ((codes "a") ∷ []) } ∷ record { name = (codes "g1"); hosts = ([]) } ∷ record { name = (codes "g2"); hosts = ([]) } ∷ record { name = (codes "ungrouped"); hosts = ((codes "a") ∷ []) } ∷ []) })
inventory_277 = refl

inventory_278 : inventory_from (rec (field (codes "_meta") (rec (field (codes "hostvars") (rec (field (codes "a") (rec (field (codes "op") opaque (no_fields))) (no_fields))) (no_fields))) (field (codes "all") (rec (field (codes "hosts") (list (item (text (codes "a")) (no_items))) (field (codes "vars") (rec (no_fields)) (no_fields)))) (field (codes "g2") (rec (field (codes "hosts") (list (no_items)) (field (codes "vars") (rec (no_fields)) (no_fields)))) (no_fields))))) ≡ Ok (record { hosts = (record { name = (codes "a"); variables = (field (codes "op") opaque (no_fields)) } ∷ []); groups = (record { name = (codes "all"); hosts = ((codes "a") ∷ []) } ∷ record { name = (codes "g2"); hosts = ([]) } ∷ record { name = (codes "ungrouped"); hosts = ((codes "a") ∷ []) } ∷ []) })
inventory_278 = refl

inventory_279 : inventory_from (rec (field (codes "_meta") (rec (field (codes "hostvars") (rec (field (codes "a") (rec (field (codes "s1") (boolean false) (no_fields))) (field (codes "b") (rec (no_fields)) (no_fields)))) (no_fields))) (field (codes "all") (rec (field (codes "hosts") (list (item (text (codes "a")) (item (text (codes "b")) (no_items)))) (field (codes "vars") (rec (field (codes "i1") (boolean true) (no_fields))) (no_fields)))) (field (codes "g1") (rec (field (codes "hosts") (list (no_items)) (field (codes "vars") (rec (field (codes "i1") (int (pos 2)) (field (codes "s1") null (no_fields)))) (no_fields)))) (field (codes "g2") (rec (field (codes "hosts") (list (item (text (codes "a")) (item (text (codes "b")) (no_items)))) (field (codes "vars") (rec (field (codes "s1") (list (no_items)) (no_fields))) (no_fields)))) (no_fields)))))) ≡ Ok (record { hosts = (record { name = (codes "a"); variables = (field (codes "i1") (boolean true) (field (codes "s1") (boolean false) (no_fields))) } ∷ record { name = (codes "b"); variables = (field (codes "i1") (boolean true) (field (codes "s1") (list (no_items)) (no_fields))) } ∷ []); groups = (record { name = (codes "all"); hosts = ((codes "a") ∷ (codes "b") ∷ []) } ∷ record { name = (codes "g1"); hosts = ([]) } ∷ record { name = (codes "g2"); hosts = ((codes "a") ∷ (codes "b") ∷ []) } ∷ record { name = (codes "ungrouped"); hosts = ([]) } ∷ []) })
inventory_279 = refl

inventory_280 : inventory_from (rec (field (codes "_meta") (rec (field (codes "hostvars") (rec (field (codes "a") (rec (field (codes "s1") (boolean true) (no_fields))) (field (codes "b") (rec (field (codes "i1") (list (no_items)) (no_fields))) (field (codes "c") (rec (no_fields)) (no_fields))))) (no_fields))) (field (codes "all") (rec (field (codes "hosts") (list (item (text (codes "a")) (item (text (codes "b")) (item (text (codes "c")) (no_items))))) (field (codes "vars") (rec (field (codes "s1") (boolean true) (no_fields))) (no_fields)))) (field (codes "g1") (rec (field (codes "hosts") (list (item (text (codes "b")) (item (text (codes "c")) (no_items)))) (field (codes "vars") (rec (field (codes "i1") (text (codes "t")) (field (codes "op") opaque (no_fields)))) (no_fields)))) (field (codes "g2") (rec (field (codes "hosts") (list (item (text (codes "b")) (item (text (codes "c")) (no_items)))) (field (codes "vars") (rec (field (codes "i1") (list (no_items)) (field (codes "op") opaque (field (codes "s1") (text (codes "a")) (no_fields))))) (no_fields)))) (no_fields)))))) ≡ Ok (record { hosts = (record { name = (codes "a"); variables = (field (codes "s1") (boolean true) (no_fields)) } ∷ record { name = (codes "b"); variables = (field (codes "i1") (list (no_items)) (field (codes "op") opaque (field (codes "s1") (text (codes "a")) (no_fields)))) } ∷ record { name = (codes "c"); variables = (field (codes "i1") (list (no_items)) (field (codes "op") opaque (field (codes "s1") (text (codes "a")) (no_fields)))) } ∷ []); groups = (record { name = (codes "all"); hosts = ((codes "a") ∷ (codes "b") ∷ (codes "c") ∷ []) } ∷ record { name = (codes "g1"); hosts = ((codes "b") ∷ (codes "c") ∷ []) } ∷ record { name = (codes "g2"); hosts = ((codes "b") ∷ (codes "c") ∷ []) } ∷ record { name = (codes "ungrouped"); hosts = ((codes "a") ∷ []) } ∷ []) })
inventory_280 = refl

inventory_281 : inventory_from (rec (field (codes "_meta") (rec (field (codes "hostvars") (rec (field (codes "a") (rec (field (codes "s1") (boolean true) (no_fields))) (no_fields))) (no_fields))) (field (codes "all") (rec (field (codes "hosts") (list (item (text (codes "a")) (no_items))) (field (codes "vars") (rec (field (codes "op") opaque (no_fields))) (no_fields)))) (field (codes "g1") (rec (field (codes "hosts") (list (no_items)) (field (codes "vars") (rec (field (codes "i2") (text (codes "b")) (no_fields))) (no_fields)))) (field (codes "g2") (rec (field (codes "hosts") (list (no_items)) (field (codes "vars") (rec (no_fields)) (no_fields)))) (no_fields)))))) ≡ Ok (record { hosts = (record { name = (codes "a"); variables = (field (codes "op") opaque (field (codes "s1") (boolean true) (no_fields))) } ∷ []); groups = (record { name = (codes "all"); hosts = ((codes "a") ∷ []) } ∷ record { name = (codes "g1"); hosts = ([]) } ∷ record { name = (codes "g2"); hosts = ([]) } ∷ record { name = (codes "ungrouped"); hosts = ((codes "a") ∷ []) } ∷ []) })
inventory_281 = refl

inventory_282 : inventory_from (rec (field (codes "_meta") (rec (field (codes "hostvars") (rec (field (codes "a") (rec (field (codes "s1") (boolean true) (no_fields))) (no_fields))) (no_fields))) (field (codes "all") (rec (field (codes "hosts") (list (item (text (codes "a")) (no_items))) (field (codes "vars") (rec (no_fields)) (no_fields)))) (field (codes "g2") (rec (field (codes "hosts") (list (no_items)) (field (codes "vars") (rec (field (codes "s1") (int (pos 1)) (no_fields))) (no_fields)))) (no_fields))))) ≡ Ok (record { hosts = (record { name = (codes "a"); variables = (field (codes "s1") (boolean true) (no_fields)) } ∷ []); groups = (record { name = (codes "all"); hosts = ((codes "a") ∷ []) } ∷ record { name = (codes "g2"); hosts = ([]) } ∷ record { name = (codes "ungrouped"); hosts = ((codes "a") ∷ []) } ∷ []) })
inventory_282 = refl

inventory_283 : inventory_from (rec (field (codes "_meta") (rec (field (codes "hostvars") (rec (field (codes "a") (rec (field (codes "s1") (int (negsuc 0)) (no_fields))) (field (codes "b") (rec (field (codes "i1") (int (pos 1)) (no_fields))) (field (codes "c") (rec (no_fields)) (field (codes "d") (rec (no_fields)) (no_fields)))))) (no_fields))) (field (codes "all") (rec (field (codes "hosts") (list (item (text (codes "a")) (item (text (codes "b")) (item (text (codes "c")) (item (text (codes "d")) (no_items)))))) (field (codes "vars") (rec (no_fields)) (no_fields)))) (field (codes "g1") (rec (field (codes "hosts") (list (item (text (codes "c")) (item (text (codes "d")) (no_items)))) (field (codes "vars") (rec (no_fields)) (no_fields)))) (no_fields))))) ≡ Ok (record { hosts = (record { name = (codes "a"); variables = (field (codes "s1") (int (negsuc 0)) (no_fields)) } ∷ record { name = (codes "b"); variables = (field (codes "i1") (int (pos 1)) (no_fields)) } ∷ record { name = (codes "c"); variables = (no_fields) } ∷ record { name = (codes "d"); variables = (no_fields) } ∷ []); groups = (record { name = (codes "all"); hosts = ((codes "a") ∷ (codes "b") ∷ (codes "c") ∷ (codes "d") ∷ []) } ∷ record { name = (codes "g1"); hosts = ((codes "c") ∷ (codes "d") ∷ []) } ∷ record { name = (codes "ungrouped"); hosts = ((codes "a") ∷ (codes "b") ∷ []) } ∷ []) })
inventory_283 = refl

inventory_284 : inventory_from (rec (field (codes "_meta") (rec (field (codes "hostvars") (rec (field (codes "a") (rec (field (codes "s1") (int (negsuc 0)) (no_fields))) (field (codes "b") (rec (no_fields)) (field (codes "c") (rec (field (codes "i2") (list (item null (no_items))) (no_fields))) (field (codes "d") (rec (no_fields)) (no_fields)))))) (no_fields))) (field (codes "all") (rec (field (codes "hosts") (list (item (text (codes "a")) (item (text (codes "b")) (item (text (codes "c")) (item (text (codes "d")) (no_items)))))) (field (codes "vars") (rec (field (codes "i1") (int (pos 1)) (field (codes "i2") null (no_fields)))) (no_fields)))) (no_fields)))) ≡ Ok (record { hosts = (record { name = (codes "a"); variables = (field (codes "i1") (int (pos 1)) (field (codes "i2") null (field (codes "s1") (int (negsuc 0)) (no_fields)))) } ∷ record { name = (codes "b"); variables = (field (codes "i1") (int (pos 1)) (field (codes "i2") null (no_fields))) } ∷ record { name = (codes "c"); variables = (field (codes "i1") (int (pos 1)) (field (codes "i2") (list (item null (no_items))) (no_fields))) } ∷ record { name = (codes "d"); variables = (field (codes "i1") (int (pos 1)) (field (codes "i2") null (no_fields))) } ∷ []); groups = (record { name = (codes "all"); hosts = ((codes "a") ∷ (codes "b") ∷ (codes "c") ∷ (codes "d") ∷ []) } ∷ record { name = (codes "ungrouped"); hosts = ((codes "a") ∷ (codes "b") ∷ (codes "c") ∷ (codes "d") ∷ []) } ∷ []) })
inventory_284 = refl

inventory_285 : inventory_from (rec (field (codes "_meta") (rec (field (codes "hostvars") (rec (field (codes "a") (rec (field (codes "s1") (int (negsuc 0)) (no_fields))) (no_fields))) (no_fields))) (field (codes "all") (rec (field (codes "hosts") (list (item (text (codes "a")) (no_items))) (field (codes "vars") (rec (field (codes "i2") (text (codes "a")) (no_fields))) (no_fields)))) (field (codes "g1") (rec (field (codes "hosts") (list (item (text (codes "a")) (no_items))) (field (codes "vars") (rec (field (codes "i2") (boolean true) (no_fields))) (no_fields)))) (field (codes "g2") (rec (field (codes "hosts") (list (item (text (codes "a")) (no_items))) (field (codes "vars") (rec (field (codes "op") opaque (field (codes "s1") (boolean true) (no_fields)))) (no_fields)))) (no_fields)))))) ≡ Ok (record { hosts = (record { name = (codes "a"); variables = (field (codes "i2") (boolean true) (field (codes "op") opaque (field (codes "s1") (int (negsuc 0)) (no_fields)))) } ∷ []); groups = (record { name = (codes "all"); hosts = ((codes "a") ∷ []) } ∷ record { name = (codes "g1"); hosts = ((codes "a") ∷ []) } ∷ record { name = (codes "g2"); hosts = ((codes "a") ∷ []) } ∷ record { name = (codes "ungrouped"); hosts = ([]) } ∷ []) })
inventory_285 = refl

inventory_286 : inventory_from (rec (field (codes "_meta") (rec (field (codes "hostvars") (rec (field (codes "a") (rec (field (codes "s1") (int (negsuc 0)) (no_fields))) (no_fields))) (no_fields))) (field (codes "all") (rec (field (codes "hosts") (list (item (text (codes "a")) (no_items))) (field (codes "vars") (rec (field (codes "s1") (boolean true) (no_fields))) (no_fields)))) (field (codes "g1") (rec (field (codes "hosts") (list (item (text (codes "a")) (no_items))) (field (codes "vars") (rec (field (codes "i2") (rec (field (codes "f") (int (pos 1)) (no_fields))) (no_fields))) (no_fields)))) (field (codes "g2") (rec (field (codes "hosts") (list (item (text (codes "a")) (no_items))) (field (codes "vars") (rec (field (codes "op") opaque (no_fields))) (no_fields)))) (no_fields)))))) ≡ Ok (record { hosts = (record { name = (codes "a"); variables = (field (codes "i2") (rec (field (codes "f") (int (pos 1)) (no_fields))) (field (codes "op") opaque (field (codes "s1") (int (negsuc 0)) (no_fields)))) } ∷ []); groups = (record { name = (codes "all"); hosts = ((codes "a") ∷ []) } ∷ record { name = (codes "g1"); hosts = ((codes "a") ∷ []) } ∷ record { name = (codes "g2"); hosts = ((codes "a") ∷ []) } ∷ record { name = (codes "ungrouped"); hosts = ([]) } ∷ []) })
inventory_286 = refl

inventory_287 : inventory_from (rec (field (codes "_meta") (rec (field (codes "hostvars") (rec (field (codes "a") (rec (field (codes "s1") (int (pos 0)) (no_fields))) (field (codes "b") (rec (field (codes "i1") (rec (field (codes "f") (rec (field (codes "f") null (field (codes "g") (boolean true) (no_fields)))) (field (codes "g") (rec (field (codes "f") (int (pos 1)) (field (codes "g") (int (negsuc 0)) (no_fields)))) (no_fields)))) (field (codes "i2") (list (no_items)) (no_fields)))) (no_fields)))) (no_fields))) (field (codes "all") (rec (field (codes "hosts") (list (item (text (codes "a")) (item (text (codes "b")) (no_items)))) (field (codes "vars") (rec (field (codes "s1") (boolean false) (no_fields))) (no_fields)))) (field (codes "g1") (rec (field (codes "hosts") (list (item (text (codes "b")) (no_items))) (field (codes "vars") (rec (field (codes "i1") null (field (codes "op") opaque (field (codes "s1") (list (item (text (codes "no")) (no_items))) (no_fields))))) (no_fields)))) (field (codes "g2") (rec (field (codes "hosts") (list (item (text (codes "a")) (item (text (codes "b")) (no_items)))) (field (codes "vars") (rec (field (codes "s1") (int (pos 3)) (no_fields))) (no_fields)))) (no_fields)))))) ≡ Ok (record { hosts = (record { name = (codes "a"); variables = (field (codes "s1") (int (pos 0)) (no_fields)) } ∷ record { name = (codes "b"); variables = (field (codes "i1") (rec (field (codes "f") (rec (field (codes "f") null (field (codes "g") (boolean true) (no_fields)))) (field (codes "g") (rec (field (codes "f") (int (pos 1)) (field (codes "g") (int (negsuc 0)) (no_fields)))) (no_fields)))) (field (codes "i2") (list (no_items)) (field (codes "op") opaque (field (codes "s1") (int (pos 3)) (no_fields))))) } ∷ []); groups = (record { name = (codes "all"); hosts = ((codes "a") ∷ (codes "b") ∷ []) } ∷ record { name = (codes "g1"); hosts = ((codes "b") ∷ []) } ∷ record { name = (codes "g2"); hosts = ((codes "a") ∷ (codes "b") ∷ []) } ∷ record { name = (codes "ungrouped"); hosts = ([]) } ∷ []) })
inventory_287 = refl

inventory_288 : inventory_from (rec (field (codes "_meta") (rec (field (codes "hostvars") (rec (field (codes "a") (rec (field (codes "s1") (int (pos 0)) (no_fields))) (field (codes "b") (rec (field (codes "i2") (list (item (boolean false) (item (int (pos 3)) (no_items)))) (no_fields))) (field (codes "c") (rec (field (codes "i1") (text ([])) (no_fields))) (no_fields))))) (no_fields))) (field (codes "all") (rec (field (codes "hosts") (list (item (text (codes "a")) (item (text (codes "b")) (item (text (codes "c")) (no_items))))) (field (codes "vars") (rec (field (codes "i1") (text (codes "t")) (field (codes "op") opaque (field (codes "s1") (list (item (text (codes "b")) (item (boolean true) (no_items)))) (no_fields))))) (no_fields)))) (field (codes "g1") (rec (field (codes "children") (list (item (text (codes "g2")) (no_items))) (field (codes "hosts") (list (item (text (codes "a")) (no_items))) (field (codes "vars") (rec (field (codes "i1") (list (item (text (codes "b")) (item (boolean false) (no_items)))) (field (codes "i2") (text (codes "a")) (field (codes "op") opaque (no_fields))))) (no_fields))))) (field (codes "g2") (rec (field (codes "hosts") (list (no_items)) (field (codes "vars") (rec (field (codes "s1") (text ([])) (no_fields))) (no_fields)))) (no_fields)))))) ≡ Ok (record { hosts = (record { name = (codes "a"); variables = (field (codes "i1") (list (item (text (codes "b")) (item (boolean false) (no_items)))) (field (codes "i2") (text (codes "a")) (field (codes "op") opaque (field (codes "s1") (int (pos 0)) (no_fields))))) } ∷ record { name = (codes "b"); variables = (field (codes "i1") (text (codes "t")) (field (codes "i2") (list (item (boolean false) (item (int (pos 3)) (no_items)))) (field (codes "op") opaque (field (codes "s1") (list (item (text (codes "b")) (item (boolean true) (no_items)))) (no_fields))))) } ∷ record { name = (codes "c"); variables = (field (codes "i1") (text ([])) (field (codes "op") opaque (field (codes "s1") (list (item (text (codes "b")) (item (boolean true) (no_items)))) (no_fields)))) } ∷ []); groups = (record { name = (codes "all"); hosts = ((codes "a") ∷ (codes "b") ∷ (codes "c") ∷ []) } ∷ record { name = (codes "g1"); hosts = ((codes "a") ∷ []) } ∷ record { name = (codes "g2"); hosts = ([]) } ∷ record { name = (codes "ungrouped"); hosts = ((codes "b") ∷ (codes "c") ∷ []) } ∷ []) })
inventory_288 = refl

inventory_289 : inventory_from (rec (field (codes "_meta") (rec (field (codes "hostvars") (rec (field (codes "a") (rec (field (codes "s1") (int (pos 0)) (no_fields))) (field (codes "b") (rec (field (codes "op") opaque (no_fields))) (field (codes "c") (rec (no_fields)) (field (codes "d") (rec (field (codes "op") opaque (no_fields))) (no_fields)))))) (no_fields))) (field (codes "all") (rec (field (codes "hosts") (list (item (text (codes "a")) (item (text (codes "b")) (item (text (codes "c")) (item (text (codes "d")) (no_items)))))) (field (codes "vars") (rec (field (codes "i1") (list (item (text (codes "b")) (item (text (codes "t")) (no_items)))) (field (codes "i2") (text (codes "b")) (no_fields)))) (no_fields)))) (field (codes "g1") (rec (field (codes "children") (list (item (text (codes "g2")) (no_items))) (field (codes "hosts") (list (item (text (codes "a")) (item (text (codes "c")) (item (text (codes "d")) (no_items))))) (field (codes "vars") (rec (field (codes "op") opaque (no_fields))) (no_fields))))) (field (codes "g2") (rec (field (codes "hosts") (list (item (text (codes "b")) (item (text (codes "c")) (item (text (codes "d")) (no_items))))) (field (codes "vars") (rec (no_fields)) (no_fields)))) (no_fields)))))) ≡ Ok (record { hosts = (record { name = (codes "a"); variables = (field (codes "i1") (list (item (text (codes "b")) (item (text (codes "t")) (no_items)))) (field (codes "i2") (text (codes "b")) (field (codes "op") opaque (field (codes "s1") (int (pos 0)) (no_fields))))) } ∷ record { name = (codes "b"); variables = (field (codes "i1") (list (item (text (codes "b")) (item (text (codes "t")) (no_items)))) (field (codes "i2") (text (codes "b")) (field (codes "op") opaque (no_fields)))) } ∷ record { name = (codes "c"); variables = (field (codes "i1") (list (item (text (codes "b")) (item (text (codes "t")) (no_items)))) (field (codes "i2") (text (codes "b")) (field (codes "op") opaque (no_fields)))) } ∷ record { name = (codes "d"); variables = (field (codes "i1") (list (item (text (codes "b")) (item (text (codes "t")) (no_items)))) (field (codes "i2") (text (codes "b")) (field (codes "op") opaque (no_fields)))) } ∷ []); groups = (record { name = (codes "all"); hosts = ((codes "a") ∷ (codes "b") ∷ (codes "c") ∷ (codes "d") ∷ []) } ∷ record { name = (codes "g1"); hosts = ((codes "a") ∷ (codes "c") ∷ (codes "d") ∷ (codes "b") ∷ []) } ∷ record { name = (codes "g2"); hosts = ((codes "b") ∷ (codes "c") ∷ (codes "d") ∷ []) } ∷ record { name = (codes "ungrouped"); hosts = ([]) } ∷ []) })
inventory_289 = refl

inventory_290 : inventory_from (rec (field (codes "_meta") (rec (field (codes "hostvars") (rec (field (codes "a") (rec (field (codes "s1") (int (pos 0)) (no_fields))) (field (codes "b") (rec (no_fields)) (field (codes "c") (rec (field (codes "op") opaque (no_fields))) (no_fields))))) (no_fields))) (field (codes "all") (rec (field (codes "hosts") (list (item (text (codes "a")) (item (text (codes "b")) (item (text (codes "c")) (no_items))))) (field (codes "vars") (rec (field (codes "i2") (text ([])) (field (codes "s1") (list (no_items)) (no_fields)))) (no_fields)))) (field (codes "g1") (rec (field (codes "hosts") (list (item (text (codes "b")) (item (text (codes "c")) (no_items)))) (field (codes "vars") (rec (field (codes "i1") null (field (codes "s1") (boolean false) (no_fields)))) (no_fields)))) (no_fields))))) ≡ Ok (record { hosts = (record { name = (codes "a"); variables = (field (codes "i2") (text ([])) (field (codes "s1") (int (pos 0)) (no_fields))) } ∷ record { name = (codes "b"); variables = (field (codes "i1") null (field (codes "i2") (text ([])) (field (codes "s1") (boolean false) (no_fields)))) } ∷ record { name = (codes "c"); variables = (field (codes "i1") null (field (codes "i2") (text ([])) (field (codes "op") opaque (field (codes "s1") (boolean false) (no_fields))))) } ∷ []); groups = (record { name = (codes "all"); hosts = ((codes "a") ∷ (codes "b") ∷ (codes "c") ∷ []) } ∷ record { name = (codes "g1"); hosts = ((codes "b") ∷ (codes "c") ∷ []) } ∷ record { name = (codes "ungrouped"); hosts = ((codes "a") ∷ []) } ∷ []) })
inventory_290 = refl

inventory_291 : inventory_from (rec (field (codes "_meta") (rec (field (codes "hostvars") (rec (field (codes "a") (rec (field (codes "s1") (int (pos 0)) (no_fields))) (field (codes "b") (rec (no_fields)) (field (codes "c") (rec (field (codes "s1") (rec (field (codes "f") (text (codes "no")) (field (codes "g") (int (pos 1)) (no_fields)))) (no_fields))) (no_fields))))) (no_fields))) (field (codes "all") (rec (field (codes "hosts") (list (item (text (codes "a")) (item (text (codes "b")) (item (text (codes "c")) (no_items))))) (field (codes "vars") (rec (no_fields)) (no_fields)))) (field (codes "g1") (rec (field (codes "hosts") (list (item (text (codes "c")) (no_items))) (field (codes "vars") (rec (field (codes "op") opaque (no_fields))) (no_fields)))) (no_fields))))) ≡ Ok (record { hosts = (record { name = (codes "a"); variables = (field (codes "s1") (int (pos 0)) (no_fields)) } ∷ record { name = (codes "b"); variables = (no_fields) } ∷ record { name = (codes "c"); variables = (field (codes "op") opaque (field (codes "s1") (rec (field (codes "f") (text (codes "no")) (field (codes "g") (int (pos 1)) (no_fields)))) (no_fields))) } ∷ []); groups = (record { name = (codes "all"); hosts = ((codes "a") ∷ (codes "b") ∷ (codes "c") ∷ []) } ∷ record { name = (codes "g1"); hosts = ((codes "c") ∷ []) } ∷ record { name = (codes "ungrouped"); hosts = ((codes "a") ∷ (codes "b") ∷ []) } ∷ []) })
inventory_291 = refl

inventory_292 : inventory_from (rec (field (codes "_meta") (rec (field (codes "hostvars") (rec (field (codes "a") (rec (field (codes "s1") (int (pos 0)) (no_fields))) (field (codes "b") (rec (no_fields)) (no_fields)))) (no_fields))) (field (codes "all") (rec (field (codes "hosts") (list (item (text (codes "a")) (item (text (codes "b")) (no_items)))) (field (codes "vars") (rec (field (codes "i2") null (field (codes "op") opaque (field (codes "s1") (text (codes "no")) (no_fields))))) (no_fields)))) (field (codes "g1") (rec (field (codes "hosts") (list (no_items)) (field (codes "vars") (rec (field (codes "s1") (list (item (int (pos 3)) (no_items))) (no_fields))) (no_fields)))) (field (codes "g2") (rec (field (codes "hosts") (list (item (text (codes "b")) (no_items))) (field (codes "vars") (rec (field (codes "op") opaque (no_fields))) (no_fields)))) (no_fields)))))) ≡ Ok (record { hosts = (record { name = (codes "a"); variables = (field (codes "i2") null (field (codes "op") opaque (field (codes "s1") (int (pos 0)) (no_fields)))) } ∷ record { name = (codes "b"); variables = (field (codes "i2") null (field (codes "op") opaque (field (codes "s1") (text (codes "no")) (no_fields)))) } ∷ []); groups = (record { name = (codes "all"); hosts = ((codes "a") ∷ (codes "b") ∷ []) } ∷ record { name = (codes "g1"); hosts = ([]) } ∷ record { name = (codes "g2"); hosts = ((codes "b") ∷ []) } ∷ record { name = (codes "ungrouped"); hosts = ((codes "a") ∷ []) } ∷ []) })
inventory_292 = refl

inventory_293 : inventory_from (rec (field (codes "_meta") (rec (field (codes "hostvars") (rec (field (codes "a") (rec (field (codes "s1") (int (pos 1)) (no_fields))) (field (codes "b") (rec (field (codes "i1") (int (pos 1)) (field (codes "i2") (rec (field (codes "f") (list (no_items)) (field (codes "g") (boolean true) (no_fields)))) (field (codes "s1") (rec (field (codes "f") (list (no_items)) (field (codes "g") (text (codes "x")) (no_fields)))) (no_fields))))) (field (codes "c") (rec (field (codes "i1") (int (pos 2)) (no_fields))) (no_fields))))) (no_fields))) (field (codes "all") (rec (field (codes "hosts") (list (item (text (codes "a")) (item (text (codes "b")) (item (text (codes "c")) (no_items))))) (field (codes "vars") (rec (field (codes "i1") (text (codes "b")) (field (codes "i2") (int (negsuc 0)) (no_fields)))) (no_fields)))) (field (codes "g1") (rec (field (codes "hosts") (list (item (text (codes "b")) (no_items))) (field (codes "vars") (rec (no_fields)) (no_fields)))) (no_fields))))) ≡ Ok (record { hosts = (record { name = (codes "a"); variables = (field (codes "i1") (text (codes "b")) (field (codes "i2") (int (negsuc 0)) (field (codes "s1") (int (pos 1)) (no_fields)))) } ∷ record { name = (codes "b"); variables = (field (codes "i1") (int (pos 1)) (field (codes "i2") (rec (field (codes "f") (list (no_items)) (field (codes "g") (boolean true) (no_fields)))) (field (codes "s1") (rec (field (codes "f") (list (no_items)) (field (codes "g") (text (codes "x")) (no_fields)))) (no_fields)))) } ∷ record { name = (codes "c"); variables = (field (codes "i1") (int (pos 2)) (field (codes "i2") (int (negsuc 0)) (no_fields))) } ∷ []); groups = (record { name = (codes "all"); hosts = ((codes "a") ∷ (codes "b") ∷ (codes "c") ∷ []) } ∷ record { name = (codes "g1"); hosts = ((codes "b") ∷ []) } ∷ record { name = (codes "ungrouped"); hosts = ((codes "a") ∷ (codes "c") ∷ []) } ∷ []) })
inventory_293 = refl

inventory_294 : inventory_from (rec (field (codes "_meta") (rec (field (codes "hostvars") (rec (field (codes "a") (rec (field (codes "s1") (int (pos 1)) (no_fields))) (field (codes "b") (rec (field (codes "i2") (boolean true) (field (codes "op") opaque (no_fields)))) (field (codes "c") (rec (field (codes "s1") (list (no_items)) (no_fields))) (field (codes "d") (rec (field (codes "i1") (text (codes "x")) (no_fields))) (no_fields)))))) (no_fields))) (field (codes "all") (rec (field (codes "hosts") (list (item (text (codes "a")) (item (text (codes "b")) (item (text (codes "c")) (item (text (codes "d")) (no_items)))))) (field (codes "vars") (rec (field (codes "i1") (text ([])) (field (codes "op") opaque (no_fields)))) (no_fields)))) (field (codes "g1") (rec (field (codes "hosts") (list (item (text (codes "b")) (item (text (codes "d")) (no_items)))) (field (codes "vars") (rec (no_fields)) (no_fields)))) (field (codes "g2") (rec (field (codes "hosts") (list (item (text (codes "b")) (item (text (codes "c")) (item (text (codes "d")) (no_items))))) (field (codes "vars") (rec (field (codes "i2") (text (codes "a")) (no_fields))) (no_fields)))) (no_fields)))))) ≡ Ok (record { hosts = (record { name = (codes "a"); variables = (field (codes "i1") (text ([])) (field (codes "op") opaque (field (codes "s1") (int (pos 1)) (no_fields)))) } ∷ record { name = (codes "b"); variables = (field (codes "i1") (text ([])) (field (codes "i2") (boolean true) (field (codes "op") opaque (no_fields)))) } ∷ record { name = (codes "c"); variables = (field (codes "i1") (text ([])) (field (codes "i2") (text (codes "a")) (field (codes "op") opaque (field (codes "s1") (list (no_items)) (no_fields))))) } ∷ record { name = (codes "d"); variables = (field (codes "i1") (text (codes "x")) (field (codes "i2") (text (codes "a")) (field (codes "op") opaque (no_fields)))) } ∷ []); groups = (record { name = (codes "all"); hosts = ((codes "a") ∷ (codes "b") ∷ (codes "c") ∷ (codes "d") ∷ []) } ∷ record { name = (codes "g1"); hosts = ((codes "b") ∷ (codes "d") ∷ []) } ∷ record { name = (codes "g2"); hosts = ((codes "b") ∷ (codes "c") ∷ (codes "d") ∷ []) } ∷ record { name = (codes "ungrouped"); hosts = ((codes "a") ∷ []) } ∷ []) })
inventory_294 = refl

inventory_295 : inventory_from (rec (field (codes "_meta") (rec (field (codes "hostvars") (rec (field (codes "a") (rec (field (codes "s1") (int (pos 1)) (no_fields))) (field (codes "b") (rec (field (codes "i2") (text ([])) (field (codes "op") opaque (no_fields)))) (no_fields)))) (no_fields))) (field (codes "all") (rec (field (codes "hosts") (list (item (text (codes "a")) (item (text (codes "b")) (no_items)))) (field (codes "vars") (rec (field (codes "i2") (int (pos 1)) (field (codes "op") opaque (no_fields)))) (no_fields)))) (field (codes "g1") (rec (field (codes "children") (list (item (text (codes "g2")) (no_items))) (field (codes "hosts") (list (item (text (codes "b")) (no_items))) (field (codes "vars") (rec (field (codes "s1") (list (item (text ([])) (no_items))) (no_fields))) (no_fields))))) (field (codes "g2") (rec (field (codes "hosts") (list (item (text (codes "b")) (no_items))) (field (codes "vars") (rec (field (codes "i2") (text ([])) (no_fields))) (no_fields)))) (no_fields)))))) ≡ Ok (record { hosts = (record { name = (codes "a"); variables = (field (codes "i2") (int (pos 1)) (field (codes "op") opaque (field (codes "s1") (int (pos 1)) (no_fields)))) } ∷ record { name = (codes "b"); variables = (field (codes "i2") (text ([])) (field (codes "op") opaque (field (codes "s1") (list (item (text ([])) (no_items))) (no_fields)))) } ∷ []); groups = (record { name = (codes "all"); hosts = ((codes "a") ∷ (codes "b") ∷ []) } ∷ record { name = (codes "g1"); hosts = ((codes "b") ∷ []) } ∷ record { name = (codes "g2"); hosts = ((codes "b") ∷ []) } ∷ record { name = (codes "ungrouped"); hosts = ((codes "a") ∷ []) } ∷ []) })
inventory_295 = refl

inventory_296 : inventory_from (rec (field (codes "_meta") (rec (field (codes "hostvars") (rec (field (codes "a") (rec (field (codes "s1") (int (pos 1)) (no_fields))) (field (codes "b") (rec (no_fields)) (field (codes "c") (rec (field (codes "op") opaque (no_fields))) (field (codes "d") (rec (field (codes "i2") (rec (field (codes "f") (text (codes "a")) (field (codes "g") (list (item null (item (text ([])) (no_items)))) (no_fields)))) (field (codes "op") opaque (field (codes "s1") (rec (no_fields)) (no_fields))))) (no_fields)))))) (no_fields))) (field (codes "all") (rec (field (codes "hosts") (list (item (text (codes "a")) (item (text (codes "b")) (item (text (codes "c")) (item (text (codes "d")) (no_items)))))) (field (codes "vars") (rec (field (codes "op") opaque (field (codes "s1") (list (no_items)) (no_fields)))) (no_fields)))) (no_fields)))) ≡ Ok (record { hosts = (record { name = (codes "a"); variables = (field (codes "op") opaque (field (codes "s1") (int (pos 1)) (no_fields))) } ∷ record { name = (codes "b"); variables = (field (codes "op") opaque (field (codes "s1") (list (no_items)) (no_fields))) } ∷ record { name = (codes "c"); variables = (field (codes "op") opaque (field (codes "s1") (list (no_items)) (no_fields))) } ∷ record { name = (codes "d"); variables = (field (codes "i2") (rec (field (codes "f") (text (codes "a")) (field (codes "g") (list (item null (item (text ([])) (no_items)))) (no_fields)))) (field (codes "op") opaque (field (codes "s1") (rec (no_fields)) (no_fields)))) } ∷ []); groups = (record { name = (codes "all"); hosts = ((codes "a") ∷ (codes "b") ∷ (codes "c") ∷ (codes "d") ∷ []) } ∷ record { name = (codes "ungrouped"); hosts = ((codes "a") ∷ (codes "b") ∷ (codes "c") ∷ (codes "d") ∷ []) } ∷ []) })
inventory_296 = refl

inventory_297 : inventory_from (rec (field (codes "_meta") (rec (field (codes "hostvars") (rec (field (codes "a") (rec (field (codes "s1") (int (pos 1)) (no_fields))) (field (codes "b") (rec (no_fields)) (field (codes "c") (rec (no_fields)) (no_fields))))) (no_fields))) (field (codes "all") (rec (field (codes "hosts") (list (item (text (codes "a")) (item (text (codes "b")) (item (text (codes "c")) (no_items))))) (field (codes "vars") (rec (field (codes "i2") (text ([])) (field (codes "op") opaque (no_fields)))) (no_fields)))) (field (codes "g1") (rec (field (codes "hosts") (list (item (text (codes "a")) (no_items))) (field (codes "vars") (rec (field (codes "i2") (list (item (boolean false) (item (text (codes "a")) (no_items)))) (field (codes "op") opaque (no_fields)))) (no_fields)))) (no_fields))))) ≡ Ok (record { hosts = (record { name = (codes "a"); variables = (field (codes "i2") (list (item (boolean false) (item (text (codes "a")) (no_items)))) (field (codes "op") opaque (field (codes "s1") (int (pos 1)) (no_fields)))) } ∷ record { name = (codes "b"); variables = (field (codes "i2") (text ([])) (field (codes "op") opaque (no_fields))) } ∷ record { name = (codes "c"); variables = (field (codes "i2") (text ([])) (field (codes "op") opaque (no_fields))) } ∷ []); groups = (record { name = (codes "all"); hosts = ((codes "a") ∷ (codes "b") ∷ (codes "c") ∷ []) } ∷ record { name = (codes "g1"); hosts = ((codes "a") ∷ []) } ∷ record { name = (codes "ungrouped"); hosts = ((codes "b") ∷ (codes "c") ∷ []) } ∷ []) })
inventory_297 = refl

inventory_298 : inventory_from (rec (field (codes "_meta") (rec (field (codes "hostvars") (rec (field (codes "a") (rec (field (codes "s1") (int (pos 1)) (no_fields))) (no_fields))) (no_fields))) (field (codes "all") (rec (field (codes "hosts") (list (item (text (codes "a")) (no_items))) (field (codes "vars") (rec (field (codes "s1") (text (codes "a")) (no_fields))) (no_fields)))) (field (codes "g1") (rec (field (codes "children") (list (item (text (codes "g2")) (no_items))) (field (codes "hosts") (list (item (text (codes "a")) (no_items))) (field (codes "vars") (rec (field (codes "op") opaque (field (codes "s1") (list (no_items)) (no_fields)))) (no_fields))))) (field (codes "g2") (rec (field (codes "hosts") (list (no_items)) (field (codes "vars") (rec (field (codes "i1") (rec (field (codes "g") (list (no_items)) (no_fields))) (field (codes "s1") (int (negsuc 0)) (no_fields)))) (no_fields)))) (no_fields)))))) ≡ Ok (record { hosts = (record { name = (codes "a"); variables = (field (codes "op") opaque (field (codes "s1") (int (pos 1)) (no_fields))) } ∷ []); groups = (record { name = (codes "all"); hosts = ((codes "a") ∷ []) } ∷ record { name = (codes "g1"); hosts = ((codes "a") ∷ []) } ∷ record { name = (codes "g2"); hosts = ([]) } ∷ record { name = (codes "ungrouped"); hosts = ([]) } ∷ []) })
inventory_298 = refl

inventory_299 : inventory_from (rec (field (codes "_meta") (rec (field (codes "hostvars") (rec (field (codes "a") (rec (field (codes "s1") (int (pos 2)) (no_fields))) (no_fields))) (no_fields))) (field (codes "all") (rec (field (codes "hosts") (list (item (text (codes "a")) (no_items))) (field (codes "vars") (rec (field (codes "i1") (list (no_items)) (no_fields))) (no_fields)))) (field (codes "g1") (rec (field (codes "hosts") (list (item (text (codes "a")) (no_items))) (field (codes "vars") (rec (field (codes "op") opaque (no_fields))) (no_fields)))) (field (codes "g2") (rec (field (codes "hosts") (list (no_items)) (field (codes "vars") (rec (no_fields)) (no_fields)))) (no_fields)))))) ≡ Ok (record { hosts = (record { name = (codes "a"); variables = (field (codes "i1") (list (no_items)) (field (codes "op") opaque (field (codes "s1") (int (pos 2)) (no_fields)))) } ∷ []); groups = (record { name = (codes "all"); hosts = ((codes "a") ∷ []) } ∷ record { name = (codes "g1"); hosts = ((codes "a") ∷ []) } ∷ record { name = (codes "g2"); hosts = ([]) } ∷ record { name = (codes "ungrouped"); hosts = ([]) } ∷ []) })
inventory_299 = refl
