-- The inventories of cases, computed.
use Rattle.std.specs.Prelude.{◌≡◌, refl, pos, negsuc, [], ◌∷◌, true, false, Ok, codes}
use Rattle.pb_semantics.specs.Data.{null, boolean, int, text, list, rec, opaque, no_items, item, no_fields, field}
use Rattle.pb_language.specs.Inventories.{inventory_from}

inventory_120 : inventory_from (rec (field (codes "_meta") (rec (field (codes "hostvars") (rec (field (codes "a") (rec (field (codes "i1") (text (codes "t")) (field (codes "i2") (text (codes "t")) (field (codes "op") opaque (field (codes "s1") (text (codes "x")) (no_fields)))))) (no_fields))) (no_fields))) (field (codes "all") (rec (field (codes "hosts") (list (item (text (codes "a")) (no_items))) (field (codes "vars") (rec (field (codes "i1") (int (pos 3)) (field (codes "i2") (int (pos 1)) (field (codes "s1") (int (pos 2)) (no_fields))))) (no_fields)))) (field (codes "g1") (rec (field (codes "hosts") (list (item (text (codes "a")) (no_items))) (field (codes "vars") (rec (field (codes "i1") (text (codes "b")) (no_fields))) (no_fields)))) (no_fields))))) ≡ Ok (record { hosts = (record { name = (codes "a"); variables = (field (codes "i1") (text (codes "t")) (field (codes "i2") (text (codes "t")) (field (codes "op") opaque (field (codes "s1") (text (codes "x")) (no_fields))))) } ∷ []); groups = (record { name = (codes "all"); hosts = ((codes "a") ∷ []) } ∷ record { name = (codes "g1"); hosts = ((codes "a") ∷ []) } ∷ record { name = (codes "ungrouped"); hosts = ([]) } ∷ []) })
inventory_120 = refl

inventory_121 : inventory_from (rec (field (codes "_meta") (rec (field (codes "hostvars") (rec (field (codes "a") (rec (field (codes "i1") (text (codes "t")) (field (codes "i2") (text (codes "t")) (field (codes "s1") (boolean true) (no_fields))))) (field (codes "b") (rec (field (codes "op") opaque (no_fields))) (field (codes "c") (rec (field (codes "i2") (list (item null (item (text (codes "b")) (no_items)))) (no_fields))) (field (codes "d") (rec (no_fields)) (no_fields)))))) (no_fields))) (field (codes "all") (rec (field (codes "hosts") (list (item (text (codes "a")) (item (text (codes "b")) (item (text (codes "c")) (item (text (codes "d")) (no_items)))))) (field (codes "vars") (rec (field (codes "op") opaque (no_fields))) (no_fields)))) (field (codes "g1") (rec (field (codes "hosts") (list (item (text (codes "a")) (item (text (codes "b")) (no_items)))) (field (codes "vars") (rec (field (codes "i2") (rec (field (codes "f") (int (pos 2)) (no_fields))) (field (codes "s1") (rec (no_fields)) (no_fields)))) (no_fields)))) (no_fields))))) ≡ Ok (record { hosts = (record { name = (codes "a"); variables = (field (codes "i1") (text (codes "t")) (field (codes "i2") (text (codes "t")) (field (codes "op") opaque (field (codes "s1") (boolean true) (no_fields))))) } ∷ record { name = (codes "b"); variables = (field (codes "i2") (rec (field (codes "f") (int (pos 2)) (no_fields))) (field (codes "op") opaque (field (codes "s1") (rec (no_fields)) (no_fields)))) } ∷ record { name = (codes "c"); variables = (field (codes "i2") (list (item null (item (text (codes "b")) (no_items)))) (field (codes "op") opaque (no_fields))) } ∷ record { name = (codes "d"); variables = (field (codes "op") opaque (no_fields)) } ∷ []); groups = (record { name = (codes "all"); hosts = ((codes "a") ∷ (codes "b") ∷ (codes "c") ∷ (codes "d") ∷ []) } ∷ record { name = (codes "g1"); hosts = ((codes "a") ∷ (codes "b") ∷ []) } ∷ record { name = (codes "ungrouped"); hosts = ((codes "c") ∷ (codes "d") ∷ []) } ∷ []) })
inventory_121 = refl

inventory_122 : inventory_from (rec (field (codes "_meta") (rec (field (codes "hostvars") (rec (field (codes "a") (rec (field (codes "i1") (text (codes "t")) (field (codes "s1") (int (pos 0)) (no_fields)))) (no_fields))) (no_fields))) (field (codes "all") (rec (field (codes "hosts") (list (item (text (codes "a")) (no_items))) (field (codes "vars") (rec (field (codes "i2") (int (pos 1)) (field (codes "op") opaque (field (codes "s1") (text (codes "t")) (no_fields))))) (no_fields)))) (field (codes "g1") (rec (field (codes "hosts") (list (item (text (codes "a")) (no_items))) (field (codes "vars") (rec (no_fields)) (no_fields)))) (no_fields))))) ≡ Ok (record { hosts = (record { name = (codes "a"); variables = (field (codes "i1") (text (codes "t")) (field (codes "i2") (int (pos 1)) (field (codes "op") opaque (field (codes "s1") (int (pos 0)) (no_fields))))) } ∷ []); groups = (record { name = (codes "all"); hosts = ((codes "a") ∷ []) } ∷ record { name = (codes "g1"); hosts = ((codes "a") ∷ []) } ∷ record { name = (codes "ungrouped"); hosts = ([]) } ∷ []) })
inventory_122 = refl

inventory_123 : inventory_from (rec (field (codes "_meta") (rec (field (codes "hostvars") (rec (field (codes "a") (rec (field (codes "i1") (text (codes "t")) (no_fields))) (field (codes "b") (rec (field (codes "op") opaque (no_fields))) (field (codes "c") (rec (field (codes "i2") (rec (field (codes "g") (boolean true) (no_fields))) (field (codes "s1") (boolean false) (no_fields)))) (field (codes "d") (rec (field (codes "op") opaque (no_fields))) (no_fields)))))) (no_fields))) (field (codes "all") (rec (field (codes "hosts") (list (item (text (codes "a")) (item (text (codes "b")) (item (text (codes "c")) (item (text (codes "d")) (no_items)))))) (field (codes "vars") (rec (field (codes "op") opaque (field (codes "s1") (text (codes "a")) (no_fields)))) (no_fields)))) (field (codes "g1") (rec (field (codes "hosts") (list (item (text (codes "a")) (item (text (codes "c")) (no_items)))) (field (codes "vars") (rec (field (codes "i2") (boolean false) (no_fields))) (no_fields)))) (field (codes "g2") (rec (field (codes "hosts") (list (item (text (codes "c")) (no_items))) (field (codes "vars") (rec (no_fields)) (no_fields)))) (no_fields)))))) ≡ Ok (record { hosts = (record { name = (codes "a"); variables = (field (codes "i1") (text (codes "t")) (field (codes "i2") (boolean false) (field (codes "op") opaque (field (codes "s1") (text (codes "a")) (no_fields))))) } ∷ record { name = (codes "b"); variables = (field (codes "op") opaque (field (codes "s1") (text (codes "a")) (no_fields))) } ∷ record { name = (codes "c"); variables = (field (codes "i2") (rec (field (codes "g") (boolean true) (no_fields))) (field (codes "op") opaque (field (codes "s1") (boolean false) (no_fields)))) } ∷ record { name = (codes "d"); variables = (field (codes "op") opaque (field (codes "s1") (text (codes "a")) (no_fields))) } ∷ []); groups = (record { name = (codes "all"); hosts = ((codes "a") ∷ (codes "b") ∷ (codes "c") ∷ (codes "d") ∷ []) } ∷ record { name = (codes "g1"); hosts = ((codes "a") ∷ (codes "c") ∷ []) } ∷ record { name = (codes "g2"); hosts = ((codes "c") ∷ []) } ∷ record { name = (codes "ungrouped"); hosts = ((codes "b") ∷ (codes "d") ∷ []) } ∷ []) })
inventory_123 = refl

inventory_124 : inventory_from (rec (field (codes "_meta") (rec (field (codes "hostvars") (rec (field (codes "a") (rec (field (codes "i1") (text (codes "t")) (no_fields))) (field (codes "b") (rec (field (codes "s1") (text (codes "b")) (no_fields))) (field (codes "c") (rec (field (codes "s1") (list (item (int (pos 1)) (item (text ([])) (no_items)))) (no_fields))) (field (codes "d") (rec (field (codes "op") opaque (no_fields))) (no_fields)))))) (no_fields))) (field (codes "all") (rec (field (codes "hosts") (list (item (text (codes "a")) (item (text (codes "b")) (item (text (codes "c")) (item (text (codes "d")) (no_items)))))) (field (codes "vars") (rec (field (codes "i1") (text (codes "no")) (no_fields))) (no_fields)))) (no_fields)))) ≡ Ok (record { hosts = (record { name = (codes "a"); variables = (field (codes "i1") (text (codes "t")) (no_fields)) } ∷ record { name = (codes "b"); variables = (field (codes "i1") (text (codes "no")) (field (codes "s1") (text (codes "b")) (no_fields))) } ∷ record { name = (codes "c"); variables = (field (codes "i1") (text (codes "no")) (field (codes "s1") (list (item (int (pos 1)) (item (text ([])) (no_items)))) (no_fields))) } ∷ record { name = (codes "d"); variables = (field (codes "i1") (text (codes "no")) (field (codes "op") opaque (no_fields))) } ∷ []); groups = (record { name = (codes "all"); hosts = ((codes "a") ∷ (codes "b") ∷ (codes "c") ∷ (codes "d") ∷ []) } ∷ record { name = (codes "ungrouped"); hosts = ((codes "a") ∷ (codes "b") ∷ (codes "c") ∷ (codes "d") ∷ []) } ∷ []) })
inventory_124 = refl

inventory_125 : inventory_from (rec (field (codes "_meta") (rec (field (codes "hostvars") (rec (field (codes "a") (rec (field (codes "i1") (text (codes "x")) (field (codes "i2") (boolean true) (field (codes "s1") (list (item (boolean true) (no_items))) (no_fields))))) (field (codes "b") (rec (field (codes "op") opaque (no_fields))) (no_fields)))) (no_fields))) (field (codes "all") (rec (field (codes "hosts") (list (item (text (codes "a")) (item (text (codes "b")) (no_items)))) (field (codes "vars") (rec (no_fields)) (no_fields)))) (field (codes "g1") (rec (field (codes "hosts") (list (item (text (codes "a")) (item (text (codes "b")) (no_items)))) (field (codes "vars") (rec (field (codes "i1") (text ([])) (no_fields))) (no_fields)))) (field (codes "g2") (rec (field (codes "hosts") (list (item (text (codes "a")) (no_items))) (field (codes "vars") (rec (field (codes "op") opaque (field (codes "s1") (rec (field (codes "f") (text (codes "no")) (field (codes "g") (list (item (text (codes "x")) (item (int (pos 1)) (no_items)))) (no_fields)))) (no_fields)))) (no_fields)))) (no_fields)))))) ≡ Ok (record { hosts = (record { name = (codes "a"); variables = (field (codes "i1") (text (codes "x")) (field (codes "i2") (boolean true) (field (codes "op") opaque (field (codes "s1") (list (item (boolean true) (no_items))) (no_fields))))) } ∷ record { name = (codes "b"); variables = (field (codes "i1") (text ([])) (field (codes "op") opaque (no_fields))) } ∷ []); groups = (record { name = (codes "all"); hosts = ((codes "a") ∷ (codes "b") ∷ []) } ∷ record { name = (codes "g1"); hosts = ((codes "a") ∷ (codes "b") ∷ []) } ∷ record { name = (codes "g2"); hosts = ((codes "a") ∷ []) } ∷ record { name = (codes "ungrouped"); hosts = ([]) } ∷ []) })
inventory_125 = refl

inventory_126 : inventory_from (rec (field (codes "_meta") (rec (field (codes "hostvars") (rec (field (codes "a") (rec (field (codes "i1") (text (codes "x")) (field (codes "op") opaque (no_fields)))) (field (codes "b") (rec (no_fields)) (field (codes "c") (rec (field (codes "s1") (int (pos 0)) (no_fields))) (no_fields))))) (no_fields))) (field (codes "all") (rec (field (codes "hosts") (list (item (text (codes "a")) (item (text (codes "b")) (item (text (codes "c")) (no_items))))) (field (codes "vars") (rec (no_fields)) (no_fields)))) (field (codes "g1") (rec (field (codes "hosts") (list (item (text (codes "c")) (no_items))) (field (codes "vars") (rec (no_fields)) (no_fields)))) (no_fields))))) ≡ Ok (record { hosts = (record { name = (codes "a"); variables = (field (codes "i1") (text (codes "x")) (field (codes "op") opaque (no_fields))) } ∷ record { name = (codes "b"); variables = (no_fields) } ∷ record { name = (codes "c"); variables = (field (codes "s1") (int (pos 0)) (no_fields)) } ∷ []); groups = (record { name = (codes "all"); hosts = ((codes "a") ∷ (codes "b") ∷ (codes "c") ∷ []) } ∷ record { name = (codes "g1"); hosts = ((codes "c") ∷ []) } ∷ record { name = (codes "ungrouped"); hosts = ((codes "a") ∷ (codes "b") ∷ []) } ∷ []) })
inventory_126 = refl

inventory_127 : inventory_from (rec (field (codes "_meta") (rec (field (codes "hostvars") (rec (field (codes "a") (rec (field (codes "i1") (text (codes "x")) (no_fields))) (field (codes "b") (rec (field (codes "i1") (rec (field (codes "f") (rec (field (codes "f") (int (pos 2)) (no_fields))) (field (codes "g") (rec (field (codes "f") (text (codes "t")) (field (codes "g") (text (codes "a")) (no_fields)))) (no_fields)))) (field (codes "i2") (boolean false) (no_fields)))) (field (codes "c") (rec (field (codes "i2") (text (codes "no")) (no_fields))) (field (codes "d") (rec (field (codes "i1") (rec (field (codes "g") (text (codes "no")) (no_fields))) (field (codes "s1") (rec (field (codes "f") (int (negsuc 0)) (field (codes "g") (text (codes "b")) (no_fields)))) (no_fields)))) (no_fields)))))) (no_fields))) (field (codes "all") (rec (field (codes "hosts") (list (item (text (codes "a")) (item (text (codes "b")) (item (text (codes "c")) (item (text (codes "d")) (no_items)))))) (field (codes "vars") (rec (field (codes "op") opaque (no_fields))) (no_fields)))) (field (codes "g1") (rec (field (codes "children") (list (item (text (codes "g2")) (no_items))) (field (codes "hosts") (list (item (text (codes "a")) (item (text (codes "b")) (no_items)))) (field (codes "vars") (rec (no_fields)) (no_fields))))) (field (codes "g2") (rec (field (codes "hosts") (list (item (text (codes "a")) (item (text (codes "b")) (item (text (codes "c")) (item (text (codes "d")) (no_items)))))) (field (codes "vars") (rec (no_fields)) (no_fields)))) (no_fields)))))) ≡ Ok (record { hosts = (record { name = (codes "a"); variables = (field (codes "i1") (text (codes "x")) (field (codes "op") opaque (no_fields))) } ∷ record { name = (codes "b"); variables = (field (codes "i1") (rec (field (codes "f") (rec (field (codes "f") (int (pos 2)) (no_fields))) (field (codes "g") (rec (field (codes "f") (text (codes "t")) (field (codes "g") (text (codes "a")) (no_fields)))) (no_fields)))) (field (codes "i2") (boolean false) (field (codes "op") opaque (no_fields)))) } ∷ record { name = (codes "c"); variables = (field (codes "i2") (text (codes "no")) (field (codes "op") opaque (no_fields))) } ∷ record { name = (codes "d"); variables = (field (codes "i1") (rec (field (codes "g") (text (codes "no")) (no_fields))) (field (codes "op") opaque (field (codes "s1") (rec (field (codes "f") (int (negsuc 0)) (field (codes "g") (text (codes "b")) (no_fields)))) (no_fields)))) } ∷ []); groups = (record { name = (codes "all"); hosts = ((codes "a") ∷ (codes "b") ∷ (codes "c") ∷ (codes "d") ∷ []) } ∷ record { name = (codes "g1"); hosts = ((codes "a") ∷ (codes "b") ∷ (codes "c") ∷ (codes "d") ∷ []) } ∷ record { name = (codes "g2"); hosts = ((codes "a") ∷ (codes "b") ∷ (codes "c") ∷ (codes "d") ∷ []) } ∷ record { name = (codes "ungrouped"); hosts = ([]) } ∷ []) })
inventory_127 = refl

inventory_128 : inventory_from (rec (field (codes "_meta") (rec (field (codes "hostvars") (rec (field (codes "a") (rec (field (codes "i1") (text (codes "x")) (no_fields))) (field (codes "b") (rec (field (codes "i2") null (field (codes "op") opaque (field (codes "s1") (list (item (text (codes "t")) (no_items))) (no_fields))))) (field (codes "c") (rec (field (codes "i1") (int (pos 0)) (no_fields))) (no_fields))))) (no_fields))) (field (codes "all") (rec (field (codes "hosts") (list (item (text (codes "a")) (item (text (codes "b")) (item (text (codes "c")) (no_items))))) (field (codes "vars") (rec (field (codes "i1") (list (no_items)) (no_fields))) (no_fields)))) (no_fields)))) ≡ Ok (record { hosts = (record { name = (codes "a"); variables = (field (codes "i1") (text (codes "x")) (no_fields)) } ∷ record { name = (codes "b"); variables = (field (codes "i1") (list (no_items)) (field (codes "i2") null (field (codes "op") opaque (field (codes "s1") (list (item (text (codes "t")) (no_items))) (no_fields))))) } ∷ record { name = (codes "c"); variables = (field (codes "i1") (int (pos 0)) (no_fields)) } ∷ []); groups = (record { name = (codes "all"); hosts = ((codes "a") ∷ (codes "b") ∷ (codes "c") ∷ []) } ∷ record { name = (codes "ungrouped"); hosts = ((codes "a") ∷ (codes "b") ∷ (codes "c") ∷ []) } ∷ []) })
inventory_128 = refl

inventory_129 : inventory_from (rec (field (codes "_meta") (rec (field (codes "hostvars") (rec (field (codes "a") (rec (field (codes "i1") (text (codes "x")) (no_fields))) (no_fields))) (no_fields))) (field (codes "all") (rec (field (codes "hosts") (list (item (text (codes "a")) (no_items))) (field (codes "vars") (rec (field (codes "i2") (list (no_items)) (no_fields))) (no_fields)))) (no_fields)))) ≡ Ok (record { hosts = (record { name = (codes "a"); variables = (field (codes "i1") (text (codes "x")) (field (codes "i2") (list (no_items)) (no_fields))) } ∷ []); groups = (record { name = (codes "all"); hosts = ((codes "a") ∷ []) } ∷ record { name = (codes "ungrouped"); hosts = ((codes "a") ∷ []) } ∷ []) })
inventory_129 = refl

inventory_130 : inventory_from (rec (field (codes "_meta") (rec (field (codes "hostvars") (rec (field (codes "a") (rec (field (codes "i1") null (field (codes "i2") (list (item (text (codes "no")) (item (boolean false) (no_items)))) (no_fields)))) (no_fields))) (no_fields))) (field (codes "all") (rec (field (codes "hosts") (list (item (text (codes "a")) (no_items))) (field (codes "vars") (rec (no_fields)) (no_fields)))) (no_fields)))) ≡ Ok (record { hosts = (record { name = (codes "a"); variables = (field (codes "i1") null (field (codes "i2") (list (item (text (codes "no")) (item (boolean false) (no_items)))) (no_fields))) } ∷ []); groups = (record { name = (codes "all"); hosts = ((codes "a") ∷ []) } ∷ record { name = (codes "ungrouped"); hosts = ((codes "a") ∷ []) } ∷ []) })
inventory_130 = refl

inventory_131 : inventory_from (rec (field (codes "_meta") (rec (field (codes "hostvars") (rec (field (codes "a") (rec (field (codes "i1") null (field (codes "i2") (rec (no_fields)) (field (codes "s1") (list (no_items)) (no_fields))))) (no_fields))) (no_fields))) (field (codes "all") (rec (field (codes "hosts") (list (item (text (codes "a")) (no_items))) (field (codes "vars") (rec (field (codes "i1") (text (codes "a")) (no_fields))) (no_fields)))) (field (codes "g1") (rec (field (codes "hosts") (list (no_items)) (field (codes "vars") (rec (field (codes "i1") null (field (codes "i2") (boolean true) (no_fields)))) (no_fields)))) (field (codes "g2") (rec (field (codes "hosts") (list (no_items)) (field (codes "vars") (rec (field (codes "i1") (int (pos 1)) (field (codes "i2") (boolean true) (no_fields)))) (no_fields)))) (no_fields)))))) ≡ Ok (record { hosts = (record { name = (codes "a"); variables = (field (codes "i1") null (field (codes "i2") (rec (no_fields)) (field (codes "s1") (list (no_items)) (no_fields)))) } ∷ []); groups = (record { name = (codes "all"); hosts = ((codes "a") ∷ []) } ∷ record { name = (codes "g1"); hosts = ([]) } ∷ record { name = (codes "g2"); hosts = ([]) } ∷ record { name = (codes "ungrouped"); hosts = ((codes "a") ∷ []) } ∷ []) })
inventory_131 = refl

inventory_132 : inventory_from (rec (field (codes "_meta") (rec (field (codes "hostvars") (rec (field (codes "a") (rec (field (codes "i1") null (field (codes "i2") (text ([])) (field (codes "s1") (text (codes "no")) (no_fields))))) (no_fields))) (no_fields))) (field (codes "all") (rec (field (codes "hosts") (list (item (text (codes "a")) (no_items))) (field (codes "vars") (rec (field (codes "i1") (rec (no_fields)) (no_fields))) (no_fields)))) (field (codes "g2") (rec (field (codes "hosts") (list (item (text (codes "a")) (no_items))) (field (codes "vars") (rec (field (codes "i1") (list (no_items)) (field (codes "i2") (text ([])) (field (codes "s1") (text (codes "no")) (no_fields))))) (no_fields)))) (no_fields))))) ≡ Ok (record { hosts = (record { name = (codes "a"); variables = (field (codes "i1") null (field (codes "i2") (text ([])) (field (codes "s1") (text (codes "no")) (no_fields)))) } ∷ []); groups = (record { name = (codes "all"); hosts = ((codes "a") ∷ []) } ∷ record { name = (codes "g2"); hosts = ((codes "a") ∷ []) } ∷ record { name = (codes "ungrouped"); hosts = ([]) } ∷ []) })
inventory_132 = refl

inventory_133 : inventory_from (rec (field (codes "_meta") (rec (field (codes "hostvars") (rec (field (codes "a") (rec (field (codes "i1") null (field (codes "s1") (list (no_items)) (no_fields)))) (field (codes "b") (rec (field (codes "i2") null (no_fields))) (no_fields)))) (no_fields))) (field (codes "all") (rec (field (codes "hosts") (list (item (text (codes "a")) (item (text (codes "b")) (no_items)))) (field (codes "vars") (rec (field (codes "i1") (text (codes "x")) (field (codes "op") opaque (no_fields)))) (no_fields)))) (field (codes "g1") (rec (field (codes "hosts") (list (item (text (codes "a")) (no_items))) (field (codes "vars") (rec (field (codes "i1") (rec (no_fields)) (field (codes "op") opaque (no_fields)))) (no_fields)))) (field (codes "g2") (rec (field (codes "hosts") (list (item (text (codes "a")) (item (text (codes "b")) (no_items)))) (field (codes "vars") (rec (field (codes "op") opaque (no_fields))) (no_fields)))) (no_fields)))))) ≡ Ok (record { hosts = (record { name = (codes "a"); variables = (field (codes "i1") null (field (codes "op") opaque (field (codes "s1") (list (no_items)) (no_fields)))) } ∷ record { name = (codes "b"); variables = (field (codes "i1") (text (codes "x")) (field (codes "i2") null (field (codes "op") opaque (no_fields)))) } ∷ []); groups = (record { name = (codes "all"); hosts = ((codes "a") ∷ (codes "b") ∷ []) } ∷ record { name = (codes "g1"); hosts = ((codes "a") ∷ []) } ∷ record { name = (codes "g2"); hosts = ((codes "a") ∷ (codes "b") ∷ []) } ∷ record { name = (codes "ungrouped"); hosts = ([]) } ∷ []) })
inventory_133 = refl

inventory_134 : inventory_from (rec (field (codes "_meta") (rec (field (codes "hostvars") (rec (field (codes "a") (rec (field (codes "i2") (boolean false) (field (codes "op") opaque (no_fields)))) (no_fields))) (no_fields))) (field (codes "all") (rec (field (codes "hosts") (list (item (text (codes "a")) (no_items))) (field (codes "vars") (rec (field (codes "i1") (list (no_items)) (field (codes "i2") (int (pos 0)) (field (codes "op") opaque (no_fields))))) (no_fields)))) (field (codes "g1") (rec (field (codes "children") (list (item (text (codes "g2")) (no_items))) (field (codes "hosts") (list (item (text (codes "a")) (no_items))) (field (codes "vars") (rec (no_fields)) (no_fields))))) (field (codes "g2") (rec (field (codes "hosts") (list (item (text (codes "a")) (no_items))) (field (codes "vars") (rec (no_fields)) (no_fields)))) (no_fields)))))) ≡ Ok (record { hosts = (record { name = (codes "a"); variables = (field (codes "i1") (list (no_items)) (field (codes "i2") (boolean false) (field (codes "op") opaque (no_fields)))) } ∷ []); groups = (record { name = (codes "all"); hosts = ((codes "a") ∷ []) } ∷ record { name = (codes "g1"); hosts = ((codes "a") ∷ []) } ∷ record { name = (codes "g2"); hosts = ((codes "a") ∷ []) } ∷ record { name = (codes "ungrouped"); hosts = ([]) } ∷ []) })
inventory_134 = refl

inventory_135 : inventory_from (rec (field (codes "_meta") (rec (field (codes "hostvars") (rec (field (codes "a") (rec (field (codes "i2") (boolean false) (field (codes "s1") (text (codes "x")) (no_fields)))) (no_fields))) (no_fields))) (field (codes "all") (rec (field (codes "hosts") (list (item (text (codes "a")) (no_items))) (field (codes "vars") (rec (no_fields)) (no_fields)))) (field (codes "g1") (rec (field (codes "children") (list (item (text (codes "g2")) (no_items))) (field (codes "hosts") (list (no_items)) (field (codes "vars") (rec (field (codes "i1") (text (codes "b")) (field (codes "op") opaque (field (codes "s1") (text (codes "x")) (no_fields))))) (no_fields))))) (field (codes "g2") (rec (field (codes "hosts") (list (item (text (codes "a")) (no_items))) (field (codes "vars") (rec (no_fields)) (no_fields)))) (no_fields)))))) ≡ Ok (record { hosts = (record { name = (codes "a"); variables = (field (codes "i1") (text (codes "b")) (field (codes "i2") (boolean false) (field (codes "op") opaque (field (codes "s1") (text (codes "x")) (no_fields))))) } ∷ []); groups = (record { name = (codes "all"); hosts = ((codes "a") ∷ []) } ∷ record { name = (codes "g1"); hosts = ((codes "a") ∷ []) } ∷ record { name = (codes "g2"); hosts = ((codes "a") ∷ []) } ∷ record { name = (codes "ungrouped"); hosts = ([]) } ∷ []) })
inventory_135 = refl

inventory_136 : inventory_from (rec (field (codes "_meta") (rec (field (codes "hostvars") (rec (field (codes "a") (rec (field (codes "i2") (boolean false) (no_fields))) (field (codes "b") (rec (field (codes "i1") (int (pos 0)) (field (codes "s1") (text (codes "t")) (no_fields)))) (no_fields)))) (no_fields))) (field (codes "all") (rec (field (codes "hosts") (list (item (text (codes "a")) (item (text (codes "b")) (no_items)))) (field (codes "vars") (rec (field (codes "i1") (boolean false) (no_fields))) (no_fields)))) (field (codes "g1") (rec (field (codes "hosts") (list (item (text (codes "a")) (no_items))) (field (codes "vars") (rec (field (codes "s1") (text (codes "t")) (no_fields))) (no_fields)))) (no_fields))))) ≡ Ok (record { hosts = (record { name = (codes "a"); variables = (field (codes "i1") (boolean false) (field (codes "i2") (boolean false) (field (codes "s1") (text (codes "t")) (no_fields)))) } ∷ record { name = (codes "b"); variables = (field (codes "i1") (int (pos 0)) (field (codes "s1") (text (codes "t")) (no_fields))) } ∷ []); groups = (record { name = (codes "all"); hosts = ((codes "a") ∷ (codes "b") ∷ []) } ∷ record { name = (codes "g1"); hosts = ((codes "a") ∷ []) } ∷ record { name = (codes "ungrouped"); hosts = ((codes "b") ∷ []) } ∷ []) })
inventory_136 = refl

inventory_137 : inventory_from (rec (field (codes "_meta") (rec (field (codes "hostvars") (rec (field (codes "a") (rec (field (codes "i2") (boolean false) (no_fields))) (field (codes "b") (rec (no_fields)) (field (codes "c") (rec (field (codes "op") opaque (field (codes "s1") (list (no_items)) (no_fields)))) (no_fields))))) (no_fields))) (field (codes "all") (rec (field (codes "hosts") (list (item (text (codes "a")) (item (text (codes "b")) (item (text (codes "c")) (no_items))))) (field (codes "vars") (rec (field (codes "s1") (boolean false) (no_fields))) (no_fields)))) (field (codes "g1") (rec (field (codes "children") (list (item (text (codes "g2")) (no_items))) (field (codes "hosts") (list (item (text (codes "b")) (no_items))) (field (codes "vars") (rec (field (codes "op") opaque (no_fields))) (no_fields))))) (field (codes "g2") (rec (field (codes "hosts") (list (item (text (codes "a")) (no_items))) (field (codes "vars") (rec (field (codes "i1") (int (pos 1)) (no_fields))) (no_fields)))) (no_fields)))))) ≡ Ok (record { hosts = (record { name = (codes "a"); variables = (field (codes "i1") (int (pos 1)) (field (codes "i2") (boolean false) (field (codes "op") opaque (field (codes "s1") (boolean false) (no_fields))))) } ∷ record { name = (codes "b"); variables = (field (codes "op") opaque (field (codes "s1") (boolean false) (no_fields))) } ∷ record { name = (codes "c"); variables = (field (codes "op") opaque (field (codes "s1") (list (no_items)) (no_fields))) } ∷ []); groups = (record { name = (codes "all"); hosts = ((codes "a") ∷ (codes "b") ∷ (codes "c") ∷ []) } ∷ record { name = (codes "g1"); hosts = ((codes "b") ∷ (codes "a") ∷ []) } ∷ record { name = (codes "g2"); hosts = ((codes "a") ∷ []) } ∷ record { name = (codes "ungrouped"); hosts = ((codes "c") ∷ []) } ∷ []) })
inventory_137 = refl

inventory_138 : inventory_from (rec (field (codes "_meta") (rec (field (codes "hostvars") (rec (field (codes "a") (rec (field (codes "i2") (boolean true) (field (codes "op") opaque (no_fields)))) (field (codes "b") (rec (no_fields)) (field (codes "c") (rec (field (codes "i2") (list (no_items)) (field (codes "s1") (text (codes "b")) (no_fields)))) (field (codes "d") (rec (field (codes "op") opaque (no_fields))) (no_fields)))))) (no_fields))) (field (codes "all") (rec (field (codes "hosts") (list (item (text (codes "a")) (item (text (codes "b")) (item (text (codes "c")) (item (text (codes "d")) (no_items)))))) (field (codes "vars") (rec (field (codes "op") opaque (no_fields))) (no_fields)))) (field (codes "g1") (rec (field (codes "hosts") (list (item (text (codes "a")) (item (text (codes "b")) (item (text (codes "d")) (no_items))))) (field (codes "vars") (rec (field (codes "op") opaque (no_fields))) (no_fields)))) (field (codes "g2") (rec (field (codes "hosts") (list (item (text (codes "b")) (item (text (codes "c")) (no_items)))) (field (codes "vars") (rec (no_fields)) (no_fields)))) (no_fields)))))) ≡ Ok (record { hosts = (record { name = (codes "a"); variables = (field (codes "i2") (boolean true) (field (codes "op") opaque (no_fields))) } ∷ record { name = (codes "b"); variables = (field (codes "op") opaque (no_fields)) } ∷ record { name = (codes "c"); variables = (field (codes "i2") (list (no_items)) (field (codes "op") opaque (field (codes "s1") (text (codes "b")) (no_fields)))) } ∷ record { name = (codes "d"); variables = (field (codes "op") opaque (no_fields)) } ∷ []); groups = (record { name = (codes "all"); hosts = ((codes "a") ∷ (codes "b") ∷ (codes "c") ∷ (codes "d") ∷ []) } ∷ record { name = (codes "g1"); hosts = ((codes "a") ∷ (codes "b") ∷ (codes "d") ∷ []) } ∷ record { name = (codes "g2"); hosts = ((codes "b") ∷ (codes "c") ∷ []) } ∷ record { name = (codes "ungrouped"); hosts = ([]) } ∷ []) })
inventory_138 = refl

inventory_139 : inventory_from (rec (field (codes "_meta") (rec (field (codes "hostvars") (rec (field (codes "a") (rec (field (codes "i2") (boolean true) (field (codes "s1") (rec (field (codes "f") (list (item (text (codes "no")) (item (text (codes "x")) (no_items)))) (no_fields))) (no_fields)))) (field (codes "b") (rec (field (codes "i2") (rec (field (codes "g") (list (item (text (codes "x")) (item (boolean false) (no_items)))) (no_fields))) (field (codes "op") opaque (no_fields)))) (no_fields)))) (no_fields))) (field (codes "all") (rec (field (codes "hosts") (list (item (text (codes "a")) (item (text (codes "b")) (no_items)))) (field (codes "vars") (rec (field (codes "i1") (text (codes "no")) (no_fields))) (no_fields)))) (field (codes "g1") (rec (field (codes "hosts") (list (no_items)) (field (codes "vars") (rec (field (codes "i2") (list (item (text ([])) (no_items))) (field (codes "op") opaque (field (codes "s1") (list (item (int (pos 3)) (no_items))) (no_fields))))) (no_fields)))) (field (codes "g2") (rec (field (codes "hosts") (list (item (text (codes "a")) (item (text (codes "b")) (no_items)))) (field (codes "vars") (rec (field (codes "i2") (int (negsuc 0)) (field (codes "op") opaque (field (codes "s1") (boolean false) (no_fields))))) (no_fields)))) (no_fields)))))) ≡ Ok (record { hosts = (record { name = (codes "a"); variables = (field (codes "i1") (text (codes "no")) (field (codes "i2") (boolean true) (field (codes "op") opaque (field (codes "s1") (rec (field (codes "f") (list (item (text (codes "no")) (item (text (codes "x")) (no_items)))) (no_fields))) (no_fields))))) } ∷ record { name = (codes "b"); variables = (field (codes "i1") (text (codes "no")) (field (codes "i2") (rec (field (codes "g") (list (item (text (codes "x")) (item (boolean false) (no_items)))) (no_fields))) (field (codes "op") opaque (field (codes "s1") (boolean false) (no_fields))))) } ∷ []); groups = (record { name = (codes "all"); hosts = ((codes "a") ∷ (codes "b") ∷ []) } ∷ record { name = (codes "g1"); hosts = ([]) } ∷ record { name = (codes "g2"); hosts = ((codes "a") ∷ (codes "b") ∷ []) } ∷ record { name = (codes "ungrouped"); hosts = ([]) } ∷ []) })
inventory_139 = refl

inventory_140 : inventory_from (rec (field (codes "_meta") (rec (field (codes "hostvars") (rec (field (codes "a") (rec (field (codes "i2") (boolean true) (no_fields))) (field (codes "b") (rec (field (codes "i1") (text (codes "b")) (no_fields))) (no_fields)))) (no_fields))) (field (codes "all") (rec (field (codes "hosts") (list (item (text (codes "a")) (item (text (codes "b")) (no_items)))) (field (codes "vars") (rec (field (codes "i1") (list (no_items)) (no_fields))) (no_fields)))) (no_fields)))) ≡ Ok (record { hosts = (record { name = (codes "a"); variables = (field (codes "i1") (list (no_items)) (field (codes "i2") (boolean true) (no_fields))) } ∷ record { name = (codes "b"); variables = (field (codes "i1") (text (codes "b")) (no_fields)) } ∷ []); groups = (record { name = (codes "all"); hosts = ((codes "a") ∷ (codes "b") ∷ []) } ∷ record { name = (codes "ungrouped"); hosts = ((codes "a") ∷ (codes "b") ∷ []) } ∷ []) })
inventory_140 = refl

inventory_141 : inventory_from (rec (field (codes "_meta") (rec (field (codes "hostvars") (rec (field (codes "a") (rec (field (codes "i2") (boolean true) (no_fields))) (field (codes "b") (rec (field (codes "op") opaque (no_fields))) (field (codes "c") (rec (field (codes "op") opaque (no_fields))) (field (codes "d") (rec (field (codes "op") opaque (field (codes "s1") (boolean false) (no_fields)))) (no_fields)))))) (no_fields))) (field (codes "all") (rec (field (codes "hosts") (list (item (text (codes "a")) (item (text (codes "b")) (item (text (codes "c")) (item (text (codes "d")) (no_items)))))) (field (codes "vars") (rec (field (codes "i1") null (no_fields))) (no_fields)))) (field (codes "g1") (rec (field (codes "hosts") (list (item (text (codes "d")) (no_items))) (field (codes "vars") (rec (field (codes "op") opaque (no_fields))) (no_fields)))) (no_fields))))) ≡ Ok (record { hosts = (record { name = (codes "a"); variables = (field (codes "i1") null (field (codes "i2") (boolean true) (no_fields))) } ∷ record { name = (codes "b"); variables = (field (codes "i1") null (field (codes "op") opaque (no_fields))) } ∷ record { name = (codes "c"); variables = (field (codes "i1") null (field (codes "op") opaque (no_fields))) } ∷ record { name = (codes "d"); variables = (field (codes "i1") null (field (codes "op") opaque (field (codes "s1") (boolean false) (no_fields)))) } ∷ []); groups = (record { name = (codes "all"); hosts = ((codes "a") ∷ (codes "b") ∷ (codes "c") ∷ (codes "d") ∷ []) } ∷ record { name = (codes "g1"); hosts = ((codes "d") ∷ []) } ∷ record { name = (codes "ungrouped"); hosts = ((codes "a") ∷ (codes "b") ∷ (codes "c") ∷ []) } ∷ []) })
inventory_141 = refl

inventory_142 : inventory_from (rec (field (codes "_meta") (rec (field (codes "hostvars") (rec (field (codes "a") (rec (field (codes "i2") (boolean true) (no_fields))) (field (codes "b") (rec (field (codes "op") opaque (no_fields))) (no_fields)))) (no_fields))) (field (codes "all") (rec (field (codes "hosts") (list (item (text (codes "a")) (item (text (codes "b")) (no_items)))) (field (codes "vars") (rec (field (codes "i1") (text (codes "a")) (no_fields))) (no_fields)))) (field (codes "g2") (rec (field (codes "hosts") (list (item (text (codes "a")) (item (text (codes "b")) (no_items)))) (field (codes "vars") (rec (field (codes "i1") (int (pos 0)) (no_fields))) (no_fields)))) (no_fields))))) ≡ Ok (record { hosts = (record { name = (codes "a"); variables = (field (codes "i1") (int (pos 0)) (field (codes "i2") (boolean true) (no_fields))) } ∷ record { name = (codes "b"); variables = (field (codes "i1") (int (pos 0)) (field (codes "op") opaque (no_fields))) } ∷ []); groups = (record { name = (codes "all"); hosts = ((codes "a") ∷ (codes "b") ∷ []) } ∷ record { name = (codes "g2"); hosts = ((codes "a") ∷ (codes "b") ∷ []) } ∷ record { name = (codes "ungrouped"); hosts = ([]) } ∷ []) })
inventory_142 = refl

inventory_143 : inventory_from (rec (field (codes "_meta") (rec (field (codes "hostvars") (rec (field (codes "a") (rec (field (codes "i2") (boolean true) (no_fields))) (field (codes "b") (rec (no_fields)) (no_fields)))) (no_fields))) (field (codes "all") (rec (field (codes "hosts") (list (item (text (codes "a")) (item (text (codes "b")) (no_items)))) (field (codes "vars") (rec (field (codes "i1") (text (codes "b")) (no_fields))) (no_fields)))) (field (codes "g1") (rec (field (codes "hosts") (list (item (text (codes "b")) (no_items))) (field (codes "vars") (rec (field (codes "op") opaque (no_fields))) (no_fields)))) (no_fields))))) ≡ Ok (record { hosts = (record { name = (codes "a"); variables = (field (codes "i1") (text (codes "b")) (field (codes "i2") (boolean true) (no_fields))) } ∷ record { name = (codes "b"); variables = (field (codes "i1") (text (codes "b")) (field (codes "op") opaque (no_fields))) } ∷ []); groups = (record { name = (codes "all"); hosts = ((codes "a") ∷ (codes "b") ∷ []) } ∷ record { name = (codes "g1"); hosts = ((codes "b") ∷ []) } ∷ record { name = (codes "ungrouped"); hosts = ((codes "a") ∷ []) } ∷ []) })
inventory_143 = refl

inventory_144 : inventory_from (rec (field (codes "_meta") (rec (field (codes "hostvars") (rec (field (codes "a") (rec (field (codes "i2") (int (negsuc 0)) (no_fields))) (no_fields))) (no_fields))) (field (codes "all") (rec (field (codes "hosts") (list (item (text (codes "a")) (no_items))) (field (codes "vars") (rec (field (codes "i1") (text (codes "a")) (field (codes "s1") (int (pos 0)) (no_fields)))) (no_fields)))) (field (codes "g1") (rec (field (codes "hosts") (list (no_items)) (field (codes "vars") (rec (field (codes "i1") (text (codes "x")) (field (codes "op") opaque (no_fields)))) (no_fields)))) (field (codes "g2") (rec (field (codes "hosts") (list (item (text (codes "a")) (no_items))) (field (codes "vars") (rec (field (codes "i1") (text (codes "a")) (field (codes "i2") null (no_fields)))) (no_fields)))) (no_fields)))))) ≡ Ok (record { hosts = (record { name = (codes "a"); variables = (field (codes "i1") (text (codes "a")) (field (codes "i2") (int (negsuc 0)) (field (codes "s1") (int (pos 0)) (no_fields)))) } ∷ []); groups = (record { name = (codes "all"); hosts = ((codes "a") ∷ []) } ∷ record { name = (codes "g1"); hosts = ([]) } ∷ record { name = (codes "g2"); hosts = ((codes "a") ∷ []) } ∷ record { name = (codes "ungrouped"); hosts = ([]) } ∷ []) })
inventory_144 = refl

inventory_145 : inventory_from (rec (field (codes "_meta") (rec (field (codes "hostvars") (rec (field (codes "a") (rec (field (codes "i2") (int (pos 0)) (field (codes "op") opaque (no_fields)))) (field (codes "b") (rec (no_fields)) (no_fields)))) (no_fields))) (field (codes "all") (rec (field (codes "hosts") (list (item (text (codes "a")) (item (text (codes "b")) (no_items)))) (field (codes "vars") (rec (no_fields)) (no_fields)))) (field (codes "g1") (rec (field (codes "hosts") (list (item (text (codes "a")) (item (text (codes "b")) (no_items)))) (field (codes "vars") (rec (field (codes "i2") (list (item (int (pos 1)) (no_items))) (field (codes "op") opaque (no_fields)))) (no_fields)))) (field (codes "g2") (rec (field (codes "hosts") (list (item (text (codes "b")) (no_items))) (field (codes "vars") (rec (no_fields)) (no_fields)))) (no_fields)))))) ≡ Ok (record { hosts = (record { name = (codes "a"); variables = (field (codes "i2") (int (pos 0)) (field (codes "op") opaque (no_fields))) } ∷ record { name = (codes "b"); variables = (field (codes "i2") (list (item (int (pos 1)) (no_items))) (field (codes "op") opaque (no_fields))) } ∷ []); groups = (record { name = (codes "all"); hosts = ((codes "a") ∷ (codes "b") ∷ []) } ∷ record { name = (codes "g1"); hosts = ((codes "a") ∷ (codes "b") ∷ []) } ∷ record { name = (codes "g2"); hosts = ((codes "b") ∷ []) } ∷ record { name = (codes "ungrouped"); hosts = ([]) } ∷ []) })
inventory_145 = refl

inventory_146 : inventory_from (rec (field (codes "_meta") (rec (field (codes "hostvars") (rec (field (codes "a") (rec (field (codes "i2") (int (pos 0)) (no_fields))) (field (codes "b") (rec (field (codes "i1") (text ([])) (no_fields))) (field (codes "c") (rec (field (codes "op") opaque (no_fields))) (no_fields))))) (no_fields))) (field (codes "all") (rec (field (codes "hosts") (list (item (text (codes "a")) (item (text (codes "b")) (item (text (codes "c")) (no_items))))) (field (codes "vars") (rec (field (codes "i2") (boolean false) (field (codes "op") opaque (no_fields)))) (no_fields)))) (field (codes "g2") (rec (field (codes "hosts") (list (item (text (codes "a")) (item (text (codes "b")) (item (text (codes "c")) (no_items))))) (field (codes "vars") (rec (field (codes "i1") (text (codes "no")) (field (codes "i2") (int (negsuc 0)) (field (codes "op") opaque (no_fields))))) (no_fields)))) (no_fields))))) ≡ Ok (record { hosts = (record { name = (codes "a"); variables = (field (codes "i1") (text (codes "no")) (field (codes "i2") (int (pos 0)) (field (codes "op") opaque (no_fields)))) } ∷ record { name = (codes "b"); variables = (field (codes "i1") (text ([])) (field (codes "i2") (int (negsuc 0)) (field (codes "op") opaque (no_fields)))) } ∷ record { name = (codes "c"); variables = (field (codes "i1") (text (codes "no")) (field (codes "i2") (int (negsuc 0)) (field (codes "op") opaque (no_fields)))) } ∷ []); groups = (record { name = (codes "all"); hosts = ((codes "a") ∷ (codes "b") ∷ (codes "c") ∷ []) } ∷ record { name = (codes "g2"); hosts = ((codes "a") ∷ (codes "b") ∷ (codes "c") ∷ []) } ∷ record { name = (codes "ungrouped"); hosts = ([]) } ∷ []) })
inventory_146 = refl

inventory_147 : inventory_from (rec (field (codes "_meta") (rec (field (codes "hostvars") (rec (field (codes "a") (rec (field (codes "i2") (int (pos 0)) (no_fields))) (field (codes "b") (rec (field (codes "i1") (text (codes "b")) (no_fields))) (no_fields)))) (no_fields))) (field (codes "all") (rec (field (codes "hosts") (list (item (text (codes "a")) (item (text (codes "b")) (no_items)))) (field (codes "vars") (rec (field (codes "op") opaque (no_fields))) (no_fields)))) (field (codes "g1") (rec (field (codes "hosts") (list (item (text (codes "b")) (no_items))) (field (codes "vars") (rec (no_fields)) (no_fields)))) (no_fields))))) ≡ Ok (record { hosts = (record { name = (codes "a"); variables = (field (codes "i2") (int (pos 0)) (field (codes "op") opaque (no_fields))) } ∷ record { name = (codes "b"); variables = (field (codes "i1") (text (codes "b")) (field (codes "op") opaque (no_fields))) } ∷ []); groups = (record { name = (codes "all"); hosts = ((codes "a") ∷ (codes "b") ∷ []) } ∷ record { name = (codes "g1"); hosts = ((codes "b") ∷ []) } ∷ record { name = (codes "ungrouped"); hosts = ((codes "a") ∷ []) } ∷ []) })
inventory_147 = refl

inventory_148 : inventory_from (rec (field (codes "_meta") (rec (field (codes "hostvars") (rec (field (codes "a") (rec (field (codes "i2") (int (pos 0)) (no_fields))) (field (codes "b") (rec (field (codes "s1") (text ([])) (no_fields))) (no_fields)))) (no_fields))) (field (codes "all") (rec (field (codes "hosts") (list (item (text (codes "a")) (item (text (codes "b")) (no_items)))) (field (codes "vars") (rec (field (codes "s1") (int (pos 0)) (no_fields))) (no_fields)))) (field (codes "g1") (rec (field (codes "hosts") (list (item (text (codes "a")) (item (text (codes "b")) (no_items)))) (field (codes "vars") (rec (field (codes "i1") (list (item (boolean true) (item (text (codes "no")) (no_items)))) (field (codes "s1") (text (codes "b")) (no_fields)))) (no_fields)))) (no_fields))))) ≡ Ok (record { hosts = (record { name = (codes "a"); variables = (field (codes "i1") (list (item (boolean true) (item (text (codes "no")) (no_items)))) (field (codes "i2") (int (pos 0)) (field (codes "s1") (text (codes "b")) (no_fields)))) } ∷ record { name = (codes "b"); variables = (field (codes "i1") (list (item (boolean true) (item (text (codes "no")) (no_items)))) (field (codes "s1") (text ([])) (no_fields))) } ∷ []); groups = (record { name = (codes "all"); hosts = ((codes "a") ∷ (codes "b") ∷ []) } ∷ record { name = (codes "g1"); hosts = ((codes "a") ∷ (codes "b") ∷ []) } ∷ record { name = (codes "ungrouped"); hosts = ([]) } ∷ []) })
inventory_148 = refl

inventory_149 : inventory_from (rec (field (codes "_meta") (rec (field (codes "hostvars") (rec (field (codes "a") (rec (field (codes "i2") (int (pos 0)) (no_fields))) (field (codes "b") (rec (no_fields)) (field (codes "c") (rec (no_fields)) (no_fields))))) (no_fields))) (field (codes "all") (rec (field (codes "hosts") (list (item (text (codes "a")) (item (text (codes "b")) (item (text (codes "c")) (no_items))))) (field (codes "vars") (rec (no_fields)) (no_fields)))) (field (codes "g1") (rec (field (codes "hosts") (list (item (text (codes "a")) (no_items))) (field (codes "vars") (rec (field (codes "i2") (text (codes "x")) (field (codes "s1") (list (no_items)) (no_fields)))) (no_fields)))) (field (codes "g2") (rec (field (codes "hosts") (list (item (text (codes "a")) (item (text (codes "c")) (no_items)))) (field (codes "vars") (rec (no_fields)) (no_fields)))) (no_fields)))))) ≡ Ok (record { hosts = (record { name = (codes "a"); variables = (field (codes "i2") (int (pos 0)) (field (codes "s1") (list (no_items)) (no_fields))) } ∷ record { name = (codes "b"); variables = (no_fields) } ∷ record { name = (codes "c"); variables = (no_fields) } ∷ []); groups = (record { name = (codes "all"); hosts = ((codes "a") ∷ (codes "b") ∷ (codes "c") ∷ []) } ∷ record { name = (codes "g1"); hosts = ((codes "a") ∷ []) } ∷ record { name = (codes "g2"); hosts = ((codes "a") ∷ (codes "c") ∷ []) } ∷ record { name = (codes "ungrouped"); hosts = ((codes "b") ∷ []) } ∷ []) })
inventory_149 = refl

inventory_150 : inventory_from (rec (field (codes "_meta") (rec (field (codes "hostvars") (rec (field (codes "a") (rec (field (codes "i2") (int (pos 0)) (no_fields))) (no_fields))) (no_fields))) (field (codes "all") (rec (field (codes "hosts") (list (item (text (codes "a")) (no_items))) (field (codes "vars") (rec (field (codes "i2") (int (pos 1)) (no_fields))) (no_fields)))) (field (codes "g1") (rec (field (codes "hosts") (list (item (text (codes "a")) (no_items))) (field (codes "vars") (rec (field (codes "s1") (list (no_items)) (no_fields))) (no_fields)))) (no_fields))))) ≡ Ok (record { hosts = (record { name = (codes "a"); variables = (field (codes "i2") (int (pos 0)) (field (codes "s1") (list (no_items)) (no_fields))) } ∷ []); groups = (record { name = (codes "all"); hosts = ((codes "a") ∷ []) } ∷ record { name = (codes "g1"); hosts = ((codes "a") ∷ []) } ∷ record { name = (codes "ungrouped"); hosts = ([]) } ∷ []) })
inventory_150 = refl

inventory_151 : inventory_from (rec (field (codes "_meta") (rec (field (codes "hostvars") (rec (field (codes "a") (rec (field (codes "i2") (int (pos 0)) (no_fields))) (no_fields))) (no_fields))) (field (codes "all") (rec (field (codes "hosts") (list (item (text (codes "a")) (no_items))) (field (codes "vars") (rec (no_fields)) (no_fields)))) (field (codes "g1") (rec (field (codes "hosts") (list (no_items)) (field (codes "vars") (rec (no_fields)) (no_fields)))) (no_fields))))) ≡ Ok (record { hosts = (record { name = (codes "a"); variables = (field (codes "i2") (int (pos 0)) (no_fields)) } ∷ []); groups = (record { name = (codes "all"); hosts = ((codes "a") ∷ []) } ∷ record { name = (codes "g1"); hosts = ([]) } ∷ record { name = (codes "ungrouped"); hosts = ((codes "a") ∷ []) } ∷ []) })
inventory_151 = refl

inventory_152 : inventory_from (rec (field (codes "_meta") (rec (field (codes "hostvars") (rec (field (codes "a") (rec (field (codes "i2") (int (pos 1)) (field (codes "op") opaque (field (codes "s1") (rec (field (codes "f") (list (item null (item (boolean true) (no_items)))) (field (codes "g") (list (item (text (codes "no")) (item (int (pos 2)) (no_items)))) (no_fields)))) (no_fields))))) (field (codes "b") (rec (field (codes "op") opaque (field (codes "s1") (text (codes "t")) (no_fields)))) (field (codes "c") (rec (field (codes "i2") (boolean false) (no_fields))) (no_fields))))) (no_fields))) (field (codes "all") (rec (field (codes "hosts") (list (item (text (codes "a")) (item (text (codes "b")) (item (text (codes "c")) (no_items))))) (field (codes "vars") (rec (field (codes "i1") (boolean true) (field (codes "op") opaque (no_fields)))) (no_fields)))) (field (codes "g1") (rec (field (codes "hosts") (list (item (text (codes "b")) (item (text (codes "c")) (no_items)))) (field (codes "vars") (rec (field (codes "s1") (list (item (text (codes "x")) (item (int (pos 1)) (no_items)))) (no_fields))) (no_fields)))) (no_fields))))) ≡ Ok (record { hosts = (record { name = (codes "a"); variables = (field (codes "i1") (boolean true) (field (codes "i2") (int (pos 1)) (field (codes "op") opaque (field (codes "s1") (rec (field (codes "f") (list (item null (item (boolean true) (no_items)))) (field (codes "g") (list (item (text (codes "no")) (item (int (pos 2)) (no_items)))) (no_fields)))) (no_fields))))) } ∷ record { name = (codes "b"); variables = (field (codes "i1") (boolean true) (field (codes "op") opaque (field (codes "s1") (text (codes "t")) (no_fields)))) } ∷ record { name = (codes "c"); variables = (field (codes "i1") (boolean true) (field (codes "i2") (boolean false) (field (codes "op") opaque (field (codes "s1") (list (item (text (codes "x")) (item (int (pos 1)) (no_items)))) (no_fields))))) } ∷ []); groups = (record { name = (codes "all"); hosts = ((codes "a") ∷ (codes "b") ∷ (codes "c") ∷ []) } ∷ record { name = (codes "g1"); hosts = ((codes "b") ∷ (codes "c") ∷ []) } ∷ record { name = (codes "ungrouped"); hosts = ((codes "a") ∷ []) } ∷ []) })
inventory_152 = refl

inventory_153 : inventory_from (rec (field (codes "_meta") (rec (field (codes "hostvars") (rec (field (codes "a") (rec (field (codes "i2") (int (pos 1)) (field (codes "op") opaque (no_fields)))) (field (codes "b") (rec (field (codes "i2") (list (no_items)) (no_fields))) (field (codes "c") (rec (field (codes "op") opaque (field (codes "s1") (int (pos 3)) (no_fields)))) (field (codes "d") (rec (field (codes "i1") (text ([])) (field (codes "op") opaque (no_fields)))) (no_fields)))))) (no_fields))) (field (codes "all") (rec (field (codes "hosts") (list (item (text (codes "a")) (item (text (codes "b")) (item (text (codes "c")) (item (text (codes "d")) (no_items)))))) (field (codes "vars") (rec (no_fields)) (no_fields)))) (field (codes "g1") (rec (field (codes "hosts") (list (item (text (codes "b")) (item (text (codes "c")) (item (text (codes "d")) (no_items))))) (field (codes "vars") (rec (no_fields)) (no_fields)))) (field (codes "g2") (rec (field (codes "hosts") (list (item (text (codes "a")) (item (text (codes "b")) (item (text (codes "c")) (no_items))))) (field (codes "vars") (rec (field (codes "op") opaque (field (codes "s1") (int (pos 1)) (no_fields)))) (no_fields)))) (no_fields)))))) ≡ Ok (record { hosts = (record { name = (codes "a"); variables = (field (codes "i2") (int (pos 1)) (field (codes "op") opaque (field (codes "s1") (int (pos 1)) (no_fields)))) } ∷ record { name = (codes "b"); variables = (field (codes "i2") (list (no_items)) (field (codes "op") opaque (field (codes "s1") (int (pos 1)) (no_fields)))) } ∷ record { name = (codes "c"); variables = (field (codes "op") opaque (field (codes "s1") (int (pos 3)) (no_fields))) } ∷ record { name = (codes "d"); variables = (field (codes "i1") (text ([])) (field (codes "op") opaque (no_fields))) } ∷ []); groups = (record { name = (codes "all"); hosts = ((codes "a") ∷ (codes "b") ∷ (codes "c") ∷ (codes "d") ∷ []) } ∷ record { name = (codes "g1"); hosts = ((codes "b") ∷ (codes "c") ∷ (codes "d") ∷ []) } ∷ record { name = (codes "g2"); hosts = ((codes "a") ∷ (codes "b") ∷ (codes "c") ∷ []) } ∷ record { name = (codes "ungrouped"); hosts = ([]) } ∷ []) })
inventory_153 = refl

inventory_154 : inventory_from (rec (field (codes "_meta") (rec (field (codes "hostvars") (rec (field (codes "a") (rec (field (codes "i2") (int (pos 1)) (field (codes "op") opaque (no_fields)))) (field (codes "b") (rec (field (codes "i2") (text (codes "t")) (no_fields))) (field (codes "c") (rec (no_fields)) (field (codes "d") (rec (field (codes "i1") (text ([])) (no_fields))) (no_fields)))))) (no_fields))) (field (codes "all") (rec (field (codes "hosts") (list (item (text (codes "a")) (item (text (codes "b")) (item (text (codes "c")) (item (text (codes "d")) (no_items)))))) (field (codes "vars") (rec (field (codes "i1") (text (codes "t")) (field (codes "s1") (list (item (boolean true) (item (text (codes "no")) (no_items)))) (no_fields)))) (no_fields)))) (field (codes "g1") (rec (field (codes "hosts") (list (item (text (codes "a")) (item (text (codes "b")) (item (text (codes "d")) (no_items))))) (field (codes "vars") (rec (no_fields)) (no_fields)))) (field (codes "g2") (rec (field (codes "hosts") (list (item (text (codes "a")) (item (text (codes "d")) (no_items)))) (field (codes "vars") (rec (field (codes "op") opaque (no_fields))) (no_fields)))) (no_fields)))))) ≡ Ok (record { hosts = (record { name = (codes "a"); variables = (field (codes "i1") (text (codes "t")) (field (codes "i2") (int (pos 1)) (field (codes "op") opaque (field (codes "s1") (list (item (boolean true) (item (text (codes "no")) (no_items)))) (no_fields))))) } ∷ record { name = (codes "b"); variables = (field (codes "i1") (text (codes "t")) (field (codes "i2") (text (codes "t")) (field (codes "s1") (list (item (boolean true) (item (text (codes "no")) (no_items)))) (no_fields)))) } ∷ record { name = (codes "c"); variables = (field (codes "i1") (text (codes "t")) (field (codes "s1") (list (item (boolean true) (item (text (codes "no")) (no_items)))) (no_fields))) } ∷ record { name = (codes "d"); variables = (field (codes "i1") (text ([])) (field (codes "op") opaque (field (codes "s1") (list (item (boolean true) (item (text (codes "no")) (no_items)))) (no_fields)))) } ∷ []); groups = (record { name = (codes "all"); hosts = ((codes "a") ∷ (codes "b") ∷ (codes "c") ∷ (codes "d") ∷ []) } ∷ record { name = (codes "g1"); hosts = ((codes "a") ∷ (codes "b") ∷ (codes "d") ∷ []) } ∷ record { name = (codes "g2"); hosts = ((codes "a") ∷ (codes "d") ∷ []) } ∷ record { name = (codes "ungrouped"); hosts = ((codes "c") ∷ []) } ∷ []) })
inventory_154 = refl

inventory_155 : inventory_from (rec (field (codes "_meta") (rec (field (codes "hostvars") (rec (field (codes "a") (rec (field (codes "i2") (int (pos 1)) (field (codes "op") opaque (no_fields)))) (no_fields))) (no_fields))) (field (codes "all") (rec (field (codes "hosts") (list (item (text (codes "a")) (no_items))) (field (codes "vars") (rec (no_fields)) (no_fields)))) (no_fields)))) ≡ Ok (record { hosts = (record { name = (codes "a"); variables = (field (codes "i2") (int (pos 1)) (field (codes "op") opaque (no_fields))) } ∷ []); groups = (record { name = (codes "all"); hosts = ((codes "a") ∷ []) } ∷ record { name = (codes "ungrouped"); hosts = ((codes "a") ∷ []) } ∷ []) })
inventory_155 = refl

inventory_156 : inventory_from (rec (field (codes "_meta") (rec (field (codes "hostvars") (rec (field (codes "a") (rec (field (codes "i2") (int (pos 1)) (field (codes "s1") (text (codes "b")) (no_fields)))) (no_fields))) (no_fields))) (field (codes "all") (rec (field (codes "hosts") (list (item (text (codes "a")) (no_items))) (field (codes "vars") (rec (field (codes "i1") (boolean true) (field (codes "op") opaque (no_fields)))) (no_fields)))) (field (codes "g2") (rec (field (codes "hosts") (list (no_items)) (field (codes "vars") (rec (no_fields)) (no_fields)))) (no_fields))))) ≡ Ok (record { hosts = (record { name = (codes "a"); variables = (field (codes "i1") (boolean true) (field (codes "i2") (int (pos 1)) (field (codes "op") opaque (field (codes "s1") (text (codes "b")) (no_fields))))) } ∷ []); groups = (record { name = (codes "all"); hosts = ((codes "a") ∷ []) } ∷ record { name = (codes "g2"); hosts = ([]) } ∷ record { name = (codes "ungrouped"); hosts = ((codes "a") ∷ []) } ∷ []) })
inventory_156 = refl

inventory_157 : inventory_from (rec (field (codes "_meta") (rec (field (codes "hostvars") (rec (field (codes "a") (rec (field (codes "i2") (int (pos 1)) (field (codes "s1") (text (codes "t")) (no_fields)))) (field (codes "b") (rec (no_fields)) (no_fields)))) (no_fields))) (field (codes "all") (rec (field (codes "hosts") (list (item (text (codes "a")) (item (text (codes "b")) (no_items)))) (field (codes "vars") (rec (field (codes "op") opaque (no_fields))) (no_fields)))) (field (codes "g1") (rec (field (codes "children") (list (item (text (codes "g2")) (no_items))) (field (codes "hosts") (list (no_items)) (field (codes "vars") (rec (field (codes "i1") (rec (field (codes "f") (boolean false) (field (codes "g") (rec (field (codes "g") (text (codes "a")) (no_fields))) (no_fields)))) (field (codes "i2") (list (item (text ([])) (no_items))) (no_fields)))) (no_fields))))) (field (codes "g2") (rec (field (codes "hosts") (list (item (text (codes "a")) (no_items))) (field (codes "vars") (rec (field (codes "i1") (rec (field (codes "f") (rec (field (codes "g") (boolean false) (no_fields))) (field (codes "g") (list (item (int (negsuc 0)) (no_items))) (no_fields)))) (no_fields))) (no_fields)))) (no_fields)))))) ≡ Ok (record { hosts = (record { name = (codes "a"); variables = (field (codes "i1") (rec (field (codes "f") (rec (field (codes "g") (boolean false) (no_fields))) (field (codes "g") (list (item (int (negsuc 0)) (no_items))) (no_fields)))) (field (codes "i2") (int (pos 1)) (field (codes "op") opaque (field (codes "s1") (text (codes "t")) (no_fields))))) } ∷ record { name = (codes "b"); variables = (field (codes "op") opaque (no_fields)) } ∷ []); groups = (record { name = (codes "all"); hosts = ((codes "a") ∷ (codes "b") ∷ []) } ∷ record { name = (codes "g1"); hosts = ((codes "a") ∷ []) } ∷ record { name = (codes "g2"); hosts = ((codes "a") ∷ []) } ∷ record { name = (codes "ungrouped"); hosts = ((codes "b") ∷ []) } ∷ []) })
inventory_157 = refl

inventory_158 : inventory_from (rec (field (codes "_meta") (rec (field (codes "hostvars") (rec (field (codes "a") (rec (field (codes "i2") (int (pos 1)) (no_fields))) (field (codes "b") (rec (field (codes "i1") (list (item (int (pos 1)) (item (text (codes "no")) (no_items)))) (field (codes "op") opaque (no_fields)))) (no_fields)))) (no_fields))) (field (codes "all") (rec (field (codes "hosts") (list (item (text (codes "a")) (item (text (codes "b")) (no_items)))) (field (codes "vars") (rec (no_fields)) (no_fields)))) (field (codes "g1") (rec (field (codes "children") (list (item (text (codes "g2")) (no_items))) (field (codes "hosts") (list (item (text (codes "a")) (no_items))) (field (codes "vars") (rec (field (codes "i2") (boolean true) (no_fields))) (no_fields))))) (field (codes "g2") (rec (field (codes "hosts") (list (item (text (codes "a")) (item (text (codes "b")) (no_items)))) (field (codes "vars") (rec (no_fields)) (no_fields)))) (no_fields)))))) ≡ Ok (record { hosts = (record { name = (codes "a"); variables = (field (codes "i2") (int (pos 1)) (no_fields)) } ∷ record { name = (codes "b"); variables = (field (codes "i1") (list (item (int (pos 1)) (item (text (codes "no")) (no_items)))) (field (codes "i2") (boolean true) (field (codes "op") opaque (no_fields)))) } ∷ []); groups = (record { name = (codes "all"); hosts = ((codes "a") ∷ (codes "b") ∷ []) } ∷ record { name = (codes "g1"); hosts = ((codes "a") ∷ (codes "b") ∷ []) } ∷ record { name = (codes "g2"); hosts = ((codes "a") ∷ (codes "b") ∷ []) } ∷ record { name = (codes "ungrouped"); hosts = ([]) } ∷ []) })
inventory_158 = refl

inventory_159 : inventory_from (rec (field (codes "_meta") (rec (field (codes "hostvars") (rec (field (codes "a") (rec (field (codes "i2") (int (pos 1)) (no_fields))) (field (codes "b") (rec (no_fields)) (field (codes "c") (rec (field (codes "i1") (rec (field (codes "f") (rec (field (codes "g") (text (codes "no")) (no_fields))) (no_fields))) (field (codes "op") opaque (no_fields)))) (no_fields))))) (no_fields))) (field (codes "all") (rec (field (codes "hosts") (list (item (text (codes "a")) (item (text (codes "b")) (item (text (codes "c")) (no_items))))) (field (codes "vars") (rec (field (codes "i1") (int (pos 1)) (field (codes "i2") (text (codes "no")) (field (codes "s1") (list (item (text (codes "no")) (no_items))) (no_fields))))) (no_fields)))) (field (codes "g2") (rec (field (codes "hosts") (list (item (text (codes "c")) (no_items))) (field (codes "vars") (rec (field (codes "s1") (list (item (boolean false) (item (text (codes "b")) (no_items)))) (no_fields))) (no_fields)))) (no_fields))))) ≡ Ok (record { hosts = (record { name = (codes "a"); variables = (field (codes "i1") (int (pos 1)) (field (codes "i2") (int (pos 1)) (field (codes "s1") (list (item (text (codes "no")) (no_items))) (no_fields)))) } ∷ record { name = (codes "b"); variables = (field (codes "i1") (int (pos 1)) (field (codes "i2") (text (codes "no")) (field (codes "s1") (list (item (text (codes "no")) (no_items))) (no_fields)))) } ∷ record { name = (codes "c"); variables = (field (codes "i1") (rec (field (codes "f") (rec (field (codes "g") (text (codes "no")) (no_fields))) (no_fields))) (field (codes "i2") (text (codes "no")) (field (codes "op") opaque (field (codes "s1") (list (item (boolean false) (item (text (codes "b")) (no_items)))) (no_fields))))) } ∷ []); groups = (record { name = (codes "all"); hosts = ((codes "a") ∷ (codes "b") ∷ (codes "c") ∷ []) } ∷ record { name = (codes "g2"); hosts = ((codes "c") ∷ []) } ∷ record { name = (codes "ungrouped"); hosts = ((codes "a") ∷ (codes "b") ∷ []) } ∷ []) })
inventory_159 = refl

inventory_160 : inventory_from (rec (field (codes "_meta") (rec (field (codes "hostvars") (rec (field (codes "a") (rec (field (codes "i2") (int (pos 1)) (no_fields))) (no_fields))) (no_fields))) (field (codes "all") (rec (field (codes "hosts") (list (item (text (codes "a")) (no_items))) (field (codes "vars") (rec (field (codes "s1") (text (codes "t")) (no_fields))) (no_fields)))) (field (codes "g1") (rec (field (codes "hosts") (list (item (text (codes "a")) (no_items))) (field (codes "vars") (rec (field (codes "s1") (text (codes "t")) (no_fields))) (no_fields)))) (field (codes "g2") (rec (field (codes "hosts") (list (no_items)) (field (codes "vars") (rec (no_fields)) (no_fields)))) (no_fields)))))) ≡ Ok (record { hosts = (record { name = (codes "a"); variables = (field (codes "i2") (int (pos 1)) (field (codes "s1") (text (codes "t")) (no_fields))) } ∷ []); groups = (record { name = (codes "all"); hosts = ((codes "a") ∷ []) } ∷ record { name = (codes "g1"); hosts = ((codes "a") ∷ []) } ∷ record { name = (codes "g2"); hosts = ([]) } ∷ record { name = (codes "ungrouped"); hosts = ([]) } ∷ []) })
inventory_160 = refl

inventory_161 : inventory_from (rec (field (codes "_meta") (rec (field (codes "hostvars") (rec (field (codes "a") (rec (field (codes "i2") (int (pos 2)) (field (codes "op") opaque (no_fields)))) (field (codes "b") (rec (no_fields)) (field (codes "c") (rec (field (codes "i1") (list (item (int (pos 1)) (item (text (codes "x")) (no_items)))) (no_fields))) (no_fields))))) (no_fields))) (field (codes "all") (rec (field (codes "hosts") (list (item (text (codes "a")) (item (text (codes "b")) (item (text (codes "c")) (no_items))))) (field (codes "vars") (rec (field (codes "op") opaque (no_fields))) (no_fields)))) (field (codes "g2") (rec (field (codes "hosts") (list (item (text (codes "a")) (item (text (codes "c")) (no_items)))) (field (codes "vars") (rec (no_fields)) (no_fields)))) (no_fields))))) ≡ Ok (record { hosts = (record { name = (codes "a"); variables = (field (codes "i2") (int (pos 2)) (field (codes "op") opaque (no_fields))) } ∷ record { name = (codes "b"); variables = (field (codes "op") opaque (no_fields)) } ∷ record { name = (codes "c"); variables = (field (codes "i1") (list (item (int (pos 1)) (item (text (codes "x")) (no_items)))) (field (codes "op") opaque (no_fields))) } ∷ []); groups = (record { name = (codes "all"); hosts = ((codes "a") ∷ (codes "b") ∷ (codes "c") ∷ []) } ∷ record { name = (codes "g2"); hosts = ((codes "a") ∷ (codes "c") ∷ []) } ∷ record { name = (codes "ungrouped"); hosts = ((codes "b") ∷ []) } ∷ []) })
inventory_161 = refl

inventory_162 : inventory_from (rec (field (codes "_meta") (rec (field (codes "hostvars") (rec (field (codes "a") (rec (field (codes "i2") (int (pos 2)) (no_fields))) (no_fields))) (no_fields))) (field (codes "all") (rec (field (codes "hosts") (list (item (text (codes "a")) (no_items))) (field (codes "vars") (rec (no_fields)) (no_fields)))) (field (codes "g1") (rec (field (codes "children") (list (item (text (codes "g2")) (no_items))) (field (codes "hosts") (list (item (text (codes "a")) (no_items))) (field (codes "vars") (rec (no_fields)) (no_fields))))) (field (codes "g2") (rec (field (codes "hosts") (list (no_items)) (field (codes "vars") (rec (field (codes "i2") (boolean true) (no_fields))) (no_fields)))) (no_fields)))))) ≡ Ok (record { hosts = (record { name = (codes "a"); variables = (field (codes "i2") (int (pos 2)) (no_fields)) } ∷ []); groups = (record { name = (codes "all"); hosts = ((codes "a") ∷ []) } ∷ record { name = (codes "g1"); hosts = ((codes "a") ∷ []) } ∷ record { name = (codes "g2"); hosts = ([]) } ∷ record { name = (codes "ungrouped"); hosts = ([]) } ∷ []) })
inventory_162 = refl

inventory_163 : inventory_from (rec (field (codes "_meta") (rec (field (codes "hostvars") (rec (field (codes "a") (rec (field (codes "i2") (int (pos 3)) (no_fields))) (no_fields))) (no_fields))) (field (codes "all") (rec (field (codes "hosts") (list (item (text (codes "a")) (no_items))) (field (codes "vars") (rec (field (codes "i1") (rec (field (codes "f") (boolean false) (no_fields))) (field (codes "i2") (list (no_items)) (field (codes "op") opaque (no_fields))))) (no_fields)))) (field (codes "g1") (rec (field (codes "hosts") (list (no_items)) (field (codes "vars") (rec (field (codes "i2") (rec (field (codes "f") (text ([])) (field (codes "g") (text (codes "x")) (no_fields)))) (no_fields))) (no_fields)))) (no_fields))))) ≡ Ok (record { hosts = (record { name = (codes "a"); variables = (field (codes "i1") (rec (field (codes "f") (boolean false) (no_fields))) (field (codes "i2") (int (pos 3)) (field (codes "op") opaque (no_fields)))) } ∷ []); groups = (record { name = (codes "all"); hosts = ((codes "a") ∷ []) } ∷ record { name = (codes "g1"); hosts = ([]) } ∷ record { name = (codes "ungrouped"); hosts = ((codes "a") ∷ []) } ∷ []) })
inventory_163 = refl

inventory_164 : inventory_from (rec (field (codes "_meta") (rec (field (codes "hostvars") (rec (field (codes "a") (rec (field (codes "i2") (int (pos 3)) (no_fields))) (no_fields))) (no_fields))) (field (codes "all") (rec (field (codes "hosts") (list (item (text (codes "a")) (no_items))) (field (codes "vars") (rec (field (codes "i1") (text (codes "b")) (field (codes "i2") (rec (field (codes "f") (text (codes "no")) (field (codes "g") (boolean false) (no_fields)))) (no_fields)))) (no_fields)))) (field (codes "g2") (rec (field (codes "hosts") (list (no_items)) (field (codes "vars") (rec (field (codes "i1") (list (item (text ([])) (no_items))) (field (codes "i2") (int (pos 0)) (field (codes "s1") (text ([])) (no_fields))))) (no_fields)))) (no_fields))))) ≡ Ok (record { hosts = (record { name = (codes "a"); variables = (field (codes "i1") (text (codes "b")) (field (codes "i2") (int (pos 3)) (no_fields))) } ∷ []); groups = (record { name = (codes "all"); hosts = ((codes "a") ∷ []) } ∷ record { name = (codes "g2"); hosts = ([]) } ∷ record { name = (codes "ungrouped"); hosts = ((codes "a") ∷ []) } ∷ []) })
inventory_164 = refl

inventory_165 : inventory_from (rec (field (codes "_meta") (rec (field (codes "hostvars") (rec (field (codes "a") (rec (field (codes "i2") (list (item (boolean false) (no_items))) (field (codes "op") opaque (no_fields)))) (no_fields))) (no_fields))) (field (codes "all") (rec (field (codes "hosts") (list (item (text (codes "a")) (no_items))) (field (codes "vars") (rec (field (codes "s1") (list (item (text (codes "b")) (no_items))) (no_fields))) (no_fields)))) (field (codes "g1") (rec (field (codes "hosts") (list (item (text (codes "a")) (no_items))) (field (codes "vars") (rec (field (codes "op") opaque (no_fields))) (no_fields)))) (field (codes "g2") (rec (field (codes "hosts") (list (no_items)) (field (codes "vars") (rec (field (codes "i2") (list (no_items)) (no_fields))) (no_fields)))) (no_fields)))))) ≡ Ok (record { hosts = (record { name = (codes "a"); variables = (field (codes "i2") (list (item (boolean false) (no_items))) (field (codes "op") opaque (field (codes "s1") (list (item (text (codes "b")) (no_items))) (no_fields)))) } ∷ []); groups = (record { name = (codes "all"); hosts = ((codes "a") ∷ []) } ∷ record { name = (codes "g1"); hosts = ((codes "a") ∷ []) } ∷ record { name = (codes "g2"); hosts = ([]) } ∷ record { name = (codes "ungrouped"); hosts = ([]) } ∷ []) })
inventory_165 = refl

inventory_166 : inventory_from (rec (field (codes "_meta") (rec (field (codes "hostvars") (rec (field (codes "a") (rec (field (codes "i2") (list (item (boolean true) (no_items))) (no_fields))) (field (codes "b") (rec (field (codes "i2") (int (pos 0)) (field (codes "s1") null (no_fields)))) (no_fields)))) (no_fields))) (field (codes "all") (rec (field (codes "hosts") (list (item (text (codes "a")) (item (text (codes "b")) (no_items)))) (field (codes "vars") (rec (field (codes "op") opaque (no_fields))) (no_fields)))) (field (codes "g1") (rec (field (codes "hosts") (list (no_items)) (field (codes "vars") (rec (field (codes "op") opaque (no_fields))) (no_fields)))) (field (codes "g2") (rec (field (codes "hosts") (list (item (text (codes "a")) (no_items))) (field (codes "vars") (rec (field (codes "i1") (list (item (text (codes "b")) (no_items))) (no_fields))) (no_fields)))) (no_fields)))))) ≡ Ok (record { hosts = (record { name = (codes "a"); variables = (field (codes "i1") (list (item (text (codes "b")) (no_items))) (field (codes "i2") (list (item (boolean true) (no_items))) (field (codes "op") opaque (no_fields)))) } ∷ record { name = (codes "b"); variables = (field (codes "i2") (int (pos 0)) (field (codes "op") opaque (field (codes "s1") null (no_fields)))) } ∷ []); groups = (record { name = (codes "all"); hosts = ((codes "a") ∷ (codes "b") ∷ []) } ∷ record { name = (codes "g1"); hosts = ([]) } ∷ record { name = (codes "g2"); hosts = ((codes "a") ∷ []) } ∷ record { name = (codes "ungrouped"); hosts = ((codes "b") ∷ []) } ∷ []) })
inventory_166 = refl

inventory_167 : inventory_from (rec (field (codes "_meta") (rec (field (codes "hostvars") (rec (field (codes "a") (rec (field (codes "i2") (list (item (boolean true) (no_items))) (no_fields))) (no_fields))) (no_fields))) (field (codes "all") (rec (field (codes "hosts") (list (item (text (codes "a")) (no_items))) (field (codes "vars") (rec (field (codes "op") opaque (no_fields))) (no_fields)))) (field (codes "g1") (rec (field (codes "hosts") (list (no_items)) (field (codes "vars") (rec (field (codes "i1") (int (pos 1)) (field (codes "op") opaque (field (codes "s1") (list (no_items)) (no_fields))))) (no_fields)))) (field (codes "g2") (rec (field (codes "hosts") (list (no_items)) (field (codes "vars") (rec (field (codes "i2") (rec (field (codes "f") (text (codes "x")) (no_fields))) (field (codes "op") opaque (no_fields)))) (no_fields)))) (no_fields)))))) ≡ Ok (record { hosts = (record { name = (codes "a"); variables = (field (codes "i2") (list (item (boolean true) (no_items))) (field (codes "op") opaque (no_fields))) } ∷ []); groups = (record { name = (codes "all"); hosts = ((codes "a") ∷ []) } ∷ record { name = (codes "g1"); hosts = ([]) } ∷ record { name = (codes "g2"); hosts = ([]) } ∷ record { name = (codes "ungrouped"); hosts = ((codes "a") ∷ []) } ∷ []) })
inventory_167 = refl

inventory_168 : inventory_from (rec (field (codes "_meta") (rec (field (codes "hostvars") (rec (field (codes "a") (rec (field (codes "i2") (list (item (int (negsuc 0)) (item (text ([])) (no_items)))) (no_fields))) (field (codes "b") (rec (field (codes "op") opaque (field (codes "s1") (int (pos 3)) (no_fields)))) (no_fields)))) (no_fields))) (field (codes "all") (rec (field (codes "hosts") (list (item (text (codes "a")) (item (text (codes "b")) (no_items)))) (field (codes "vars") (rec (field (codes "i2") (boolean false) (no_fields))) (no_fields)))) (field (codes "g1") (rec (field (codes "hosts") (list (no_items)) (field (codes "vars") (rec (no_fields)) (no_fields)))) (no_fields))))) ≡ Ok (record { hosts = (record { name = (codes "a"); variables = (field (codes "i2") (list (item (int (negsuc 0)) (item (text ([])) (no_items)))) (no_fields)) } ∷ record { name = (codes "b"); variables = (field (codes "i2") (boolean false) (field (codes "op") opaque (field (codes "s1") (int (pos 3)) (no_fields)))) } ∷ []); groups = (record { name = (codes "all"); hosts = ((codes "a") ∷ (codes "b") ∷ []) } ∷ record { name = (codes "g1"); hosts = ([]) } ∷ record { name = (codes "ungrouped"); hosts = ((codes "a") ∷ (codes "b") ∷ []) } ∷ []) })
inventory_168 = refl

inventory_169 : inventory_from (rec (field (codes "_meta") (rec (field (codes "hostvars") (rec (field (codes "a") (rec (field (codes "i2") (list (item (int (pos 0)) (no_items))) (field (codes "s1") (rec (field (codes "f") (text (codes "a")) (field (codes "g") (text (codes "a")) (no_fields)))) (no_fields)))) (field (codes "b") (rec (field (codes "i2") (rec (field (codes "f") (int (pos 1)) (no_fields))) (field (codes "s1") (text (codes "t")) (no_fields)))) (field (codes "c") (rec (field (codes "s1") (text (codes "b")) (no_fields))) (field (codes "d") (rec (field (codes "op") opaque (no_fields))) (no_fields)))))) (no_fields))) (field (codes "all") (rec (field (codes "hosts") (list (item (text (codes "a")) (item (text (codes "b")) (item (text (codes "c")) (item (text (codes "d")) (no_items)))))) (field (codes "vars") (rec (field (codes "s1") (text (codes "no")) (no_fields))) (no_fields)))) (field (codes "g1") (rec (field (codes "children") (list (item (text (codes "g2")) (no_items))) (field (codes "hosts") (list (item (text (codes "a")) (item (text (codes "b")) (item (text (codes "c")) (no_items))))) (field (codes "vars") (rec (field (codes "i2") (list (item (int (pos 3)) (item (text (codes "a")) (no_items)))) (no_fields))) (no_fields))))) (field (codes "g2") (rec (field (codes "hosts") (list (item (text (codes "b")) (item (text (codes "c")) (item (text (codes "d")) (no_items))))) (field (codes "vars") (rec (field (codes "i1") (int (pos 1)) (field (codes "s1") (rec (field (codes "f") (text (codes "x")) (field (codes "g") (text ([])) (no_fields)))) (no_fields)))) (no_fields)))) (no_fields)))))) ≡ Ok (record { hosts = (record { name = (codes "a"); variables = (field (codes "i2") (list (item (int (pos 0)) (no_items))) (field (codes "s1") (rec (field (codes "f") (text (codes "a")) (field (codes "g") (text (codes "a")) (no_fields)))) (no_fields))) } ∷ record { name = (codes "b"); variables = (field (codes "i1") (int (pos 1)) (field (codes "i2") (rec (field (codes "f") (int (pos 1)) (no_fields))) (field (codes "s1") (text (codes "t")) (no_fields)))) } ∷ record { name = (codes "c"); variables = (field (codes "i1") (int (pos 1)) (field (codes "i2") (list (item (int (pos 3)) (item (text (codes "a")) (no_items)))) (field (codes "s1") (text (codes "b")) (no_fields)))) } ∷ record { name = (codes "d"); variables = (field (codes "i1") (int (pos 1)) (field (codes "i2") (list (item (int (pos 3)) (item (text (codes "a")) (no_items)))) (field (codes "op") opaque (field (codes "s1") (rec (field (codes "f") (text (codes "x")) (field (codes "g") (text ([])) (no_fields)))) (no_fields))))) } ∷ []); groups = (record { name = (codes "all"); hosts = ((codes "a") ∷ (codes "b") ∷ (codes "c") ∷ (codes "d") ∷ []) } ∷ record { name = (codes "g1"); hosts = ((codes "a") ∷ (codes "b") ∷ (codes "c") ∷ (codes "d") ∷ []) } ∷ record { name = (codes "g2"); hosts = ((codes "b") ∷ (codes "c") ∷ (codes "d") ∷ []) } ∷ record { name = (codes "ungrouped"); hosts = ([]) } ∷ []) })
inventory_169 = refl

inventory_170 : inventory_from (rec (field (codes "_meta") (rec (field (codes "hostvars") (rec (field (codes "a") (rec (field (codes "i2") (list (item (int (pos 1)) (item (boolean false) (no_items)))) (no_fields))) (field (codes "b") (rec (field (codes "i1") (list (item (text (codes "x")) (item (text (codes "t")) (no_items)))) (field (codes "op") opaque (field (codes "s1") (list (item (int (negsuc 0)) (no_items))) (no_fields))))) (no_fields)))) (no_fields))) (field (codes "all") (rec (field (codes "hosts") (list (item (text (codes "a")) (item (text (codes "b")) (no_items)))) (field (codes "vars") (rec (field (codes "s1") (text (codes "t")) (no_fields))) (no_fields)))) (field (codes "g1") (rec (field (codes "children") (list (item (text (codes "g2")) (no_items))) (field (codes "hosts") (list (item (text (codes "a")) (item (text (codes "b")) (no_items)))) (field (codes "vars") (rec (field (codes "i2") (list (item (int (pos 1)) (item (text (codes "x")) (no_items)))) (no_fields))) (no_fields))))) (field (codes "g2") (rec (field (codes "hosts") (list (item (text (codes "b")) (no_items))) (field (codes "vars") (rec (field (codes "i2") (text (codes "no")) (field (codes "op") opaque (no_fields)))) (no_fields)))) (no_fields)))))) ≡ Ok (record { hosts = (record { name = (codes "a"); variables = (field (codes "i2") (list (item (int (pos 1)) (item (boolean false) (no_items)))) (field (codes "s1") (text (codes "t")) (no_fields))) } ∷ record { name = (codes "b"); variables = (field (codes "i1") (list (item (text (codes "x")) (item (text (codes "t")) (no_items)))) (field (codes "i2") (text (codes "no")) (field (codes "op") opaque (field (codes "s1") (list (item (int (negsuc 0)) (no_items))) (no_fields))))) } ∷ []); groups = (record { name = (codes "all"); hosts = ((codes "a") ∷ (codes "b") ∷ []) } ∷ record { name = (codes "g1"); hosts = ((codes "a") ∷ (codes "b") ∷ []) } ∷ record { name = (codes "g2"); hosts = ((codes "b") ∷ []) } ∷ record { name = (codes "ungrouped"); hosts = ([]) } ∷ []) })
inventory_170 = refl

inventory_171 : inventory_from (rec (field (codes "_meta") (rec (field (codes "hostvars") (rec (field (codes "a") (rec (field (codes "i2") (list (item (int (pos 1)) (no_items))) (field (codes "s1") (int (negsuc 0)) (no_fields)))) (field (codes "b") (rec (field (codes "s1") (list (item (int (pos 2)) (item (text (codes "b")) (no_items)))) (no_fields))) (field (codes "c") (rec (field (codes "op") opaque (no_fields))) (no_fields))))) (no_fields))) (field (codes "all") (rec (field (codes "hosts") (list (item (text (codes "a")) (item (text (codes "b")) (item (text (codes "c")) (no_items))))) (field (codes "vars") (rec (field (codes "i2") (text ([])) (no_fields))) (no_fields)))) (field (codes "g1") (rec (field (codes "hosts") (list (item (text (codes "a")) (item (text (codes "b")) (item (text (codes "c")) (no_items))))) (field (codes "vars") (rec (field (codes "i1") (int (pos 1)) (field (codes "i2") (text (codes "x")) (field (codes "op") opaque (no_fields))))) (no_fields)))) (field (codes "g2") (rec (field (codes "hosts") (list (item (text (codes "a")) (item (text (codes "b")) (item (text (codes "c")) (no_items))))) (field (codes "vars") (rec (field (codes "i1") (int (pos 1)) (field (codes "op") opaque (no_fields)))) (no_fields)))) (no_fields)))))) ≡ Ok (record { hosts = (record { name = (codes "a"); variables = (field (codes "i1") (int (pos 1)) (field (codes "i2") (list (item (int (pos 1)) (no_items))) (field (codes "op") opaque (field (codes "s1") (int (negsuc 0)) (no_fields))))) } ∷ record { name = (codes "b"); variables = (field (codes "i1") (int (pos 1)) (field (codes "i2") (text (codes "x")) (field (codes "op") opaque (field (codes "s1") (list (item (int (pos 2)) (item (text (codes "b")) (no_items)))) (no_fields))))) } ∷ record { name = (codes "c"); variables = (field (codes "i1") (int (pos 1)) (field (codes "i2") (text (codes "x")) (field (codes "op") opaque (no_fields)))) } ∷ []); groups = (record { name = (codes "all"); hosts = ((codes "a") ∷ (codes "b") ∷ (codes "c") ∷ []) } ∷ record { name = (codes "g1"); hosts = ((codes "a") ∷ (codes "b") ∷ (codes "c") ∷ []) } ∷ record { name = (codes "g2"); hosts = ((codes "a") ∷ (codes "b") ∷ (codes "c") ∷ []) } ∷ record { name = (codes "ungrouped"); hosts = ([]) } ∷ []) })
inventory_171 = refl

inventory_172 : inventory_from (rec (field (codes "_meta") (rec (field (codes "hostvars") (rec (field (codes "a") (rec (field (codes "i2") (list (item (int (pos 1)) (no_items))) (no_fields))) (field (codes "b") (rec (field (codes "s1") (text ([])) (no_fields))) (field (codes "c") (rec (field (codes "i2") (int (pos 2)) (no_fields))) (field (codes "d") (rec (no_fields)) (no_fields)))))) (no_fields))) (field (codes "all") (rec (field (codes "hosts") (list (item (text (codes "a")) (item (text (codes "b")) (item (text (codes "c")) (item (text (codes "d")) (no_items)))))) (field (codes "vars") (rec (no_fields)) (no_fields)))) (field (codes "g1") (rec (field (codes "hosts") (list (item (text (codes "a")) (item (text (codes "b")) (item (text (codes "c")) (no_items))))) (field (codes "vars") (rec (no_fields)) (no_fields)))) (field (codes "g2") (rec (field (codes "hosts") (list (item (text (codes "b")) (item (text (codes "c")) (item (text (codes "d")) (no_items))))) (field (codes "vars") (rec (no_fields)) (no_fields)))) (no_fields)))))) ≡ Ok (record { hosts = (record { name = (codes "a"); variables = (field (codes "i2") (list (item (int (pos 1)) (no_items))) (no_fields)) } ∷ record { name = (codes "b"); variables = (field (codes "s1") (text ([])) (no_fields)) } ∷ record { name = (codes "c"); variables = (field (codes "i2") (int (pos 2)) (no_fields)) } ∷ record { name = (codes "d"); variables = (no_fields) } ∷ []); groups = (record { name = (codes "all"); hosts = ((codes "a") ∷ (codes "b") ∷ (codes "c") ∷ (codes "d") ∷ []) } ∷ record { name = (codes "g1"); hosts = ((codes "a") ∷ (codes "b") ∷ (codes "c") ∷ []) } ∷ record { name = (codes "g2"); hosts = ((codes "b") ∷ (codes "c") ∷ (codes "d") ∷ []) } ∷ record { name = (codes "ungrouped"); hosts = ([]) } ∷ []) })
inventory_172 = refl

inventory_173 : inventory_from (rec (field (codes "_meta") (rec (field (codes "hostvars") (rec (field (codes "a") (rec (field (codes "i2") (list (item (text ([])) (no_items))) (field (codes "op") opaque (no_fields)))) (field (codes "b") (rec (no_fields)) (field (codes "c") (rec (no_fields)) (field (codes "d") (rec (field (codes "i2") (text (codes "t")) (no_fields))) (no_fields)))))) (no_fields))) (field (codes "all") (rec (field (codes "hosts") (list (item (text (codes "a")) (item (text (codes "b")) (item (text (codes "c")) (item (text (codes "d")) (no_items)))))) (field (codes "vars") (rec (field (codes "s1") (text (codes "a")) (no_fields))) (no_fields)))) (field (codes "g1") (rec (field (codes "children") (list (item (text (codes "g2")) (no_items))) (field (codes "hosts") (list (item (text (codes "b")) (item (text (codes "d")) (no_items)))) (field (codes "vars") (rec (no_fields)) (no_fields))))) (field (codes "g2") (rec (field (codes "hosts") (list (item (text (codes "b")) (item (text (codes "d")) (no_items)))) (field (codes "vars") (rec (no_fields)) (no_fields)))) (no_fields)))))) ≡ Ok (record { hosts = (record { name = (codes "a"); variables = (field (codes "i2") (list (item (text ([])) (no_items))) (field (codes "op") opaque (field (codes "s1") (text (codes "a")) (no_fields)))) } ∷ record { name = (codes "b"); variables = (field (codes "s1") (text (codes "a")) (no_fields)) } ∷ record { name = (codes "c"); variables = (field (codes "s1") (text (codes "a")) (no_fields)) } ∷ record { name = (codes "d"); variables = (field (codes "i2") (text (codes "t")) (field (codes "s1") (text (codes "a")) (no_fields))) } ∷ []); groups = (record { name = (codes "all"); hosts = ((codes "a") ∷ (codes "b") ∷ (codes "c") ∷ (codes "d") ∷ []) } ∷ record { name = (codes "g1"); hosts = ((codes "b") ∷ (codes "d") ∷ []) } ∷ record { name = (codes "g2"); hosts = ((codes "b") ∷ (codes "d") ∷ []) } ∷ record { name = (codes "ungrouped"); hosts = ((codes "a") ∷ (codes "c") ∷ []) } ∷ []) })
inventory_173 = refl

inventory_174 : inventory_from (rec (field (codes "_meta") (rec (field (codes "hostvars") (rec (field (codes "a") (rec (field (codes "i2") (list (item (text ([])) (no_items))) (field (codes "s1") (text (codes "a")) (no_fields)))) (field (codes "b") (rec (field (codes "i2") (text ([])) (no_fields))) (field (codes "c") (rec (field (codes "i2") (text (codes "a")) (field (codes "s1") (text (codes "no")) (no_fields)))) (field (codes "d") (rec (no_fields)) (no_fields)))))) (no_fields))) (field (codes "all") (rec (field (codes "hosts") (list (item (text (codes "a")) (item (text (codes "b")) (item (text (codes "c")) (item (text (codes "d")) (no_items)))))) (field (codes "vars") (rec (no_fields)) (no_fields)))) (field (codes "g1") (rec (field (codes "hosts") (list (item (text (codes "a")) (item (text (codes "b")) (item (text (codes "d")) (no_items))))) (field (codes "vars") (rec (field (codes "i2") (text (codes "x")) (no_fields))) (no_fields)))) (field (codes "g2") (rec (field (codes "hosts") (list (item (text (codes "b")) (item (text (codes "d")) (no_items)))) (field (codes "vars") (rec (no_fields)) (no_fields)))) (no_fields)))))) ≡ Ok (record { hosts = (record { name = (codes "a"); variables = (field (codes "i2") (list (item (text ([])) (no_items))) (field (codes "s1") (text (codes "a")) (no_fields))) } ∷ record { name = (codes "b"); variables = (field (codes "i2") (text ([])) (no_fields)) } ∷ record { name = (codes "c"); variables = (field (codes "i2") (text (codes "a")) (field (codes "s1") (text (codes "no")) (no_fields))) } ∷ record { name = (codes "d"); variables = (field (codes "i2") (text (codes "x")) (no_fields)) } ∷ []); groups = (record { name = (codes "all"); hosts = ((codes "a") ∷ (codes "b") ∷ (codes "c") ∷ (codes "d") ∷ []) } ∷ record { name = (codes "g1"); hosts = ((codes "a") ∷ (codes "b") ∷ (codes "d") ∷ []) } ∷ record { name = (codes "g2"); hosts = ((codes "b") ∷ (codes "d") ∷ []) } ∷ record { name = (codes "ungrouped"); hosts = ((codes "c") ∷ []) } ∷ []) })
inventory_174 = refl

inventory_175 : inventory_from (rec (field (codes "_meta") (rec (field (codes "hostvars") (rec (field (codes "a") (rec (field (codes "i2") (list (item (text ([])) (no_items))) (no_fields))) (field (codes "b") (rec (field (codes "i2") (rec (field (codes "f") (boolean true) (no_fields))) (no_fields))) (no_fields)))) (no_fields))) (field (codes "all") (rec (field (codes "hosts") (list (item (text (codes "a")) (item (text (codes "b")) (no_items)))) (field (codes "vars") (rec (field (codes "s1") (int (pos 2)) (no_fields))) (no_fields)))) (field (codes "g1") (rec (field (codes "hosts") (list (no_items)) (field (codes "vars") (rec (no_fields)) (no_fields)))) (field (codes "g2") (rec (field (codes "hosts") (list (item (text (codes "b")) (no_items))) (field (codes "vars") (rec (no_fields)) (no_fields)))) (no_fields)))))) ≡ Ok (record { hosts = (record { name = (codes "a"); variables = (field (codes "i2") (list (item (text ([])) (no_items))) (field (codes "s1") (int (pos 2)) (no_fields))) } ∷ record { name = (codes "b"); variables = (field (codes "i2") (rec (field (codes "f") (boolean true) (no_fields))) (field (codes "s1") (int (pos 2)) (no_fields))) } ∷ []); groups = (record { name = (codes "all"); hosts = ((codes "a") ∷ (codes "b") ∷ []) } ∷ record { name = (codes "g1"); hosts = ([]) } ∷ record { name = (codes "g2"); hosts = ((codes "b") ∷ []) } ∷ record { name = (codes "ungrouped"); hosts = ((codes "a") ∷ []) } ∷ []) })
inventory_175 = refl

inventory_176 : inventory_from (rec (field (codes "_meta") (rec (field (codes "hostvars") (rec (field (codes "a") (rec (field (codes "i2") (list (item (text (codes "t")) (item (int (pos 1)) (no_items)))) (no_fields))) (field (codes "b") (rec (field (codes "i2") (int (pos 1)) (no_fields))) (field (codes "c") (rec (field (codes "i2") (rec (field (codes "f") (list (no_items)) (field (codes "g") (rec (field (codes "f") (int (pos 3)) (field (codes "g") (text (codes "a")) (no_fields)))) (no_fields)))) (no_fields))) (field (codes "d") (rec (field (codes "op") opaque (field (codes "s1") (list (item (boolean true) (no_items))) (no_fields)))) (no_fields)))))) (no_fields))) (field (codes "all") (rec (field (codes "hosts") (list (item (text (codes "a")) (item (text (codes "b")) (item (text (codes "c")) (item (text (codes "d")) (no_items)))))) (field (codes "vars") (rec (no_fields)) (no_fields)))) (field (codes "g1") (rec (field (codes "hosts") (list (item (text (codes "b")) (item (text (codes "c")) (item (text (codes "d")) (no_items))))) (field (codes "vars") (rec (no_fields)) (no_fields)))) (field (codes "g2") (rec (field (codes "hosts") (list (item (text (codes "b")) (item (text (codes "c")) (no_items)))) (field (codes "vars") (rec (field (codes "i1") (list (item (text (codes "t")) (no_items))) (field (codes "i2") (text (codes "no")) (no_fields)))) (no_fields)))) (no_fields)))))) ≡ Ok (record { hosts = (record { name = (codes "a"); variables = (field (codes "i2") (list (item (text (codes "t")) (item (int (pos 1)) (no_items)))) (no_fields)) } ∷ record { name = (codes "b"); variables = (field (codes "i1") (list (item (text (codes "t")) (no_items))) (field (codes "i2") (int (pos 1)) (no_fields))) } ∷ record { name = (codes "c"); variables = (field (codes "i1") (list (item (text (codes "t")) (no_items))) (field (codes "i2") (rec (field (codes "f") (list (no_items)) (field (codes "g") (rec (field (codes "f") (int (pos 3)) (field (codes "g") (text (codes "a")) (no_fields)))) (no_fields)))) (no_fields))) } ∷ record { name = (codes "d"); variables = (field (codes "op") opaque (field (codes "s1") (list (item (boolean true) (no_items))) (no_fields))) } ∷ []); groups = (record { name = (codes "all"); hosts = ((codes "a") ∷ (codes "b") ∷ (codes "c") ∷ (codes "d") ∷ []) } ∷ record { name = (codes "g1"); hosts = ((codes "b") ∷ (codes "c") ∷ (codes "d") ∷ []) } ∷ record { name = (codes "g2"); hosts = ((codes "b") ∷ (codes "c") ∷ []) } ∷ record { name = (codes "ungrouped"); hosts = ((codes "a") ∷ []) } ∷ []) })
inventory_176 = refl

inventory_177 : inventory_from (rec (field (codes "_meta") (rec (field (codes "hostvars") (rec (field (codes "a") (rec (field (codes "i2") (list (item (text (codes "x")) (item (int (pos 0)) (no_items)))) (no_fields))) (no_fields))) (no_fields))) (field (codes "all") (rec (field (codes "hosts") (list (item (text (codes "a")) (no_items))) (field (codes "vars") (rec (field (codes "i1") (text ([])) (no_fields))) (no_fields)))) (field (codes "g1") (rec (field (codes "hosts") (list (item (text (codes "a")) (no_items))) (field (codes "vars") (rec (field (codes "op") opaque (field (codes "s1") (text (codes "a")) (no_fields)))) (no_fields)))) (field (codes "g2") (rec (field (codes "hosts") (list (item (text (codes "a")) (no_items))) (field (codes "vars") (rec (field (codes "i2") (list (item (text (codes "b")) (item (text ([])) (no_items)))) (field (codes "op") opaque (no_fields)))) (no_fields)))) (no_fields)))))) ≡ Ok (record { hosts = (record { name = (codes "a"); variables = (field (codes "i1") (text ([])) (field (codes "i2") (list (item (text (codes "x")) (item (int (pos 0)) (no_items)))) (field (codes "op") opaque (field (codes "s1") (text (codes "a")) (no_fields))))) } ∷ []); groups = (record { name = (codes "all"); hosts = ((codes "a") ∷ []) } ∷ record { name = (codes "g1"); hosts = ((codes "a") ∷ []) } ∷ record { name = (codes "g2"); hosts = ((codes "a") ∷ []) } ∷ record { name = (codes "ungrouped"); hosts = ([]) } ∷ []) })
inventory_177 = refl

inventory_178 : inventory_from (rec (field (codes "_meta") (rec (field (codes "hostvars") (rec (field (codes "a") (rec (field (codes "i2") (list (item (text (codes "x")) (item (text (codes "a")) (no_items)))) (no_fields))) (field (codes "b") (rec (no_fields)) (field (codes "c") (rec (field (codes "i2") (list (item (text (codes "a")) (item (int (pos 0)) (no_items)))) (field (codes "op") opaque (no_fields)))) (field (codes "d") (rec (field (codes "op") opaque (no_fields))) (no_fields)))))) (no_fields))) (field (codes "all") (rec (field (codes "hosts") (list (item (text (codes "a")) (item (text (codes "b")) (item (text (codes "c")) (item (text (codes "d")) (no_items)))))) (field (codes "vars") (rec (field (codes "op") opaque (no_fields))) (no_fields)))) (field (codes "g1") (rec (field (codes "hosts") (list (no_items)) (field (codes "vars") (rec (field (codes "i1") (boolean false) (field (codes "s1") (rec (field (codes "g") (text (codes "t")) (no_fields))) (no_fields)))) (no_fields)))) (field (codes "g2") (rec (field (codes "hosts") (list (item (text (codes "b")) (item (text (codes "c")) (no_items)))) (field (codes "vars") (rec (field (codes "i2") (int (pos 1)) (field (codes "s1") (rec (field (codes "f") (text ([])) (no_fields))) (no_fields)))) (no_fields)))) (no_fields)))))) ≡ Ok (record { hosts = (record { name = (codes "a"); variables = (field (codes "i2") (list (item (text (codes "x")) (item (text (codes "a")) (no_items)))) (field (codes "op") opaque (no_fields))) } ∷ record { name = (codes "b"); variables = (field (codes "i2") (int (pos 1)) (field (codes "op") opaque (field (codes "s1") (rec (field (codes "f") (text ([])) (no_fields))) (no_fields)))) } ∷ record { name = (codes "c"); variables = (field (codes "i2") (list (item (text (codes "a")) (item (int (pos 0)) (no_items)))) (field (codes "op") opaque (field (codes "s1") (rec (field (codes "f") (text ([])) (no_fields))) (no_fields)))) } ∷ record { name = (codes "d"); variables = (field (codes "op") opaque (no_fields)) } ∷ []); groups = (record { name = (codes "all"); hosts = ((codes "a") ∷ (codes "b") ∷ (codes "c") ∷ (codes "d") ∷ []) } ∷ record { name = (codes "g1"); hosts = ([]) } ∷ record { name = (codes "g2"); hosts = ((codes "b") ∷ (codes "c") ∷ []) } ∷ record { name = (codes "ungrouped"); hosts = ((codes "a") ∷ (codes "d") ∷ []) } ∷ []) })
inventory_178 = refl

inventory_179 : inventory_from (rec (field (codes "_meta") (rec (field (codes "hostvars") (rec (field (codes "a") (rec (field (codes "i2") (list (no_items)) (field (codes "op") opaque (field (codes "s1") (list (item null (no_items))) (no_fields))))) (field (codes "b") (rec (field (codes "i1") (list (item (boolean false) (no_items))) (no_fields))) (no_fields)))) (no_fields))) (field (codes "all") (rec (field (codes "hosts") (list (item (text (codes "a")) (item (text (codes "b")) (no_items)))) (field (codes "vars") (rec (no_fields)) (no_fields)))) (field (codes "g1") (rec (field (codes "hosts") (list (item (text (codes "a")) (no_items))) (field (codes "vars") (rec (field (codes "i1") (text (codes "x")) (no_fields))) (no_fields)))) (no_fields))))) ≡ Ok (record { hosts = (record { name = (codes "a"); variables = (field (codes "i1") (text (codes "x")) (field (codes "i2") (list (no_items)) (field (codes "op") opaque (field (codes "s1") (list (item null (no_items))) (no_fields))))) } ∷ record { name = (codes "b"); variables = (field (codes "i1") (list (item (boolean false) (no_items))) (no_fields)) } ∷ []); groups = (record { name = (codes "all"); hosts = ((codes "a") ∷ (codes "b") ∷ []) } ∷ record { name = (codes "g1"); hosts = ((codes "a") ∷ []) } ∷ record { name = (codes "ungrouped"); hosts = ((codes "b") ∷ []) } ∷ []) })
inventory_179 = refl
