-- The inventories of cases, computed.
use Rattle.std.specs.Prelude.{◌≡◌, refl, pos, negsuc, [], ◌∷◌, true, false, Ok, codes}
use Rattle.pb_semantics.specs.Data.{null, boolean, int, text, list, rec, opaque, no_items, item, no_fields, field}
use Rattle.pb_language.specs.Inventories.{inventory_from}

inventory_60 : inventory_from (rec (field (codes "_meta") (rec (field (codes "hostvars") (rec (field (codes "a") (rec (field (codes "i1") (list (item (text (codes "a")) (item (int (pos 3)) (no_items)))) (no_fields))) (field (codes "b") (rec (field (codes "i1") (list (no_items)) (no_fields))) (no_fields)))) (no_fields))) (field (codes "all") (rec (field (codes "hosts") (list (item (text (codes "a")) (item (text (codes "b")) (no_items)))) (field (codes "vars") (rec (field (codes "op") opaque (field (codes "s1") (rec (field (codes "f") (boolean true) (field (codes "g") (text (codes "no")) (no_fields)))) (no_fields)))) (no_fields)))) (field (codes "g1") (rec (field (codes "hosts") (list (item (text (codes "a")) (no_items))) (field (codes "vars") (rec (no_fields)) (no_fields)))) (field (codes "g2") (rec (field (codes "hosts") (list (item (text (codes "a")) (item (text (codes "b")) (no_items)))) (field (codes "vars") (rec (field (codes "i1") (rec (field (codes "f") (list (no_items)) (field (codes "g") (list (no_items)) (no_fields)))) (no_fields))) (no_fields)))) (no_fields)))))) ≡ Ok (record { hosts = (record { name = (codes "a"); variables = (field (codes "i1") (list (item (text (codes "a")) (item (int (pos 3)) (no_items)))) (field (codes "op") opaque (field (codes "s1") (rec (field (codes "f") (boolean true) (field (codes "g") (text (codes "no")) (no_fields)))) (no_fields)))) } ∷ record { name = (codes "b"); variables = (field (codes "i1") (list (no_items)) (field (codes "op") opaque (field (codes "s1") (rec (field (codes "f") (boolean true) (field (codes "g") (text (codes "no")) (no_fields)))) (no_fields)))) } ∷ []); groups = (record { name = (codes "all"); hosts = ((codes "a") ∷ (codes "b") ∷ []) } ∷ record { name = (codes "g1"); hosts = ((codes "a") ∷ []) } ∷ record { name = (codes "g2"); hosts = ((codes "a") ∷ (codes "b") ∷ []) } ∷ record { name = (codes "ungrouped"); hosts = ([]) } ∷ []) })
inventory_60 = refl

inventory_61 : inventory_from (rec (field (codes "_meta") (rec (field (codes "hostvars") (rec (field (codes "a") (rec (field (codes "i1") (list (item (text (codes "a")) (item (text ([])) (no_items)))) (field (codes "op") opaque (no_fields)))) (field (codes "b") (rec (field (codes "i1") (rec (no_fields)) (no_fields))) (no_fields)))) (no_fields))) (field (codes "all") (rec (field (codes "hosts") (list (item (text (codes "a")) (item (text (codes "b")) (no_items)))) (field (codes "vars") (rec (field (codes "i1") (rec (field (codes "f") (boolean false) (field (codes "g") (text (codes "b")) (no_fields)))) (no_fields))) (no_fields)))) (field (codes "g1") (rec (field (codes "hosts") (list (item (text (codes "a")) (item (text (codes "b")) (no_items)))) (field (codes "vars") (rec (field (codes "s1") (text ([])) (no_fields))) (no_fields)))) (no_fields))))) ≡ Ok (record { hosts = (record { name = (codes "a"); variables = (field (codes "i1") (list (item (text (codes "a")) (item (text ([])) (no_items)))) (field (codes "op") opaque (field (codes "s1") (text ([])) (no_fields)))) } ∷ record { name = (codes "b"); variables = (field (codes "i1") (rec (no_fields)) (field (codes "s1") (text ([])) (no_fields))) } ∷ []); groups = (record { name = (codes "all"); hosts = ((codes "a") ∷ (codes "b") ∷ []) } ∷ record { name = (codes "g1"); hosts = ((codes "a") ∷ (codes "b") ∷ []) } ∷ record { name = (codes "ungrouped"); hosts = ([]) } ∷ []) })
inventory_61 = refl

inventory_62 : inventory_from (rec (field (codes "_meta") (rec (field (codes "hostvars") (rec (field (codes "a") (rec (field (codes "i1") (list (item (text (codes "a")) (item (text (codes "b")) (no_items)))) (no_fields))) (no_fields))) (no_fields))) (field (codes "all") (rec (field (codes "hosts") (list (item (text (codes "a")) (no_items))) (field (codes "vars") (rec (field (codes "i1") (list (item (int (pos 1)) (item (int (pos 1)) (no_items)))) (field (codes "s1") (text (codes "no")) (no_fields)))) (no_fields)))) (field (codes "g2") (rec (field (codes "hosts") (list (item (text (codes "a")) (no_items))) (field (codes "vars") (rec (field (codes "i1") (text (codes "x")) (field (codes "op") opaque (field (codes "s1") (list (no_items)) (no_fields))))) (no_fields)))) (no_fields))))) ≡ Ok (record { hosts = (record { name = (codes "a"); variables = (field (codes "i1") (list (item (text (codes "a")) (item (text (codes "b")) (no_items)))) (field (codes "op") opaque (field (codes "s1") (list (no_items)) (no_fields)))) } ∷ []); groups = (record { name = (codes "all"); hosts = ((codes "a") ∷ []) } ∷ record { name = (codes "g2"); hosts = ((codes "a") ∷ []) } ∷ record { name = (codes "ungrouped"); hosts = ([]) } ∷ []) })
inventory_62 = refl

inventory_63 : inventory_from (rec (field (codes "_meta") (rec (field (codes "hostvars") (rec (field (codes "a") (rec (field (codes "i1") (list (item (text (codes "a")) (item (text (codes "x")) (no_items)))) (field (codes "i2") (int (pos 0)) (field (codes "s1") (list (item (int (pos 2)) (no_items))) (no_fields))))) (field (codes "b") (rec (field (codes "s1") (rec (field (codes "g") (list (item (text ([])) (no_items))) (no_fields))) (no_fields))) (no_fields)))) (no_fields))) (field (codes "all") (rec (field (codes "hosts") (list (item (text (codes "a")) (item (text (codes "b")) (no_items)))) (field (codes "vars") (rec (field (codes "i1") (text (codes "t")) (field (codes "op") opaque (no_fields)))) (no_fields)))) (field (codes "g1") (rec (field (codes "hosts") (list (item (text (codes "a")) (item (text (codes "b")) (no_items)))) (field (codes "vars") (rec (field (codes "op") opaque (no_fields))) (no_fields)))) (no_fields))))) ≡ Ok (record { hosts = (record { name = (codes "a"); variables = (field (codes "i1") (list (item (text (codes "a")) (item (text (codes "x")) (no_items)))) (field (codes "i2") (int (pos 0)) (field (codes "op") opaque (field (codes "s1") (list (item (int (pos 2)) (no_items))) (no_fields))))) } ∷ record { name = (codes "b"); variables = (field (codes "i1") (text (codes "t")) (field (codes "op") opaque (field (codes "s1") (rec (field (codes "g") (list (item (text ([])) (no_items))) (no_fields))) (no_fields)))) } ∷ []); groups = (record { name = (codes "all"); hosts = ((codes "a") ∷ (codes "b") ∷ []) } ∷ record { name = (codes "g1"); hosts = ((codes "a") ∷ (codes "b") ∷ []) } ∷ record { name = (codes "ungrouped"); hosts = ([]) } ∷ []) })
inventory_63 = refl

inventory_64 : inventory_from (rec (field (codes "_meta") (rec (field (codes "hostvars") (rec (field (codes "a") (rec (field (codes "i1") (list (item (text (codes "a")) (no_items))) (field (codes "i2") (list (no_items)) (field (codes "op") opaque (no_fields))))) (no_fields))) (no_fields))) (field (codes "all") (rec (field (codes "hosts") (list (item (text (codes "a")) (no_items))) (field (codes "vars") (rec (field (codes "i1") (text (codes "x")) (field (codes "i2") (text ([])) (no_fields)))) (no_fields)))) (field (codes "g1") (rec (field (codes "hosts") (list (no_items)) (field (codes "vars") (rec (no_fields)) (no_fields)))) (field (codes "g2") (rec (field (codes "hosts") (list (item (text (codes "a")) (no_items))) (field (codes "vars") (rec (field (codes "op") opaque (no_fields))) (no_fields)))) (no_fields)))))) ≡ Ok (record { hosts = (record { name = (codes "a"); variables = (field (codes "i1") (list (item (text (codes "a")) (no_items))) (field (codes "i2") (list (no_items)) (field (codes "op") opaque (no_fields)))) } ∷ []); groups = (record { name = (codes "all"); hosts = ((codes "a") ∷ []) } ∷ record { name = (codes "g1"); hosts = ([]) } ∷ record { name = (codes "g2"); hosts = ((codes "a") ∷ []) } ∷ record { name = (codes "ungrouped"); hosts = ([]) } ∷ []) })
inventory_64 = refl

inventory_65 : inventory_from (rec (field (codes "_meta") (rec (field (codes "hostvars") (rec (field (codes "a") (rec (field (codes "i1") (list (item (text (codes "a")) (no_items))) (no_fields))) (field (codes "b") (rec (field (codes "i1") (boolean true) (no_fields))) (field (codes "c") (rec (field (codes "i1") (list (no_items)) (field (codes "op") opaque (field (codes "s1") (int (pos 3)) (no_fields))))) (no_fields))))) (no_fields))) (field (codes "all") (rec (field (codes "hosts") (list (item (text (codes "a")) (item (text (codes "b")) (item (text (codes "c")) (no_items))))) (field (codes "vars") (rec (field (codes "op") opaque (no_fields))) (no_fields)))) (field (codes "g2") (rec (field (codes "hosts") (list (item (text (codes "a")) (item (text (codes "c")) (no_items)))) (field (codes "vars") (rec (field (codes "i1") (text (codes "x")) (field (codes "i2") (int (pos 3)) (no_fields)))) (no_fields)))) (no_fields))))) ≡ Ok (record { hosts = (record { name = (codes "a"); variables = (field (codes "i1") (list (item (text (codes "a")) (no_items))) (field (codes "i2") (int (pos 3)) (field (codes "op") opaque (no_fields)))) } ∷ record { name = (codes "b"); variables = (field (codes "i1") (boolean true) (field (codes "op") opaque (no_fields))) } ∷ record { name = (codes "c"); variables = (field (codes "i1") (list (no_items)) (field (codes "i2") (int (pos 3)) (field (codes "op") opaque (field (codes "s1") (int (pos 3)) (no_fields))))) } ∷ []); groups = (record { name = (codes "all"); hosts = ((codes "a") ∷ (codes "b") ∷ (codes "c") ∷ []) } ∷ record { name = (codes "g2"); hosts = ((codes "a") ∷ (codes "c") ∷ []) } ∷ record { name = (codes "ungrouped"); hosts = ((codes "b") ∷ []) } ∷ []) })
inventory_65 = refl

inventory_66 : inventory_from (rec (field (codes "_meta") (rec (field (codes "hostvars") (rec (field (codes "a") (rec (field (codes "i1") (list (item (text (codes "b")) (item (int (pos 0)) (no_items)))) (field (codes "i2") (text (codes "x")) (no_fields)))) (field (codes "b") (rec (field (codes "op") opaque (no_fields))) (no_fields)))) (no_fields))) (field (codes "all") (rec (field (codes "hosts") (list (item (text (codes "a")) (item (text (codes "b")) (no_items)))) (field (codes "vars") (rec (no_fields)) (no_fields)))) (field (codes "g1") (rec (field (codes "hosts") (list (item (text (codes "a")) (no_items))) (field (codes "vars") (rec (no_fields)) (no_fields)))) (field (codes "g2") (rec (field (codes "hosts") (list (item (text (codes "a")) (item (text (codes "b")) (no_items)))) (field (codes "vars") (rec (no_fields)) (no_fields)))) (no_fields)))))) ≡ Ok (record { hosts = (record { name = (codes "a"); variables = (field (codes "i1") (list (item (text (codes "b")) (item (int (pos 0)) (no_items)))) (field (codes "i2") (text (codes "x")) (no_fields))) } ∷ record { name = (codes "b"); variables = (field (codes "op") opaque (no_fields)) } ∷ []); groups = (record { name = (codes "all"); hosts = ((codes "a") ∷ (codes "b") ∷ []) } ∷ record { name = (codes "g1"); hosts = ((codes "a") ∷ []) } ∷ record { name = (codes "g2"); hosts = ((codes "a") ∷ (codes "b") ∷ []) } ∷ record { name = (codes "ungrouped"); hosts = ([]) } ∷ []) })
inventory_66 = refl

inventory_67 : inventory_from (rec (field (codes "_meta") (rec (field (codes "hostvars") (rec (field (codes "a") (rec (field (codes "i1") (list (item (text (codes "b")) (no_items))) (field (codes "op") opaque (no_fields)))) (field (codes "b") (rec (no_fields)) (field (codes "c") (rec (field (codes "i2") (list (item (boolean true) (item (text ([])) (no_items)))) (field (codes "op") opaque (no_fields)))) (field (codes "d") (rec (no_fields)) (no_fields)))))) (no_fields))) (field (codes "all") (rec (field (codes "hosts") (list (item (text (codes "a")) (item (text (codes "b")) (item (text (codes "c")) (item (text (codes "d")) (no_items)))))) (field (codes "vars") (rec (no_fields)) (no_fields)))) (field (codes "g1") (rec (field (codes "hosts") (list (item (text (codes "b")) (item (text (codes "d")) (no_items)))) (field (codes "vars") (rec (no_fields)) (no_fields)))) (field (codes "g2") (rec (field (codes "hosts") (list (item (text (codes "a")) (item (text (codes "c")) (item (text (codes "d")) (no_items))))) (field (codes "vars") (rec (field (codes "i2") (boolean true) (field (codes "s1") (list (item (text (codes "a")) (no_items))) (no_fields)))) (no_fields)))) (no_fields)))))) ≡ Ok (record { hosts = (record { name = (codes "a"); variables = (field (codes "i1") (list (item (text (codes "b")) (no_items))) (field (codes "i2") (boolean true) (field (codes "op") opaque (field (codes "s1") (list (item (text (codes "a")) (no_items))) (no_fields))))) } ∷ record { name = (codes "b"); variables = (no_fields) } ∷ record { name = (codes "c"); variables = (field (codes "i2") (list (item (boolean true) (item (text ([])) (no_items)))) (field (codes "op") opaque (field (codes "s1") (list (item (text (codes "a")) (no_items))) (no_fields)))) } ∷ record { name = (codes "d"); variables = (field (codes "i2") (boolean true) (field (codes "s1") (list (item (text (codes "a")) (no_items))) (no_fields))) } ∷ []); groups = (record { name = (codes "all"); hosts = ((codes "a") ∷ (codes "b") ∷ (codes "c") ∷ (codes "d") ∷ []) } ∷ record { name = (codes "g1"); hosts = ((codes "b") ∷ (codes "d") ∷ []) } ∷ record { name = (codes "g2"); hosts = ((codes "a") ∷ (codes "c") ∷ (codes "d") ∷ []) } ∷ record { name = (codes "ungrouped"); hosts = ([]) } ∷ []) })
inventory_67 = refl

inventory_68 : inventory_from (rec (field (codes "_meta") (rec (field (codes "hostvars") (rec (field (codes "a") (rec (field (codes "i1") (list (item (text (codes "no")) (item (text (codes "a")) (no_items)))) (field (codes "s1") (list (item (text (codes "a")) (item (text (codes "a")) (no_items)))) (no_fields)))) (field (codes "b") (rec (field (codes "i1") (int (pos 1)) (no_fields))) (field (codes "c") (rec (field (codes "op") opaque (field (codes "s1") (rec (field (codes "f") (text (codes "b")) (field (codes "g") (text (codes "b")) (no_fields)))) (no_fields)))) (field (codes "d") (rec (field (codes "op") opaque (field (codes "s1") (text (codes "no")) (no_fields)))) (no_fields)))))) (no_fields))) (field (codes "all") (rec (field (codes "hosts") (list (item (text (codes "a")) (item (text (codes "b")) (item (text (codes "c")) (item (text (codes "d")) (no_items)))))) (field (codes "vars") (rec (field (codes "i2") (text ([])) (field (codes "op") opaque (no_fields)))) (no_fields)))) (field (codes "g1") (rec (field (codes "hosts") (list (item (text (codes "b")) (item (text (codes "c")) (no_items)))) (field (codes "vars") (rec (no_fields)) (no_fields)))) (no_fields))))) ≡ Ok (record { hosts = (record { name = (codes "a"); variables = (field (codes "i1") (list (item (text (codes "no")) (item (text (codes "a")) (no_items)))) (field (codes "i2") (text ([])) (field (codes "op") opaque (field (codes "s1") (list (item (text (codes "a")) (item (text (codes "a")) (no_items)))) (no_fields))))) } ∷ record { name = (codes "b"); variables = (field (codes "i1") (int (pos 1)) (field (codes "i2") (text ([])) (field (codes "op") opaque (no_fields)))) } ∷ record { name = (codes "c"); variables = (field (codes "i2") (text ([])) (field (codes "op") opaque (field (codes "s1") (rec (field (codes "f") (text (codes "b")) (field (codes "g") (text (codes "b")) (no_fields)))) (no_fields)))) } ∷ record { name = (codes "d"); variables = (field (codes "i2") (text ([])) (field (codes "op") opaque (field (codes "s1") (text (codes "no")) (no_fields)))) } ∷ []); groups = (record { name = (codes "all"); hosts = ((codes "a") ∷ (codes "b") ∷ (codes "c") ∷ (codes "d") ∷ []) } ∷ record { name = (codes "g1"); hosts = ((codes "b") ∷ (codes "c") ∷ []) } ∷ record { name = (codes "ungrouped"); hosts = ((codes "a") ∷ (codes "d") ∷ []) } ∷ []) })
inventory_68 = refl

inventory_69 : inventory_from (rec (field (codes "_meta") (rec (field (codes "hostvars") (rec (field (codes "a") (rec (field (codes "i1") (list (item (text (codes "t")) (no_items))) (no_fields))) (field (codes "b") (rec (field (codes "i2") (text (codes "b")) (field (codes "op") opaque (field (codes "s1") (list (item (text (codes "t")) (no_items))) (no_fields))))) (field (codes "c") (rec (no_fields)) (field (codes "d") (rec (field (codes "i2") (text (codes "t")) (field (codes "s1") (rec (no_fields)) (no_fields)))) (no_fields)))))) (no_fields))) (field (codes "all") (rec (field (codes "hosts") (list (item (text (codes "a")) (item (text (codes "b")) (item (text (codes "c")) (item (text (codes "d")) (no_items)))))) (field (codes "vars") (rec (field (codes "i1") (list (no_items)) (no_fields))) (no_fields)))) (field (codes "g1") (rec (field (codes "hosts") (list (item (text (codes "a")) (item (text (codes "c")) (item (text (codes "d")) (no_items))))) (field (codes "vars") (rec (field (codes "op") opaque (field (codes "s1") (rec (field (codes "f") (text (codes "t")) (field (codes "g") (int (negsuc 0)) (no_fields)))) (no_fields)))) (no_fields)))) (no_fields))))) ≡ Ok (record { hosts = (record { name = (codes "a"); variables = (field (codes "i1") (list (item (text (codes "t")) (no_items))) (field (codes "op") opaque (field (codes "s1") (rec (field (codes "f") (text (codes "t")) (field (codes "g") (int (negsuc 0)) (no_fields)))) (no_fields)))) } ∷ record { name = (codes "b"); variables = (field (codes "i1") (list (no_items)) (field (codes "i2") (text (codes "b")) (field (codes "op") opaque (field (codes "s1") (list (item (text (codes "t")) (no_items))) (no_fields))))) } ∷ record { name = (codes "c"); variables = (field (codes "i1") (list (no_items)) (field (codes "op") opaque (field (codes "s1") (rec (field (codes "f") (text (codes "t")) (field (codes "g") (int (negsuc 0)) (no_fields)))) (no_fields)))) } ∷ record { name = (codes "d"); variables = (field (codes "i1") (list (no_items)) (field (codes "i2") (text (codes "t")) (field (codes "op") opaque (field (codes "s1") (rec (no_fields)) (no_fields))))) } ∷ []); groups = (record { name = (codes "all"); hosts = ((codes "a") ∷ (codes "b") ∷ (codes "c") ∷ (codes "d") ∷ []) } ∷ record { name = (codes "g1"); hosts = ((codes "a") ∷ (codes "c") ∷ (codes "d") ∷ []) } ∷ record { name = (codes "ungrouped"); hosts = ((codes "b") ∷ []) } ∷ []) })
inventory_69 = refl

inventory_70 : inventory_from (rec (field (codes "_meta") (rec (field (codes "hostvars") (rec (field (codes "a") (rec (field (codes "i1") (list (item (text (codes "x")) (item (text (codes "b")) (no_items)))) (field (codes "op") opaque (field (codes "s1") (list (item (text (codes "x")) (item (boolean true) (no_items)))) (no_fields))))) (no_fields))) (no_fields))) (field (codes "all") (rec (field (codes "hosts") (list (item (text (codes "a")) (no_items))) (field (codes "vars") (rec (field (codes "i2") (text (codes "a")) (no_fields))) (no_fields)))) (field (codes "g2") (rec (field (codes "hosts") (list (item (text (codes "a")) (no_items))) (field (codes "vars") (rec (no_fields)) (no_fields)))) (no_fields))))) ≡ Ok (record { hosts = (record { name = (codes "a"); variables = (field (codes "i1") (list (item (text (codes "x")) (item (text (codes "b")) (no_items)))) (field (codes "i2") (text (codes "a")) (field (codes "op") opaque (field (codes "s1") (list (item (text (codes "x")) (item (boolean true) (no_items)))) (no_fields))))) } ∷ []); groups = (record { name = (codes "all"); hosts = ((codes "a") ∷ []) } ∷ record { name = (codes "g2"); hosts = ((codes "a") ∷ []) } ∷ record { name = (codes "ungrouped"); hosts = ([]) } ∷ []) })
inventory_70 = refl

inventory_71 : inventory_from (rec (field (codes "_meta") (rec (field (codes "hostvars") (rec (field (codes "a") (rec (field (codes "i1") (list (item null (item (int (pos 3)) (no_items)))) (field (codes "op") opaque (no_fields)))) (field (codes "b") (rec (field (codes "i2") (text (codes "t")) (no_fields))) (no_fields)))) (no_fields))) (field (codes "all") (rec (field (codes "hosts") (list (item (text (codes "a")) (item (text (codes "b")) (no_items)))) (field (codes "vars") (rec (field (codes "op") opaque (no_fields))) (no_fields)))) (field (codes "g1") (rec (field (codes "hosts") (list (no_items)) (field (codes "vars") (rec (field (codes "op") opaque (field (codes "s1") (list (item (boolean true) (no_items))) (no_fields)))) (no_fields)))) (field (codes "g2") (rec (field (codes "hosts") (list (item (text (codes "b")) (no_items))) (field (codes "vars") (rec (no_fields)) (no_fields)))) (no_fields)))))) ≡ Ok (record { hosts = (record { name = (codes "a"); variables = (field (codes "i1") (list (item null (item (int (pos 3)) (no_items)))) (field (codes "op") opaque (no_fields))) } ∷ record { name = (codes "b"); variables = (field (codes "i2") (text (codes "t")) (field (codes "op") opaque (no_fields))) } ∷ []); groups = (record { name = (codes "all"); hosts = ((codes "a") ∷ (codes "b") ∷ []) } ∷ record { name = (codes "g1"); hosts = ([]) } ∷ record { name = (codes "g2"); hosts = ((codes "b") ∷ []) } ∷ record { name = (codes "ungrouped"); hosts = ((codes "a") ∷ []) } ∷ []) })
inventory_71 = refl

inventory_72 : inventory_from (rec (field (codes "_meta") (rec (field (codes "hostvars") (rec (field (codes "a") (rec (field (codes "i1") (list (item null (no_items))) (field (codes "i2") (int (pos 2)) (no_fields)))) (field (codes "b") (rec (no_fields)) (field (codes "c") (rec (field (codes "i1") (text (codes "no")) (no_fields))) (field (codes "d") (rec (no_fields)) (no_fields)))))) (no_fields))) (field (codes "all") (rec (field (codes "hosts") (list (item (text (codes "a")) (item (text (codes "b")) (item (text (codes "c")) (item (text (codes "d")) (no_items)))))) (field (codes "vars") (rec (field (codes "op") opaque (field (codes "s1") (rec (field (codes "f") (text (codes "a")) (field (codes "g") (text ([])) (no_fields)))) (no_fields)))) (no_fields)))) (field (codes "g1") (rec (field (codes "children") (list (item (text (codes "g2")) (no_items))) (field (codes "hosts") (list (item (text (codes "a")) (item (text (codes "b")) (item (text (codes "c")) (item (text (codes "d")) (no_items)))))) (field (codes "vars") (rec (no_fields)) (no_fields))))) (field (codes "g2") (rec (field (codes "hosts") (list (item (text (codes "b")) (item (text (codes "d")) (no_items)))) (field (codes "vars") (rec (no_fields)) (no_fields)))) (no_fields)))))) ≡ Ok (record { hosts = (record { name = (codes "a"); variables = (field (codes "i1") (list (item null (no_items))) (field (codes "i2") (int (pos 2)) (field (codes "op") opaque (field (codes "s1") (rec (field (codes "f") (text (codes "a")) (field (codes "g") (text ([])) (no_fields)))) (no_fields))))) } ∷ record { name = (codes "b"); variables = (field (codes "op") opaque (field (codes "s1") (rec (field (codes "f") (text (codes "a")) (field (codes "g") (text ([])) (no_fields)))) (no_fields))) } ∷ record { name = (codes "c"); variables = (field (codes "i1") (text (codes "no")) (field (codes "op") opaque (field (codes "s1") (rec (field (codes "f") (text (codes "a")) (field (codes "g") (text ([])) (no_fields)))) (no_fields)))) } ∷ record { name = (codes "d"); variables = (field (codes "op") opaque (field (codes "s1") (rec (field (codes "f") (text (codes "a")) (field (codes "g") (text ([])) (no_fields)))) (no_fields))) } ∷ []); groups = (record { name = (codes "all"); hosts = ((codes "a") ∷ (codes "b") ∷ (codes "c") ∷ (codes "d") ∷ []) } ∷ record { name = (codes "g1"); hosts = ((codes "a") ∷ (codes "b") ∷ (codes "c") ∷ (codes "d") ∷ []) } ∷ record { name = (codes "g2"); hosts = ((codes "b") ∷ (codes "d") ∷ []) } ∷ record { name = (codes "ungrouped"); hosts = ([]) } ∷ []) })
inventory_72 = refl

inventory_73 : inventory_from (rec (field (codes "_meta") (rec (field (codes "hostvars") (rec (field (codes "a") (rec (field (codes "i1") (list (item null (no_items))) (no_fields))) (no_fields))) (no_fields))) (field (codes "all") (rec (field (codes "hosts") (list (item (text (codes "a")) (no_items))) (field (codes "vars") (rec (no_fields)) (no_fields)))) (field (codes "g2") (rec (field (codes "hosts") (list (item (text (codes "a")) (no_items))) (field (codes "vars") (rec (no_fields)) (no_fields)))) (no_fields))))) ≡ Ok (record { hosts = (record { name = (codes "a"); variables = (field (codes "i1") (list (item null (no_items))) (no_fields)) } ∷ []); groups = (record { name = (codes "all"); hosts = ((codes "a") ∷ []) } ∷ record { name = (codes "g2"); hosts = ((codes "a") ∷ []) } ∷ record { name = (codes "ungrouped"); hosts = ([]) } ∷ []) })
inventory_73 = refl

inventory_74 : inventory_from (rec (field (codes "_meta") (rec (field (codes "hostvars") (rec (field (codes "a") (rec (field (codes "i1") (list (no_items)) (field (codes "i2") (list (item (text (codes "a")) (item (boolean false) (no_items)))) (field (codes "op") opaque (no_fields))))) (field (codes "b") (rec (field (codes "i2") (list (item (text (codes "no")) (no_items))) (no_fields))) (field (codes "c") (rec (field (codes "i1") (boolean false) (no_fields))) (field (codes "d") (rec (field (codes "i2") (list (item (text (codes "t")) (no_items))) (field (codes "s1") (rec (no_fields)) (no_fields)))) (no_fields)))))) (no_fields))) (field (codes "all") (rec (field (codes "hosts") (list (item (text (codes "a")) (item (text (codes "b")) (item (text (codes "c")) (item (text (codes "d")) (no_items)))))) (field (codes "vars") (rec (field (codes "op") opaque (no_fields))) (no_fields)))) (field (codes "g1") (rec (field (codes "hosts") (list (item (text (codes "b")) (item (text (codes "c")) (no_items)))) (field (codes "vars") (rec (field (codes "op") opaque (no_fields))) (no_fields)))) (no_fields))))) ≡ Ok (record { hosts = (record { name = (codes "a"); variables = (field (codes "i1") (list (no_items)) (field (codes "i2") (list (item (text (codes "a")) (item (boolean false) (no_items)))) (field (codes "op") opaque (no_fields)))) } ∷ record { name = (codes "b"); variables = (field (codes "i2") (list (item (text (codes "no")) (no_items))) (field (codes "op") opaque (no_fields))) } ∷ record { name = (codes "c"); variables = (field (codes "i1") (boolean false) (field (codes "op") opaque (no_fields))) } ∷ record { name = (codes "d"); variables = (field (codes "i2") (list (item (text (codes "t")) (no_items))) (field (codes "op") opaque (field (codes "s1") (rec (no_fields)) (no_fields)))) } ∷ []); groups = (record { name = (codes "all"); hosts = ((codes "a") ∷ (codes "b") ∷ (codes "c") ∷ (codes "d") ∷ []) } ∷ record { name = (codes "g1"); hosts = ((codes "b") ∷ (codes "c") ∷ []) } ∷ record { name = (codes "ungrouped"); hosts = ((codes "a") ∷ (codes "d") ∷ []) } ∷ []) })
inventory_74 = refl

inventory_75 : inventory_from (rec (field (codes "_meta") (rec (field (codes "hostvars") (rec (field (codes "a") (rec (field (codes "i1") (list (no_items)) (field (codes "i2") (rec (field (codes "f") (rec (field (codes "g") (int (pos 2)) (no_fields))) (field (codes "g") (list (item (text (codes "a")) (item (text (codes "x")) (no_items)))) (no_fields)))) (field (codes "s1") (rec (no_fields)) (no_fields))))) (no_fields))) (no_fields))) (field (codes "all") (rec (field (codes "hosts") (list (item (text (codes "a")) (no_items))) (field (codes "vars") (rec (no_fields)) (no_fields)))) (field (codes "g1") (rec (field (codes "hosts") (list (item (text (codes "a")) (no_items))) (field (codes "vars") (rec (no_fields)) (no_fields)))) (no_fields))))) ≡ Ok (record { hosts = (record { name = (codes "a"); variables = (field (codes "i1") (list (no_items)) (field (codes "i2") (rec (field (codes "f") (rec (field (codes "g") (int (pos 2)) (no_fields))) (field (codes "g") (list (item (text (codes "a")) (item (text (codes "x")) (no_items)))) (no_fields)))) (field (codes "s1") (rec (no_fields)) (no_fields)))) } ∷ []); groups = (record { name = (codes "all"); hosts = ((codes "a") ∷ []) } ∷ record { name = (codes "g1"); hosts = ((codes "a") ∷ []) } ∷ record { name = (codes "ungrouped"); hosts = ([]) } ∷ []) })
inventory_75 = refl

inventory_76 : inventory_from (rec (field (codes "_meta") (rec (field (codes "hostvars") (rec (field (codes "a") (rec (field (codes "i1") (list (no_items)) (no_fields))) (field (codes "b") (rec (field (codes "i1") (list (item (int (pos 1)) (item (text (codes "no")) (no_items)))) (no_fields))) (field (codes "c") (rec (no_fields)) (no_fields))))) (no_fields))) (field (codes "all") (rec (field (codes "hosts") (list (item (text (codes "a")) (item (text (codes "b")) (item (text (codes "c")) (no_items))))) (field (codes "vars") (rec (field (codes "s1") (boolean true) (no_fields))) (no_fields)))) (field (codes "g1") (rec (field (codes "hosts") (list (item (text (codes "a")) (no_items))) (field (codes "vars") (rec (no_fields)) (no_fields)))) (field (codes "g2") (rec (field (codes "hosts") (list (item (text (codes "a")) (no_items))) (field (codes "vars") (rec (field (codes "op") opaque (no_fields))) (no_fields)))) (no_fields)))))) ≡ Ok (record { hosts = (record { name = (codes "a"); variables = (field (codes "i1") (list (no_items)) (field (codes "op") opaque (field (codes "s1") (boolean true) (no_fields)))) } ∷ record { name = (codes "b"); variables = (field (codes "i1") (list (item (int (pos 1)) (item (text (codes "no")) (no_items)))) (field (codes "s1") (boolean true) (no_fields))) } ∷ record { name = (codes "c"); variables = (field (codes "s1") (boolean true) (no_fields)) } ∷ []); groups = (record { name = (codes "all"); hosts = ((codes "a") ∷ (codes "b") ∷ (codes "c") ∷ []) } ∷ record { name = (codes "g1"); hosts = ((codes "a") ∷ []) } ∷ record { name = (codes "g2"); hosts = ((codes "a") ∷ []) } ∷ record { name = (codes "ungrouped"); hosts = ((codes "b") ∷ (codes "c") ∷ []) } ∷ []) })
inventory_76 = refl

inventory_77 : inventory_from (rec (field (codes "_meta") (rec (field (codes "hostvars") (rec (field (codes "a") (rec (field (codes "i1") (list (no_items)) (no_fields))) (field (codes "b") (rec (field (codes "i1") (text ([])) (field (codes "op") opaque (no_fields)))) (field (codes "c") (rec (field (codes "i1") (text (codes "t")) (field (codes "s1") (list (no_items)) (no_fields)))) (field (codes "d") (rec (field (codes "i2") (text (codes "t")) (field (codes "s1") (rec (field (codes "f") (list (item (boolean true) (no_items))) (no_fields))) (no_fields)))) (no_fields)))))) (no_fields))) (field (codes "all") (rec (field (codes "hosts") (list (item (text (codes "a")) (item (text (codes "b")) (item (text (codes "c")) (item (text (codes "d")) (no_items)))))) (field (codes "vars") (rec (field (codes "i2") (int (negsuc 0)) (field (codes "op") opaque (no_fields)))) (no_fields)))) (field (codes "g2") (rec (field (codes "hosts") (list (item (text (codes "c")) (no_items))) (field (codes "vars") (rec (field (codes "i1") (boolean false) (field (codes "op") opaque (field (codes "s1") null (no_fields))))) (no_fields)))) (no_fields))))) ≡ Ok (record { hosts = (record { name = (codes "a"); variables = (field (codes "i1") (list (no_items)) (field (codes "i2") (int (negsuc 0)) (field (codes "op") opaque (no_fields)))) } ∷ record { name = (codes "b"); variables = (field (codes "i1") (text ([])) (field (codes "i2") (int (negsuc 0)) (field (codes "op") opaque (no_fields)))) } ∷ record { name = (codes "c"); variables = (field (codes "i1") (text (codes "t")) (field (codes "i2") (int (negsuc 0)) (field (codes "op") opaque (field (codes "s1") (list (no_items)) (no_fields))))) } ∷ record { name = (codes "d"); variables = (field (codes "i2") (text (codes "t")) (field (codes "op") opaque (field (codes "s1") (rec (field (codes "f") (list (item (boolean true) (no_items))) (no_fields))) (no_fields)))) } ∷ []); groups = (record { name = (codes "all"); hosts = ((codes "a") ∷ (codes "b") ∷ (codes "c") ∷ (codes "d") ∷ []) } ∷ record { name = (codes "g2"); hosts = ((codes "c") ∷ []) } ∷ record { name = (codes "ungrouped"); hosts = ((codes "a") ∷ (codes "b") ∷ (codes "d") ∷ []) } ∷ []) })
inventory_77 = refl

inventory_78 : inventory_from (rec (field (codes "_meta") (rec (field (codes "hostvars") (rec (field (codes "a") (rec (field (codes "i1") (list (no_items)) (no_fields))) (field (codes "b") (rec (field (codes "i2") (int (pos 1)) (field (codes "op") opaque (no_fields)))) (field (codes "c") (rec (no_fields)) (field (codes "d") (rec (no_fields)) (no_fields)))))) (no_fields))) (field (codes "all") (rec (field (codes "hosts") (list (item (text (codes "a")) (item (text (codes "b")) (item (text (codes "c")) (item (text (codes "d")) (no_items)))))) (field (codes "vars") (rec (field (codes "i1") (list (item (int (pos 0)) (no_items))) (field (codes "s1") (text (codes "t")) (no_fields)))) (no_fields)))) (field (codes "g1") (rec (field (codes "children") (list (item (text (codes "g2")) (no_items))) (field (codes "hosts") (list (item (text (codes "d")) (no_items))) (field (codes "vars") (rec (field (codes "i2") (int (negsuc 0)) (no_fields))) (no_fields))))) (field (codes "g2") (rec (field (codes "hosts") (list (item (text (codes "a")) (no_items))) (field (codes "vars") (rec (field (codes "i1") (rec (no_fields)) (field (codes "op") opaque (no_fields)))) (no_fields)))) (no_fields)))))) ≡ Ok (record { hosts = (record { name = (codes "a"); variables = (field (codes "i1") (list (no_items)) (field (codes "i2") (int (negsuc 0)) (field (codes "op") opaque (field (codes "s1") (text (codes "t")) (no_fields))))) } ∷ record { name = (codes "b"); variables = (field (codes "i1") (list (item (int (pos 0)) (no_items))) (field (codes "i2") (int (pos 1)) (field (codes "op") opaque (field (codes "s1") (text (codes "t")) (no_fields))))) } ∷ record { name = (codes "c"); variables = (field (codes "i1") (list (item (int (pos 0)) (no_items))) (field (codes "s1") (text (codes "t")) (no_fields))) } ∷ record { name = (codes "d"); variables = (field (codes "i1") (list (item (int (pos 0)) (no_items))) (field (codes "i2") (int (negsuc 0)) (field (codes "s1") (text (codes "t")) (no_fields)))) } ∷ []); groups = (record { name = (codes "all"); hosts = ((codes "a") ∷ (codes "b") ∷ (codes "c") ∷ (codes "d") ∷ []) } ∷ record { name = (codes "g1"); hosts = ((codes "d") ∷ (codes "a") ∷ []) } ∷ record { name = (codes "g2"); hosts = ((codes "a") ∷ []) } ∷ record { name = (codes "ungrouped"); hosts = ((codes "b") ∷ (codes "c") ∷ []) } ∷ []) })
inventory_78 = refl

inventory_79 : inventory_from (rec (field (codes "_meta") (rec (field (codes "hostvars") (rec (field (codes "a") (rec (field (codes "i1") (list (no_items)) (no_fields))) (field (codes "b") (rec (field (codes "i2") (list (no_items)) (field (codes "op") opaque (no_fields)))) (field (codes "c") (rec (field (codes "i2") (boolean true) (no_fields))) (no_fields))))) (no_fields))) (field (codes "all") (rec (field (codes "hosts") (list (item (text (codes "a")) (item (text (codes "b")) (item (text (codes "c")) (no_items))))) (field (codes "vars") (rec (field (codes "s1") (list (item (boolean false) (item (text ([])) (no_items)))) (no_fields))) (no_fields)))) (no_fields)))) ≡ Ok (record { hosts = (record { name = (codes "a"); variables = (field (codes "i1") (list (no_items)) (field (codes "s1") (list (item (boolean false) (item (text ([])) (no_items)))) (no_fields))) } ∷ record { name = (codes "b"); variables = (field (codes "i2") (list (no_items)) (field (codes "op") opaque (field (codes "s1") (list (item (boolean false) (item (text ([])) (no_items)))) (no_fields)))) } ∷ record { name = (codes "c"); variables = (field (codes "i2") (boolean true) (field (codes "s1") (list (item (boolean false) (item (text ([])) (no_items)))) (no_fields))) } ∷ []); groups = (record { name = (codes "all"); hosts = ((codes "a") ∷ (codes "b") ∷ (codes "c") ∷ []) } ∷ record { name = (codes "ungrouped"); hosts = ((codes "a") ∷ (codes "b") ∷ (codes "c") ∷ []) } ∷ []) })
inventory_79 = refl

inventory_80 : inventory_from (rec (field (codes "_meta") (rec (field (codes "hostvars") (rec (field (codes "a") (rec (field (codes "i1") (list (no_items)) (no_fields))) (field (codes "b") (rec (field (codes "s1") (int (pos 1)) (no_fields))) (field (codes "c") (rec (field (codes "i1") (text (codes "a")) (no_fields))) (field (codes "d") (rec (no_fields)) (no_fields)))))) (no_fields))) (field (codes "all") (rec (field (codes "hosts") (list (item (text (codes "a")) (item (text (codes "b")) (item (text (codes "c")) (item (text (codes "d")) (no_items)))))) (field (codes "vars") (rec (field (codes "i1") (boolean true) (no_fields))) (no_fields)))) (field (codes "g1") (rec (field (codes "hosts") (list (item (text (codes "a")) (item (text (codes "b")) (item (text (codes "c")) (no_items))))) (field (codes "vars") (rec (no_fields)) (no_fields)))) (field (codes "g2") (rec (field (codes "hosts") (list (item (text (codes "a")) (item (text (codes "b")) (item (text (codes "c")) (no_items))))) (field (codes "vars") (rec (field (codes "s1") (int (pos 1)) (no_fields))) (no_fields)))) (no_fields)))))) ≡ Ok (record { hosts = (record { name = (codes "a"); variables = (field (codes "i1") (list (no_items)) (field (codes "s1") (int (pos 1)) (no_fields))) } ∷ record { name = (codes "b"); variables = (field (codes "i1") (boolean true) (field (codes "s1") (int (pos 1)) (no_fields))) } ∷ record { name = (codes "c"); variables = (field (codes "i1") (text (codes "a")) (field (codes "s1") (int (pos 1)) (no_fields))) } ∷ record { name = (codes "d"); variables = (field (codes "i1") (boolean true) (no_fields)) } ∷ []); groups = (record { name = (codes "all"); hosts = ((codes "a") ∷ (codes "b") ∷ (codes "c") ∷ (codes "d") ∷ []) } ∷ record { name = (codes "g1"); hosts = ((codes "a") ∷ (codes "b") ∷ (codes "c") ∷ []) } ∷ record { name = (codes "g2"); hosts = ((codes "a") ∷ (codes "b") ∷ (codes "c") ∷ []) } ∷ record { name = (codes "ungrouped"); hosts = ((codes "d") ∷ []) } ∷ []) })
inventory_80 = refl

inventory_81 : inventory_from (rec (field (codes "_meta") (rec (field (codes "hostvars") (rec (field (codes "a") (rec (field (codes "i1") (list (no_items)) (no_fields))) (field (codes "b") (rec (no_fields)) (no_fields)))) (no_fields))) (field (codes "all") (rec (field (codes "hosts") (list (item (text (codes "a")) (item (text (codes "b")) (no_items)))) (field (codes "vars") (rec (field (codes "op") opaque (no_fields))) (no_fields)))) (field (codes "g1") (rec (field (codes "hosts") (list (item (text (codes "a")) (item (text (codes "b")) (no_items)))) (field (codes "vars") (rec (field (codes "i2") (rec (no_fields)) (no_fields))) (no_fields)))) (field (codes "g2") (rec (field (codes "hosts") (list (item (text (codes "a")) (no_items))) (field (codes "vars") (rec (field (codes "i1") (list (item (text (codes "b")) (no_items))) (field (codes "op") opaque (no_fields)))) (no_fields)))) (no_fields)))))) ≡ Ok (record { hosts = (record { name = (codes "a"); variables = (field (codes "i1") (list (no_items)) (field (codes "i2") (rec (no_fields)) (field (codes "op") opaque (no_fields)))) } ∷ record { name = (codes "b"); variables = (field (codes "i2") (rec (no_fields)) (field (codes "op") opaque (no_fields))) } ∷ []); groups = (record { name = (codes "all"); hosts = ((codes "a") ∷ (codes "b") ∷ []) } ∷ record { name = (codes "g1"); hosts = ((codes "a") ∷ (codes "b") ∷ []) } ∷ record { name = (codes "g2"); hosts = ((codes "a") ∷ []) } ∷ record { name = (codes "ungrouped"); hosts = ([]) } ∷ []) })
inventory_81 = refl

inventory_82 : inventory_from (rec (field (codes "_meta") (rec (field (codes "hostvars") (rec (field (codes "a") (rec (field (codes "i1") (list (no_items)) (no_fields))) (field (codes "b") (rec (no_fields)) (no_fields)))) (no_fields))) (field (codes "all") (rec (field (codes "hosts") (list (item (text (codes "a")) (item (text (codes "b")) (no_items)))) (field (codes "vars") (rec (no_fields)) (no_fields)))) (field (codes "g1") (rec (field (codes "hosts") (list (no_items)) (field (codes "vars") (rec (field (codes "i1") (list (item (text ([])) (no_items))) (field (codes "i2") (list (item (text (codes "a")) (no_items))) (no_fields)))) (no_fields)))) (no_fields))))) ≡ Ok (record { hosts = (record { name = (codes "a"); variables = (field (codes "i1") (list (no_items)) (no_fields)) } ∷ record { name = (codes "b"); variables = (no_fields) } ∷ []); groups = (record { name = (codes "all"); hosts = ((codes "a") ∷ (codes "b") ∷ []) } ∷ record { name = (codes "g1"); hosts = ([]) } ∷ record { name = (codes "ungrouped"); hosts = ((codes "a") ∷ (codes "b") ∷ []) } ∷ []) })
inventory_82 = refl

inventory_83 : inventory_from (rec (field (codes "_meta") (rec (field (codes "hostvars") (rec (field (codes "a") (rec (field (codes "i1") (rec (field (codes "f") (boolean false) (field (codes "g") (list (no_items)) (no_fields)))) (no_fields))) (field (codes "b") (rec (field (codes "i1") (list (item (boolean false) (no_items))) (field (codes "op") opaque (no_fields)))) (no_fields)))) (no_fields))) (field (codes "all") (rec (field (codes "hosts") (list (item (text (codes "a")) (item (text (codes "b")) (no_items)))) (field (codes "vars") (rec (field (codes "op") opaque (no_fields))) (no_fields)))) (field (codes "g1") (rec (field (codes "hosts") (list (item (text (codes "a")) (item (text (codes "b")) (no_items)))) (field (codes "vars") (rec (field (codes "i2") (boolean false) (no_fields))) (no_fields)))) (field (codes "g2") (rec (field (codes "hosts") (list (item (text (codes "b")) (no_items))) (field (codes "vars") (rec (field (codes "i2") (list (no_items)) (no_fields))) (no_fields)))) (no_fields)))))) ≡ Ok (record { hosts = (record { name = (codes "a"); variables = (field (codes "i1") (rec (field (codes "f") (boolean false) (field (codes "g") (list (no_items)) (no_fields)))) (field (codes "i2") (boolean false) (field (codes "op") opaque (no_fields)))) } ∷ record { name = (codes "b"); variables = (field (codes "i1") (list (item (boolean false) (no_items))) (field (codes "i2") (list (no_items)) (field (codes "op") opaque (no_fields)))) } ∷ []); groups = (record { name = (codes "all"); hosts = ((codes "a") ∷ (codes "b") ∷ []) } ∷ record { name = (codes "g1"); hosts = ((codes "a") ∷ (codes "b") ∷ []) } ∷ record { name = (codes "g2"); hosts = ((codes "b") ∷ []) } ∷ record { name = (codes "ungrouped"); hosts = ([]) } ∷ []) })
inventory_83 = refl

inventory_84 : inventory_from (rec (field (codes "_meta") (rec (field (codes "hostvars") (rec (field (codes "a") (rec (field (codes "i1") (rec (field (codes "f") (boolean false) (field (codes "g") (text (codes "b")) (no_fields)))) (no_fields))) (no_fields))) (no_fields))) (field (codes "all") (rec (field (codes "hosts") (list (item (text (codes "a")) (no_items))) (field (codes "vars") (rec (field (codes "i2") (rec (field (codes "g") (list (item (text (codes "x")) (item (boolean true) (no_items)))) (no_fields))) (field (codes "op") opaque (field (codes "s1") (text ([])) (no_fields))))) (no_fields)))) (field (codes "g1") (rec (field (codes "hosts") (list (item (text (codes "a")) (no_items))) (field (codes "vars") (rec (no_fields)) (no_fields)))) (field (codes "g2") (rec (field (codes "hosts") (list (no_items)) (field (codes "vars") (rec (field (codes "i1") (text ([])) (no_fields))) (no_fields)))) (no_fields)))))) ≡ Ok (record { hosts = (record { name = (codes "a"); variables = (field (codes "i1") (rec (field (codes "f") (boolean false) (field (codes "g") (text (codes "b")) (no_fields)))) (field (codes "i2") (rec (field (codes "g") (list (item (text (codes "x")) (item (boolean true) (no_items)))) (no_fields))) (field (codes "op") opaque (field (codes "s1") (text ([])) (no_fields))))) } ∷ []); groups = (record { name = (codes "all"); hosts = ((codes "a") ∷ []) } ∷ record { name = (codes "g1"); hosts = ((codes "a") ∷ []) } ∷ record { name = (codes "g2"); hosts = ([]) } ∷ record { name = (codes "ungrouped"); hosts = ([]) } ∷ []) })
inventory_84 = refl

inventory_85 : inventory_from (rec (field (codes "_meta") (rec (field (codes "hostvars") (rec (field (codes "a") (rec (field (codes "i1") (rec (field (codes "f") (int (pos 1)) (field (codes "g") (rec (field (codes "g") (boolean true) (no_fields))) (no_fields)))) (field (codes "i2") (rec (field (codes "f") (list (item (text (codes "a")) (no_items))) (no_fields))) (no_fields)))) (field (codes "b") (rec (field (codes "i2") (rec (field (codes "f") (rec (no_fields)) (no_fields))) (no_fields))) (no_fields)))) (no_fields))) (field (codes "all") (rec (field (codes "hosts") (list (item (text (codes "a")) (item (text (codes "b")) (no_items)))) (field (codes "vars") (rec (field (codes "i1") (int (pos 1)) (no_fields))) (no_fields)))) (field (codes "g2") (rec (field (codes "hosts") (list (item (text (codes "a")) (item (text (codes "b")) (no_items)))) (field (codes "vars") (rec (no_fields)) (no_fields)))) (no_fields))))) ≡ Ok (record { hosts = (record { name = (codes "a"); variables = (field (codes "i1") (rec (field (codes "f") (int (pos 1)) (field (codes "g") (rec (field (codes "g") (boolean true) (no_fields))) (no_fields)))) (field (codes "i2") (rec (field (codes "f") (list (item (text (codes "a")) (no_items))) (no_fields))) (no_fields))) } ∷ record { name = (codes "b"); variables = (field (codes "i1") (int (pos 1)) (field (codes "i2") (rec (field (codes "f") (rec (no_fields)) (no_fields))) (no_fields))) } ∷ []); groups = (record { name = (codes "all"); hosts = ((codes "a") ∷ (codes "b") ∷ []) } ∷ record { name = (codes "g2"); hosts = ((codes "a") ∷ (codes "b") ∷ []) } ∷ record { name = (codes "ungrouped"); hosts = ([]) } ∷ []) })
inventory_85 = refl

inventory_86 : inventory_from (rec (field (codes "_meta") (rec (field (codes "hostvars") (rec (field (codes "a") (rec (field (codes "i1") (rec (field (codes "f") (int (pos 2)) (field (codes "g") (boolean true) (no_fields)))) (no_fields))) (field (codes "b") (rec (field (codes "i2") (boolean true) (field (codes "op") opaque (no_fields)))) (field (codes "c") (rec (no_fields)) (field (codes "d") (rec (field (codes "op") opaque (no_fields))) (no_fields)))))) (no_fields))) (field (codes "all") (rec (field (codes "hosts") (list (item (text (codes "a")) (item (text (codes "b")) (item (text (codes "c")) (item (text (codes "d")) (no_items)))))) (field (codes "vars") (rec (field (codes "i2") (boolean false) (field (codes "s1") (text (codes "a")) (no_fields)))) (no_fields)))) (no_fields)))) ≡ Ok (record { hosts = (record { name = (codes "a"); variables = (field (codes "i1") (rec (field (codes "f") (int (pos 2)) (field (codes "g") (boolean true) (no_fields)))) (field (codes "i2") (boolean false) (field (codes "s1") (text (codes "a")) (no_fields)))) } ∷ record { name = (codes "b"); variables = (field (codes "i2") (boolean true) (field (codes "op") opaque (field (codes "s1") (text (codes "a")) (no_fields)))) } ∷ record { name = (codes "c"); variables = (field (codes "i2") (boolean false) (field (codes "s1") (text (codes "a")) (no_fields))) } ∷ record { name = (codes "d"); variables = (field (codes "i2") (boolean false) (field (codes "op") opaque (field (codes "s1") (text (codes "a")) (no_fields)))) } ∷ []); groups = (record { name = (codes "all"); hosts = ((codes "a") ∷ (codes "b") ∷ (codes "c") ∷ (codes "d") ∷ []) } ∷ record { name = (codes "ungrouped"); hosts = ((codes "a") ∷ (codes "b") ∷ (codes "c") ∷ (codes "d") ∷ []) } ∷ []) })
inventory_86 = refl

inventory_87 : inventory_from (rec (field (codes "_meta") (rec (field (codes "hostvars") (rec (field (codes "a") (rec (field (codes "i1") (rec (field (codes "f") (list (item (int (pos 1)) (no_items))) (field (codes "g") (list (no_items)) (no_fields)))) (field (codes "i2") (rec (no_fields)) (no_fields)))) (field (codes "b") (rec (field (codes "i1") (rec (field (codes "f") (list (no_items)) (field (codes "g") (text ([])) (no_fields)))) (no_fields))) (field (codes "c") (rec (field (codes "op") opaque (no_fields))) (no_fields))))) (no_fields))) (field (codes "all") (rec (field (codes "hosts") (list (item (text (codes "a")) (item (text (codes "b")) (item (text (codes "c")) (no_items))))) (field (codes "vars") (rec (field (codes "s1") (rec (no_fields)) (no_fields))) (no_fields)))) (field (codes "g1") (rec (field (codes "children") (list (item (text (codes "g2")) (no_items))) (field (codes "hosts") (list (item (text (codes "b")) (item (text (codes "c")) (no_items)))) (field (codes "vars") (rec (field (codes "i2") (list (item (boolean false) (item (int (negsuc 0)) (no_items)))) (field (codes "op") opaque (no_fields)))) (no_fields))))) (field (codes "g2") (rec (field (codes "hosts") (list (item (text (codes "a")) (item (text (codes "b")) (no_items)))) (field (codes "vars") (rec (field (codes "op") opaque (no_fields))) (no_fields)))) (no_fields)))))) ≡ Ok (record { hosts = (record { name = (codes "a"); variables = (field (codes "i1") (rec (field (codes "f") (list (item (int (pos 1)) (no_items))) (field (codes "g") (list (no_items)) (no_fields)))) (field (codes "i2") (rec (no_fields)) (field (codes "op") opaque (field (codes "s1") (rec (no_fields)) (no_fields))))) } ∷ record { name = (codes "b"); variables = (field (codes "i1") (rec (field (codes "f") (list (no_items)) (field (codes "g") (text ([])) (no_fields)))) (field (codes "i2") (list (item (boolean false) (item (int (negsuc 0)) (no_items)))) (field (codes "op") opaque (field (codes "s1") (rec (no_fields)) (no_fields))))) } ∷ record { name = (codes "c"); variables = (field (codes "i2") (list (item (boolean false) (item (int (negsuc 0)) (no_items)))) (field (codes "op") opaque (field (codes "s1") (rec (no_fields)) (no_fields)))) } ∷ []); groups = (record { name = (codes "all"); hosts = ((codes "a") ∷ (codes "b") ∷ (codes "c") ∷ []) } ∷ record { name = (codes "g1"); hosts = ((codes "b") ∷ (codes "c") ∷ (codes "a") ∷ []) } ∷ record { name = (codes "g2"); hosts = ((codes "a") ∷ (codes "b") ∷ []) } ∷ record { name = (codes "ungrouped"); hosts = ([]) } ∷ []) })
inventory_87 = refl

inventory_88 : inventory_from (rec (field (codes "_meta") (rec (field (codes "hostvars") (rec (field (codes "a") (rec (field (codes "i1") (rec (field (codes "f") (rec (field (codes "f") (int (pos 2)) (field (codes "g") (boolean true) (no_fields)))) (field (codes "g") (boolean true) (no_fields)))) (field (codes "op") opaque (no_fields)))) (field (codes "b") (rec (no_fields)) (field (codes "c") (rec (field (codes "op") opaque (no_fields))) (no_fields))))) (no_fields))) (field (codes "all") (rec (field (codes "hosts") (list (item (text (codes "a")) (item (text (codes "b")) (item (text (codes "c")) (no_items))))) (field (codes "vars") (rec (field (codes "s1") (boolean false) (no_fields))) (no_fields)))) (field (codes "g2") (rec (field (codes "hosts") (list (item (text (codes "b")) (no_items))) (field (codes "vars") (rec (field (codes "s1") (int (pos 1)) (no_fields))) (no_fields)))) (no_fields))))) ≡ Ok (record { hosts = (record { name = (codes "a"); variables = (field (codes "i1") (rec (field (codes "f") (rec (field (codes "f") (int (pos 2)) (field (codes "g") (boolean true) (no_fields)))) (field (codes "g") (boolean true) (no_fields)))) (field (codes "op") opaque (field (codes "s1") (boolean false) (no_fields)))) } ∷ record { name = (codes "b"); variables = (field (codes "s1") (int (pos 1)) (no_fields)) } ∷ record { name = (codes "c"); variables = (field (codes "op") opaque (field (codes "s1") (boolean false) (no_fields))) } ∷ []); groups = (record { name = (codes "all"); hosts = ((codes "a") ∷ (codes "b") ∷ (codes "c") ∷ []) } ∷ record { name = (codes "g2"); hosts = ((codes "b") ∷ []) } ∷ record { name = (codes "ungrouped"); hosts = ((codes "a") ∷ (codes "c") ∷ []) } ∷ []) })
inventory_88 = refl

inventory_89 : inventory_from (rec (field (codes "_meta") (rec (field (codes "hostvars") (rec (field (codes "a") (rec (field (codes "i1") (rec (field (codes "f") (rec (field (codes "f") (text (codes "a")) (field (codes "g") (text (codes "no")) (no_fields)))) (field (codes "g") (list (item (text ([])) (item (int (pos 0)) (no_items)))) (no_fields)))) (no_fields))) (field (codes "b") (rec (field (codes "i2") (text ([])) (no_fields))) (field (codes "c") (rec (no_fields)) (no_fields))))) (no_fields))) (field (codes "all") (rec (field (codes "hosts") (list (item (text (codes "a")) (item (text (codes "b")) (item (text (codes "c")) (no_items))))) (field (codes "vars") (rec (field (codes "i1") (int (pos 3)) (field (codes "s1") (rec (field (codes "f") (text (codes "no")) (field (codes "g") (text (codes "x")) (no_fields)))) (no_fields)))) (no_fields)))) (field (codes "g2") (rec (field (codes "hosts") (list (item (text (codes "a")) (item (text (codes "b")) (item (text (codes "c")) (no_items))))) (field (codes "vars") (rec (field (codes "i1") (list (no_items)) (no_fields))) (no_fields)))) (no_fields))))) ≡ Ok (record { hosts = (record { name = (codes "a"); variables = (field (codes "i1") (rec (field (codes "f") (rec (field (codes "f") (text (codes "a")) (field (codes "g") (text (codes "no")) (no_fields)))) (field (codes "g") (list (item (text ([])) (item (int (pos 0)) (no_items)))) (no_fields)))) (field (codes "s1") (rec (field (codes "f") (text (codes "no")) (field (codes "g") (text (codes "x")) (no_fields)))) (no_fields))) } ∷ record { name = (codes "b"); variables = (field (codes "i1") (list (no_items)) (field (codes "i2") (text ([])) (field (codes "s1") (rec (field (codes "f") (text (codes "no")) (field (codes "g") (text (codes "x")) (no_fields)))) (no_fields)))) } ∷ record { name = (codes "c"); variables = (field (codes "i1") (list (no_items)) (field (codes "s1") (rec (field (codes "f") (text (codes "no")) (field (codes "g") (text (codes "x")) (no_fields)))) (no_fields))) } ∷ []); groups = (record { name = (codes "all"); hosts = ((codes "a") ∷ (codes "b") ∷ (codes "c") ∷ []) } ∷ record { name = (codes "g2"); hosts = ((codes "a") ∷ (codes "b") ∷ (codes "c") ∷ []) } ∷ record { name = (codes "ungrouped"); hosts = ([]) } ∷ []) })
inventory_89 = refl

inventory_90 : inventory_from (rec (field (codes "_meta") (rec (field (codes "hostvars") (rec (field (codes "a") (rec (field (codes "i1") (rec (field (codes "f") (rec (field (codes "f") (text (codes "no")) (field (codes "g") (text (codes "t")) (no_fields)))) (no_fields))) (no_fields))) (no_fields))) (no_fields))) (field (codes "all") (rec (field (codes "hosts") (list (item (text (codes "a")) (no_items))) (field (codes "vars") (rec (no_fields)) (no_fields)))) (field (codes "g1") (rec (field (codes "hosts") (list (item (text (codes "a")) (no_items))) (field (codes "vars") (rec (no_fields)) (no_fields)))) (field (codes "g2") (rec (field (codes "hosts") (list (no_items)) (field (codes "vars") (rec (field (codes "i1") (text (codes "x")) (field (codes "op") opaque (no_fields)))) (no_fields)))) (no_fields)))))) ≡ Ok (record { hosts = (record { name = (codes "a"); variables = (field (codes "i1") (rec (field (codes "f") (rec (field (codes "f") (text (codes "no")) (field (codes "g") (text (codes "t")) (no_fields)))) (no_fields))) (no_fields)) } ∷ []); groups = (record { name = (codes "all"); hosts = ((codes "a") ∷ []) } ∷ record { name = (codes "g1"); hosts = ((codes "a") ∷ []) } ∷ record { name = (codes "g2"); hosts = ([]) } ∷ record { name = (codes "ungrouped"); hosts = ([]) } ∷ []) })
inventory_90 = refl

inventory_91 : inventory_from (rec (field (codes "_meta") (rec (field (codes "hostvars") (rec (field (codes "a") (rec (field (codes "i1") (rec (field (codes "f") (rec (field (codes "g") (int (negsuc 0)) (no_fields))) (field (codes "g") (list (no_items)) (no_fields)))) (no_fields))) (no_fields))) (no_fields))) (field (codes "all") (rec (field (codes "hosts") (list (item (text (codes "a")) (no_items))) (field (codes "vars") (rec (no_fields)) (no_fields)))) (field (codes "g1") (rec (field (codes "hosts") (list (item (text (codes "a")) (no_items))) (field (codes "vars") (rec (no_fields)) (no_fields)))) (no_fields))))) ≡ Ok (record { hosts = (record { name = (codes "a"); variables = (field (codes "i1") (rec (field (codes "f") (rec (field (codes "g") (int (negsuc 0)) (no_fields))) (field (codes "g") (list (no_items)) (no_fields)))) (no_fields)) } ∷ []); groups = (record { name = (codes "all"); hosts = ((codes "a") ∷ []) } ∷ record { name = (codes "g1"); hosts = ((codes "a") ∷ []) } ∷ record { name = (codes "ungrouped"); hosts = ([]) } ∷ []) })
inventory_91 = refl

inventory_92 : inventory_from (rec (field (codes "_meta") (rec (field (codes "hostvars") (rec (field (codes "a") (rec (field (codes "i1") (rec (field (codes "f") (text (codes "a")) (field (codes "g") (rec (field (codes "f") (int (pos 1)) (no_fields))) (no_fields)))) (field (codes "op") opaque (no_fields)))) (field (codes "b") (rec (no_fields)) (field (codes "c") (rec (field (codes "op") opaque (no_fields))) (field (codes "d") (rec (field (codes "i1") (list (no_items)) (no_fields))) (no_fields)))))) (no_fields))) (field (codes "all") (rec (field (codes "hosts") (list (item (text (codes "a")) (item (text (codes "b")) (item (text (codes "c")) (item (text (codes "d")) (no_items)))))) (field (codes "vars") (rec (no_fields)) (no_fields)))) (field (codes "g2") (rec (field (codes "hosts") (list (item (text (codes "c")) (item (text (codes "d")) (no_items)))) (field (codes "vars") (rec (field (codes "op") opaque (no_fields))) (no_fields)))) (no_fields))))) ≡ Ok (record { hosts = (record { name = (codes "a"); variables = (field (codes "i1") (rec (field (codes "f") (text (codes "a")) (field (codes "g") (rec (field (codes "f") (int (pos 1)) (no_fields))) (no_fields)))) (field (codes "op") opaque (no_fields))) } ∷ record { name = (codes "b"); variables = (no_fields) } ∷ record { name = (codes "c"); variables = (field (codes "op") opaque (no_fields)) } ∷ record { name = (codes "d"); variables = (field (codes "i1") (list (no_items)) (field (codes "op") opaque (no_fields))) } ∷ []); groups = (record { name = (codes "all"); hosts = ((codes "a") ∷ (codes "b") ∷ (codes "c") ∷ (codes "d") ∷ []) } ∷ record { name = (codes "g2"); hosts = ((codes "c") ∷ (codes "d") ∷ []) } ∷ record { name = (codes "ungrouped"); hosts = ((codes "a") ∷ (codes "b") ∷ []) } ∷ []) })
inventory_92 = refl

inventory_93 : inventory_from (rec (field (codes "_meta") (rec (field (codes "hostvars") (rec (field (codes "a") (rec (field (codes "i1") (rec (field (codes "f") null (no_fields))) (field (codes "i2") (boolean false) (field (codes "op") opaque (no_fields))))) (field (codes "b") (rec (field (codes "i1") (int (pos 1)) (field (codes "op") opaque (field (codes "s1") (text (codes "x")) (no_fields))))) (field (codes "c") (rec (field (codes "i1") (list (item (text (codes "b")) (item (text (codes "t")) (no_items)))) (no_fields))) (field (codes "d") (rec (field (codes "i1") (text (codes "t")) (no_fields))) (no_fields)))))) (no_fields))) (field (codes "all") (rec (field (codes "hosts") (list (item (text (codes "a")) (item (text (codes "b")) (item (text (codes "c")) (item (text (codes "d")) (no_items)))))) (field (codes "vars") (rec (field (codes "op") opaque (no_fields))) (no_fields)))) (field (codes "g1") (rec (field (codes "hosts") (list (item (text (codes "a")) (item (text (codes "b")) (item (text (codes "c")) (item (text (codes "d")) (no_items)))))) (field (codes "vars") (rec (field (codes "i2") (text ([])) (no_fields))) (no_fields)))) (no_fields))))) ≡ Ok (record { hosts = (record { name = (codes "a"); variables = (field (codes "i1") (rec (field (codes "f") null (no_fields))) (field (codes "i2") (boolean false) (field (codes "op") opaque (no_fields)))) } ∷ record { name = (codes "b"); variables = (field (codes "i1") (int (pos 1)) (field (codes "i2") (text ([])) (field (codes "op") opaque (field (codes "s1") (text (codes "x")) (no_fields))))) } ∷ record { name = (codes "c"); variables = (field (codes "i1") (list (item (text (codes "b")) (item (text (codes "t")) (no_items)))) (field (codes "i2") (text ([])) (field (codes "op") opaque (no_fields)))) } ∷ record { name = (codes "d"); variables = (field (codes "i1") (text (codes "t")) (field (codes "i2") (text ([])) (field (codes "op") opaque (no_fields)))) } ∷ []); groups = (record { name = (codes "all"); hosts = ((codes "a") ∷ (codes "b") ∷ (codes "c") ∷ (codes "d") ∷ []) } ∷ record { name = (codes "g1"); hosts = ((codes "a") ∷ (codes "b") ∷ (codes "c") ∷ (codes "d") ∷ []) } ∷ record { name = (codes "ungrouped"); hosts = ([]) } ∷ []) })
inventory_93 = refl

inventory_94 : inventory_from (rec (field (codes "_meta") (rec (field (codes "hostvars") (rec (field (codes "a") (rec (field (codes "i1") (rec (field (codes "g") (list (item null (item (text (codes "t")) (no_items)))) (no_fields))) (field (codes "op") opaque (no_fields)))) (no_fields))) (no_fields))) (field (codes "all") (rec (field (codes "hosts") (list (item (text (codes "a")) (no_items))) (field (codes "vars") (rec (field (codes "i1") (boolean true) (field (codes "i2") (list (no_items)) (field (codes "op") opaque (no_fields))))) (no_fields)))) (field (codes "g1") (rec (field (codes "hosts") (list (no_items)) (field (codes "vars") (rec (no_fields)) (no_fields)))) (no_fields))))) ≡ Ok (record { hosts = (record { name = (codes "a"); variables = (field (codes "i1") (rec (field (codes "g") (list (item null (item (text (codes "t")) (no_items)))) (no_fields))) (field (codes "i2") (list (no_items)) (field (codes "op") opaque (no_fields)))) } ∷ []); groups = (record { name = (codes "all"); hosts = ((codes "a") ∷ []) } ∷ record { name = (codes "g1"); hosts = ([]) } ∷ record { name = (codes "ungrouped"); hosts = ((codes "a") ∷ []) } ∷ []) })
inventory_94 = refl

inventory_95 : inventory_from (rec (field (codes "_meta") (rec (field (codes "hostvars") (rec (field (codes "a") (rec (field (codes "i1") (rec (field (codes "g") (text (codes "t")) (no_fields))) (no_fields))) (field (codes "b") (rec (field (codes "op") opaque (field (codes "s1") (int (pos 3)) (no_fields)))) (field (codes "c") (rec (field (codes "i1") (rec (field (codes "f") (list (no_items)) (field (codes "g") (boolean false) (no_fields)))) (field (codes "i2") (list (item (boolean true) (no_items))) (no_fields)))) (field (codes "d") (rec (field (codes "op") opaque (no_fields))) (no_fields)))))) (no_fields))) (field (codes "all") (rec (field (codes "hosts") (list (item (text (codes "a")) (item (text (codes "b")) (item (text (codes "c")) (item (text (codes "d")) (no_items)))))) (field (codes "vars") (rec (field (codes "s1") (int (pos 3)) (no_fields))) (no_fields)))) (field (codes "g2") (rec (field (codes "hosts") (list (item (text (codes "b")) (item (text (codes "c")) (item (text (codes "d")) (no_items))))) (field (codes "vars") (rec (field (codes "i2") (int (pos 1)) (field (codes "s1") (text (codes "no")) (no_fields)))) (no_fields)))) (no_fields))))) ≡ Ok (record { hosts = (record { name = (codes "a"); variables = (field (codes "i1") (rec (field (codes "g") (text (codes "t")) (no_fields))) (field (codes "s1") (int (pos 3)) (no_fields))) } ∷ record { name = (codes "b"); variables = (field (codes "i2") (int (pos 1)) (field (codes "op") opaque (field (codes "s1") (int (pos 3)) (no_fields)))) } ∷ record { name = (codes "c"); variables = (field (codes "i1") (rec (field (codes "f") (list (no_items)) (field (codes "g") (boolean false) (no_fields)))) (field (codes "i2") (list (item (boolean true) (no_items))) (field (codes "s1") (text (codes "no")) (no_fields)))) } ∷ record { name = (codes "d"); variables = (field (codes "i2") (int (pos 1)) (field (codes "op") opaque (field (codes "s1") (text (codes "no")) (no_fields)))) } ∷ []); groups = (record { name = (codes "all"); hosts = ((codes "a") ∷ (codes "b") ∷ (codes "c") ∷ (codes "d") ∷ []) } ∷ record { name = (codes "g2"); hosts = ((codes "b") ∷ (codes "c") ∷ (codes "d") ∷ []) } ∷ record { name = (codes "ungrouped"); hosts = ((codes "a") ∷ []) } ∷ []) })
inventory_95 = refl

inventory_96 : inventory_from (rec (field (codes "_meta") (rec (field (codes "hostvars") (rec (field (codes "a") (rec (field (codes "i1") (rec (no_fields)) (field (codes "i2") (list (no_items)) (no_fields)))) (no_fields))) (no_fields))) (field (codes "all") (rec (field (codes "hosts") (list (item (text (codes "a")) (no_items))) (field (codes "vars") (rec (field (codes "i2") (text (codes "no")) (no_fields))) (no_fields)))) (field (codes "g1") (rec (field (codes "hosts") (list (no_items)) (field (codes "vars") (rec (no_fields)) (no_fields)))) (no_fields))))) ≡ Ok (record { hosts = (record { name = (codes "a"); variables = (field (codes "i1") (rec (no_fields)) (field (codes "i2") (list (no_items)) (no_fields))) } ∷ []); groups = (record { name = (codes "all"); hosts = ((codes "a") ∷ []) } ∷ record { name = (codes "g1"); hosts = ([]) } ∷ record { name = (codes "ungrouped"); hosts = ((codes "a") ∷ []) } ∷ []) })
inventory_96 = refl

inventory_97 : inventory_from (rec (field (codes "_meta") (rec (field (codes "hostvars") (rec (field (codes "a") (rec (field (codes "i1") (rec (no_fields)) (field (codes "op") opaque (no_fields)))) (field (codes "b") (rec (field (codes "s1") (list (no_items)) (no_fields))) (field (codes "c") (rec (field (codes "i2") (int (pos 3)) (no_fields))) (field (codes "d") (rec (no_fields)) (no_fields)))))) (no_fields))) (field (codes "all") (rec (field (codes "hosts") (list (item (text (codes "a")) (item (text (codes "b")) (item (text (codes "c")) (item (text (codes "d")) (no_items)))))) (field (codes "vars") (rec (no_fields)) (no_fields)))) (field (codes "g1") (rec (field (codes "hosts") (list (item (text (codes "c")) (no_items))) (field (codes "vars") (rec (no_fields)) (no_fields)))) (field (codes "g2") (rec (field (codes "hosts") (list (item (text (codes "a")) (item (text (codes "c")) (item (text (codes "d")) (no_items))))) (field (codes "vars") (rec (no_fields)) (no_fields)))) (no_fields)))))) ≡ Ok (record { hosts = (record { name = (codes "a"); variables = (field (codes "i1") (rec (no_fields)) (field (codes "op") opaque (no_fields))) } ∷ record { name = (codes "b"); variables = (field (codes "s1") (list (no_items)) (no_fields)) } ∷ record { name = (codes "c"); variables = (field (codes "i2") (int (pos 3)) (no_fields)) } ∷ record { name = (codes "d"); variables = (no_fields) } ∷ []); groups = (record { name = (codes "all"); hosts = ((codes "a") ∷ (codes "b") ∷ (codes "c") ∷ (codes "d") ∷ []) } ∷ record { name = (codes "g1"); hosts = ((codes "c") ∷ []) } ∷ record { name = (codes "g2"); hosts = ((codes "a") ∷ (codes "c") ∷ (codes "d") ∷ []) } ∷ record { name = (codes "ungrouped"); hosts = ((codes "b") ∷ []) } ∷ []) })
inventory_97 = refl

inventory_98 : inventory_from (rec (field (codes "_meta") (rec (field (codes "hostvars") (rec (field (codes "a") (rec (field (codes "i1") (text ([])) (field (codes "i2") (list (item (int (pos 2)) (item (text (codes "t")) (no_items)))) (field (codes "op") opaque (no_fields))))) (field (codes "b") (rec (no_fields)) (field (codes "c") (rec (no_fields)) (no_fields))))) (no_fields))) (field (codes "all") (rec (field (codes "hosts") (list (item (text (codes "a")) (item (text (codes "b")) (item (text (codes "c")) (no_items))))) (field (codes "vars") (rec (field (codes "i2") (boolean false) (no_fields))) (no_fields)))) (field (codes "g2") (rec (field (codes "hosts") (list (item (text (codes "a")) (item (text (codes "b")) (item (text (codes "c")) (no_items))))) (field (codes "vars") (rec (no_fields)) (no_fields)))) (no_fields))))) ≡ Ok (record { hosts = (record { name = (codes "a"); variables = (field (codes "i1") (text ([])) (field (codes "i2") (list (item (int (pos 2)) (item (text (codes "t")) (no_items)))) (field (codes "op") opaque (no_fields)))) } ∷ record { name = (codes "b"); variables = (field (codes "i2") (boolean false) (no_fields)) } ∷ record { name = (codes "c"); variables = (field (codes "i2") (boolean false) (no_fields)) } ∷ []); groups = (record { name = (codes "all"); hosts = ((codes "a") ∷ (codes "b") ∷ (codes "c") ∷ []) } ∷ record { name = (codes "g2"); hosts = ((codes "a") ∷ (codes "b") ∷ (codes "c") ∷ []) } ∷ record { name = (codes "ungrouped"); hosts = ([]) } ∷ []) })
inventory_98 = refl

inventory_99 : inventory_from (rec (field (codes "_meta") (rec (field (codes "hostvars") (rec (field (codes "a") (rec (field (codes "i1") (text ([])) (field (codes "op") opaque (field (codes "s1") (list (item (boolean true) (item (boolean true) (no_items)))) (no_fields))))) (field (codes "b") (rec (no_fields)) (field (codes "c") (rec (no_fields)) (no_fields))))) (no_fields))) (field (codes "all") (rec (field (codes "hosts") (list (item (text (codes "a")) (item (text (codes "b")) (item (text (codes "c")) (no_items))))) (field (codes "vars") (rec (field (codes "i1") (rec (field (codes "g") (int (negsuc 0)) (no_fields))) (field (codes "i2") (rec (field (codes "f") (rec (field (codes "f") (text (codes "b")) (field (codes "g") (int (pos 3)) (no_fields)))) (field (codes "g") (rec (field (codes "f") (boolean true) (field (codes "g") (text (codes "x")) (no_fields)))) (no_fields)))) (field (codes "op") opaque (field (codes "s1") (text (codes "no")) (no_fields)))))) (no_fields)))) (field (codes "g1") (rec (field (codes "children") (list (item (text (codes "g2")) (no_items))) (field (codes "hosts") (list (item (text (codes "a")) (item (text (codes "b")) (item (text (codes "c")) (no_items))))) (field (codes "vars") (rec (field (codes "i2") (list (no_items)) (no_fields))) (no_fields))))) (field (codes "g2") (rec (field (codes "hosts") (list (item (text (codes "a")) (item (text (codes "b")) (no_items)))) (field (codes "vars") (rec (field (codes "i2") (list (item (text (codes "no")) (item (int (pos 2)) (no_items)))) (field (codes "s1") (text (codes "t")) (no_fields)))) (no_fields)))) (no_fields)))))) ≡ Ok (record { hosts = (record { name = (codes "a"); variables = (field (codes "i1") (text ([])) (field (codes "i2") (list (item (text (codes "no")) (item (int (pos 2)) (no_items)))) (field (codes "op") opaque (field (codes "s1") (list (item (boolean true) (item (boolean true) (no_items)))) (no_fields))))) } ∷ record { name = (codes "b"); variables = (field (codes "i1") (rec (field (codes "g") (int (negsuc 0)) (no_fields))) (field (codes "i2") (list (item (text (codes "no")) (item (int (pos 2)) (no_items)))) (field (codes "op") opaque (field (codes "s1") (text (codes "t")) (no_fields))))) } ∷ record { name = (codes "c"); variables = (field (codes "i1") (rec (field (codes "g") (int (negsuc 0)) (no_fields))) (field (codes "i2") (list (no_items)) (field (codes "op") opaque (field (codes "s1") (text (codes "no")) (no_fields))))) } ∷ []); groups = (record { name = (codes "all"); hosts = ((codes "a") ∷ (codes "b") ∷ (codes "c") ∷ []) } ∷ record { name = (codes "g1"); hosts = ((codes "a") ∷ (codes "b") ∷ (codes "c") ∷ []) } ∷ record { name = (codes "g2"); hosts = ((codes "a") ∷ (codes "b") ∷ []) } ∷ record { name = (codes "ungrouped"); hosts = ([]) } ∷ []) })
inventory_99 = refl

inventory_100 : inventory_from (rec (field (codes "_meta") (rec (field (codes "hostvars") (rec (field (codes "a") (rec (field (codes "i1") (text ([])) (field (codes "s1") (text (codes "b")) (no_fields)))) (no_fields))) (no_fields))) (field (codes "all") (rec (field (codes "hosts") (list (item (text (codes "a")) (no_items))) (field (codes "vars") (rec (field (codes "i2") (list (item (int (pos 1)) (no_items))) (no_fields))) (no_fields)))) (field (codes "g1") (rec (field (codes "hosts") (list (item (text (codes "a")) (no_items))) (field (codes "vars") (rec (field (codes "i1") (list (item (int (negsuc 0)) (no_items))) (field (codes "s1") (int (pos 2)) (no_fields)))) (no_fields)))) (no_fields))))) ≡ Ok (record { hosts = (record { name = (codes "a"); variables = (field (codes "i1") (text ([])) (field (codes "i2") (list (item (int (pos 1)) (no_items))) (field (codes "s1") (text (codes "b")) (no_fields)))) } ∷ []); groups = (record { name = (codes "all"); hosts = ((codes "a") ∷ []) } ∷ record { name = (codes "g1"); hosts = ((codes "a") ∷ []) } ∷ record { name = (codes "ungrouped"); hosts = ([]) } ∷ []) })
inventory_100 = refl

inventory_101 : inventory_from (rec (field (codes "_meta") (rec (field (codes "hostvars") (rec (field (codes "a") (rec (field (codes "i1") (text ([])) (no_fields))) (field (codes "b") (rec (field (codes "i2") (rec (field (codes "g") (int (pos 1)) (no_fields))) (no_fields))) (no_fields)))) (no_fields))) (field (codes "all") (rec (field (codes "hosts") (list (item (text (codes "a")) (item (text (codes "b")) (no_items)))) (field (codes "vars") (rec (field (codes "i1") (boolean true) (field (codes "s1") (text (codes "x")) (no_fields)))) (no_fields)))) (field (codes "g1") (rec (field (codes "hosts") (list (item (text (codes "a")) (item (text (codes "b")) (no_items)))) (field (codes "vars") (rec (field (codes "op") opaque (no_fields))) (no_fields)))) (field (codes "g2") (rec (field (codes "hosts") (list (item (text (codes "a")) (no_items))) (field (codes "vars") (rec (field (codes "s1") (text (codes "t")) (no_fields))) (no_fields)))) (no_fields)))))) ≡ Ok (record { hosts = (record { name = (codes "a"); variables = (field (codes "i1") (text ([])) (field (codes "op") opaque (field (codes "s1") (text (codes "t")) (no_fields)))) } ∷ record { name = (codes "b"); variables = (field (codes "i1") (boolean true) (field (codes "i2") (rec (field (codes "g") (int (pos 1)) (no_fields))) (field (codes "op") opaque (field (codes "s1") (text (codes "x")) (no_fields))))) } ∷ []); groups = (record { name = (codes "all"); hosts = ((codes "a") ∷ (codes "b") ∷ []) } ∷ record { name = (codes "g1"); hosts = ((codes "a") ∷ (codes "b") ∷ []) } ∷ record { name = (codes "g2"); hosts = ((codes "a") ∷ []) } ∷ record { name = (codes "ungrouped"); hosts = ([]) } ∷ []) })
inventory_101 = refl

inventory_102 : inventory_from (rec (field (codes "_meta") (rec (field (codes "hostvars") (rec (field (codes "a") (rec (field (codes "i1") (text ([])) (no_fields))) (field (codes "b") (rec (field (codes "op") opaque (field (codes "s1") (list (item (text (codes "no")) (no_items))) (no_fields)))) (field (codes "c") (rec (field (codes "op") opaque (no_fields))) (no_fields))))) (no_fields))) (field (codes "all") (rec (field (codes "hosts") (list (item (text (codes "a")) (item (text (codes "b")) (item (text (codes "c")) (no_items))))) (field (codes "vars") (rec (no_fields)) (no_fields)))) (field (codes "g1") (rec (field (codes "children") (list (item (text (codes "g2")) (no_items))) (field (codes "hosts") (list (item (text (codes "b")) (item (text (codes "c")) (no_items)))) (field (codes "vars") (rec (field (codes "i1") (list (item (int (pos 0)) (item (boolean true) (no_items)))) (field (codes "s1") (rec (field (codes "g") (int (pos 0)) (no_fields))) (no_fields)))) (no_fields))))) (field (codes "g2") (rec (field (codes "hosts") (list (item (text (codes "a")) (no_items))) (field (codes "vars") (rec (no_fields)) (no_fields)))) (no_fields)))))) ≡ Ok (record { hosts = (record { name = (codes "a"); variables = (field (codes "i1") (text ([])) (field (codes "s1") (rec (field (codes "g") (int (pos 0)) (no_fields))) (no_fields))) } ∷ record { name = (codes "b"); variables = (field (codes "i1") (list (item (int (pos 0)) (item (boolean true) (no_items)))) (field (codes "op") opaque (field (codes "s1") (list (item (text (codes "no")) (no_items))) (no_fields)))) } ∷ record { name = (codes "c"); variables = (field (codes "i1") (list (item (int (pos 0)) (item (boolean true) (no_items)))) (field (codes "op") opaque (field (codes "s1") (rec (field (codes "g") (int (pos 0)) (no_fields))) (no_fields)))) } ∷ []); groups = (record { name = (codes "all"); hosts = ((codes "a") ∷ (codes "b") ∷ (codes "c") ∷ []) } ∷ record { name = (codes "g1"); hosts = ((codes "b") ∷ (codes "c") ∷ (codes "a") ∷ []) } ∷ record { name = (codes "g2"); hosts = ((codes "a") ∷ []) } ∷ record { name = (codes "ungrouped"); hosts = ([]) } ∷ []) })
inventory_102 = refl

inventory_103 : inventory_from (rec (field (codes "_meta") (rec (field (codes "hostvars") (rec (field (codes "a") (rec (field (codes "i1") (text ([])) (no_fields))) (field (codes "b") (rec (field (codes "op") opaque (no_fields))) (field (codes "c") (rec (field (codes "op") opaque (no_fields))) (no_fields))))) (no_fields))) (field (codes "all") (rec (field (codes "hosts") (list (item (text (codes "a")) (item (text (codes "b")) (item (text (codes "c")) (no_items))))) (field (codes "vars") (rec (field (codes "op") opaque (no_fields))) (no_fields)))) (field (codes "g1") (rec (field (codes "hosts") (list (item (text (codes "c")) (no_items))) (field (codes "vars") (rec (field (codes "op") opaque (field (codes "s1") (list (no_items)) (no_fields)))) (no_fields)))) (no_fields))))) ≡ Ok (record { hosts = (record { name = (codes "a"); variables = (field (codes "i1") (text ([])) (field (codes "op") opaque (no_fields))) } ∷ record { name = (codes "b"); variables = (field (codes "op") opaque (no_fields)) } ∷ record { name = (codes "c"); variables = (field (codes "op") opaque (field (codes "s1") (list (no_items)) (no_fields))) } ∷ []); groups = (record { name = (codes "all"); hosts = ((codes "a") ∷ (codes "b") ∷ (codes "c") ∷ []) } ∷ record { name = (codes "g1"); hosts = ((codes "c") ∷ []) } ∷ record { name = (codes "ungrouped"); hosts = ((codes "a") ∷ (codes "b") ∷ []) } ∷ []) })
inventory_103 = refl

inventory_104 : inventory_from (rec (field (codes "_meta") (rec (field (codes "hostvars") (rec (field (codes "a") (rec (field (codes "i1") (text ([])) (no_fields))) (field (codes "b") (rec (field (codes "op") opaque (no_fields))) (no_fields)))) (no_fields))) (field (codes "all") (rec (field (codes "hosts") (list (item (text (codes "a")) (item (text (codes "b")) (no_items)))) (field (codes "vars") (rec (no_fields)) (no_fields)))) (field (codes "g1") (rec (field (codes "hosts") (list (item (text (codes "a")) (item (text (codes "b")) (no_items)))) (field (codes "vars") (rec (field (codes "op") opaque (no_fields))) (no_fields)))) (field (codes "g2") (rec (field (codes "hosts") (list (item (text (codes "a")) (item (text (codes "b")) (no_items)))) (field (codes "vars") (rec (field (codes "i1") (text (codes "no")) (no_fields))) (no_fields)))) (no_fields)))))) ≡ Ok (record { hosts = (record { name = (codes "a"); variables = (field (codes "i1") (text ([])) (field (codes "op") opaque (no_fields))) } ∷ record { name = (codes "b"); variables = (field (codes "i1") (text (codes "no")) (field (codes "op") opaque (no_fields))) } ∷ []); groups = (record { name = (codes "all"); hosts = ((codes "a") ∷ (codes "b") ∷ []) } ∷ record { name = (codes "g1"); hosts = ((codes "a") ∷ (codes "b") ∷ []) } ∷ record { name = (codes "g2"); hosts = ((codes "a") ∷ (codes "b") ∷ []) } ∷ record { name = (codes "ungrouped"); hosts = ([]) } ∷ []) })
inventory_104 = refl

inventory_105 : inventory_from (rec (field (codes "_meta") (rec (field (codes "hostvars") (rec (field (codes "a") (rec (field (codes "i1") (text ([])) (no_fields))) (field (codes "b") (rec (no_fields)) (no_fields)))) (no_fields))) (field (codes "all") (rec (field (codes "hosts") (list (item (text (codes "a")) (item (text (codes "b")) (no_items)))) (field (codes "vars") (rec (field (codes "i1") (text (codes "t")) (field (codes "i2") (list (item (int (pos 1)) (item (boolean true) (no_items)))) (no_fields)))) (no_fields)))) (field (codes "g1") (rec (field (codes "children") (list (item (text (codes "g2")) (no_items))) (field (codes "hosts") (list (item (text (codes "b")) (no_items))) (field (codes "vars") (rec (no_fields)) (no_fields))))) (field (codes "g2") (rec (field (codes "hosts") (list (item (text (codes "a")) (item (text (codes "b")) (no_items)))) (field (codes "vars") (rec (field (codes "op") opaque (no_fields))) (no_fields)))) (no_fields)))))) ≡ Ok (record { hosts = (record { name = (codes "a"); variables = (field (codes "i1") (text ([])) (field (codes "i2") (list (item (int (pos 1)) (item (boolean true) (no_items)))) (field (codes "op") opaque (no_fields)))) } ∷ record { name = (codes "b"); variables = (field (codes "i1") (text (codes "t")) (field (codes "i2") (list (item (int (pos 1)) (item (boolean true) (no_items)))) (field (codes "op") opaque (no_fields)))) } ∷ []); groups = (record { name = (codes "all"); hosts = ((codes "a") ∷ (codes "b") ∷ []) } ∷ record { name = (codes "g1"); hosts = ((codes "b") ∷ (codes "a") ∷ []) } ∷ record { name = (codes "g2"); hosts = ((codes "a") ∷ (codes "b") ∷ []) } ∷ record { name = (codes "ungrouped"); hosts = ([]) } ∷ []) })
inventory_105 = refl

inventory_106 : inventory_from (rec (field (codes "_meta") (rec (field (codes "hostvars") (rec (field (codes "a") (rec (field (codes "i1") (text (codes "a")) (field (codes "i2") (rec (field (codes "f") (list (item null (no_items))) (no_fields))) (field (codes "s1") (list (item (text (codes "x")) (item (text (codes "x")) (no_items)))) (no_fields))))) (field (codes "b") (rec (field (codes "op") opaque (no_fields))) (no_fields)))) (no_fields))) (field (codes "all") (rec (field (codes "hosts") (list (item (text (codes "a")) (item (text (codes "b")) (no_items)))) (field (codes "vars") (rec (no_fields)) (no_fields)))) (field (codes "g1") (rec (field (codes "hosts") (list (item (text (codes "b")) (no_items))) (field (codes "vars") (rec (no_fields)) (no_fields)))) (field (codes "g2") (rec (field (codes "hosts") (list (no_items)) (field (codes "vars") (rec (field (codes "s1") (int (negsuc 0)) (no_fields))) (no_fields)))) (no_fields)))))) ≡ Ok (record { hosts = (record { name = (codes "a"); variables = (field (codes "i1") (text (codes "a")) (field (codes "i2") (rec (field (codes "f") (list (item null (no_items))) (no_fields))) (field (codes "s1") (list (item (text (codes "x")) (item (text (codes "x")) (no_items)))) (no_fields)))) } ∷ record { name = (codes "b"); variables = (field (codes "op") opaque (no_fields)) } ∷ []); groups = (record { name = (codes "all"); hosts = ((codes "a") ∷ (codes "b") ∷ []) } ∷ record { name = (codes "g1"); hosts = ((codes "b") ∷ []) } ∷ record { name = (codes "g2"); hosts = ([]) } ∷ record { name = (codes "ungrouped"); hosts = ((codes "a") ∷ []) } ∷ []) })
inventory_106 = refl

inventory_107 : inventory_from (rec (field (codes "_meta") (rec (field (codes "hostvars") (rec (field (codes "a") (rec (field (codes "i1") (text (codes "a")) (field (codes "i2") (text (codes "a")) (field (codes "s1") (text ([])) (no_fields))))) (field (codes "b") (rec (field (codes "i2") (text (codes "a")) (no_fields))) (field (codes "c") (rec (no_fields)) (field (codes "d") (rec (field (codes "i2") (list (item (text (codes "t")) (item (text (codes "no")) (no_items)))) (no_fields))) (no_fields)))))) (no_fields))) (field (codes "all") (rec (field (codes "hosts") (list (item (text (codes "a")) (item (text (codes "b")) (item (text (codes "c")) (item (text (codes "d")) (no_items)))))) (field (codes "vars") (rec (field (codes "i1") (boolean true) (no_fields))) (no_fields)))) (field (codes "g1") (rec (field (codes "hosts") (list (item (text (codes "b")) (item (text (codes "c")) (no_items)))) (field (codes "vars") (rec (field (codes "s1") (text ([])) (no_fields))) (no_fields)))) (field (codes "g2") (rec (field (codes "hosts") (list (item (text (codes "d")) (no_items))) (field (codes "vars") (rec (no_fields)) (no_fields)))) (no_fields)))))) ≡ Ok (record { hosts = (record { name = (codes "a"); variables = (field (codes "i1") (text (codes "a")) (field (codes "i2") (text (codes "a")) (field (codes "s1") (text ([])) (no_fields)))) } ∷ record { name = (codes "b"); variables = (field (codes "i1") (boolean true) (field (codes "i2") (text (codes "a")) (field (codes "s1") (text ([])) (no_fields)))) } ∷ record { name = (codes "c"); variables = (field (codes "i1") (boolean true) (field (codes "s1") (text ([])) (no_fields))) } ∷ record { name = (codes "d"); variables = (field (codes "i1") (boolean true) (field (codes "i2") (list (item (text (codes "t")) (item (text (codes "no")) (no_items)))) (no_fields))) } ∷ []); groups = (record { name = (codes "all"); hosts = ((codes "a") ∷ (codes "b") ∷ (codes "c") ∷ (codes "d") ∷ []) } ∷ record { name = (codes "g1"); hosts = ((codes "b") ∷ (codes "c") ∷ []) } ∷ record { name = (codes "g2"); hosts = ((codes "d") ∷ []) } ∷ record { name = (codes "ungrouped"); hosts = ((codes "a") ∷ []) } ∷ []) })
inventory_107 = refl

inventory_108 : inventory_from (rec (field (codes "_meta") (rec (field (codes "hostvars") (rec (field (codes "a") (rec (field (codes "i1") (text (codes "a")) (field (codes "op") opaque (no_fields)))) (field (codes "b") (rec (field (codes "i1") (boolean true) (no_fields))) (field (codes "c") (rec (field (codes "i1") (rec (field (codes "f") null (no_fields))) (field (codes "s1") (int (negsuc 0)) (no_fields)))) (field (codes "d") (rec (field (codes "i1") (rec (field (codes "f") (text (codes "x")) (no_fields))) (no_fields))) (no_fields)))))) (no_fields))) (field (codes "all") (rec (field (codes "hosts") (list (item (text (codes "a")) (item (text (codes "b")) (item (text (codes "c")) (item (text (codes "d")) (no_items)))))) (field (codes "vars") (rec (field (codes "i2") (list (item (text ([])) (no_items))) (no_fields))) (no_fields)))) (field (codes "g1") (rec (field (codes "hosts") (list (item (text (codes "a")) (item (text (codes "d")) (no_items)))) (field (codes "vars") (rec (field (codes "i2") (text (codes "no")) (field (codes "op") opaque (no_fields)))) (no_fields)))) (field (codes "g2") (rec (field (codes "hosts") (list (item (text (codes "b")) (item (text (codes "c")) (item (text (codes "d")) (no_items))))) (field (codes "vars") (rec (field (codes "i2") (list (item (text ([])) (no_items))) (no_fields))) (no_fields)))) (no_fields)))))) ≡ Ok (record { hosts = (record { name = (codes "a"); variables = (field (codes "i1") (text (codes "a")) (field (codes "i2") (text (codes "no")) (field (codes "op") opaque (no_fields)))) } ∷ record { name = (codes "b"); variables = (field (codes "i1") (boolean true) (field (codes "i2") (list (item (text ([])) (no_items))) (no_fields))) } ∷ record { name = (codes "c"); variables = (field (codes "i1") (rec (field (codes "f") null (no_fields))) (field (codes "i2") (list (item (text ([])) (no_items))) (field (codes "s1") (int (negsuc 0)) (no_fields)))) } ∷ record { name = (codes "d"); variables = (field (codes "i1") (rec (field (codes "f") (text (codes "x")) (no_fields))) (field (codes "i2") (list (item (text ([])) (no_items))) (field (codes "op") opaque (no_fields)))) } ∷ []); groups = (record { name = (codes "all"); hosts = ((codes "a") ∷ (codes "b") ∷ (codes "c") ∷ (codes "d") ∷ []) } ∷ record { name = (codes "g1"); hosts = ((codes "a") ∷ (codes "d") ∷ []) } ∷ record { name = (codes "g2"); hosts = ((codes "b") ∷ (codes "c") ∷ (codes "d") ∷ []) } ∷ record { name = (codes "ungrouped"); hosts = ([]) } ∷ []) })
inventory_108 = refl

inventory_109 : inventory_from (rec (field (codes "_meta") (rec (field (codes "hostvars") (rec (field (codes "a") (rec (field (codes "i1") (text (codes "a")) (field (codes "op") opaque (no_fields)))) (field (codes "b") (rec (field (codes "i1") (list (item (text (codes "t")) (no_items))) (no_fields))) (no_fields)))) (no_fields))) (field (codes "all") (rec (field (codes "hosts") (list (item (text (codes "a")) (item (text (codes "b")) (no_items)))) (field (codes "vars") (rec (field (codes "op") opaque (no_fields))) (no_fields)))) (field (codes "g1") (rec (field (codes "hosts") (list (item (text (codes "b")) (no_items))) (field (codes "vars") (rec (field (codes "i2") (text ([])) (field (codes "op") opaque (no_fields)))) (no_fields)))) (no_fields))))) ≡ Ok (record { hosts = (record { name = (codes "a"); variables = (field (codes "i1") (text (codes "a")) (field (codes "op") opaque (no_fields))) } ∷ record { name = (codes "b"); variables = (field (codes "i1") (list (item (text (codes "t")) (no_items))) (field (codes "i2") (text ([])) (field (codes "op") opaque (no_fields)))) } ∷ []); groups = (record { name = (codes "all"); hosts = ((codes "a") ∷ (codes "b") ∷ []) } ∷ record { name = (codes "g1"); hosts = ((codes "b") ∷ []) } ∷ record { name = (codes "ungrouped"); hosts = ((codes "a") ∷ []) } ∷ []) })
inventory_109 = refl

inventory_110 : inventory_from (rec (field (codes "_meta") (rec (field (codes "hostvars") (rec (field (codes "a") (rec (field (codes "i1") (text (codes "b")) (field (codes "i2") (list (item (int (negsuc 0)) (no_items))) (no_fields)))) (field (codes "b") (rec (field (codes "i1") (list (item (text (codes "a")) (item (int (pos 1)) (no_items)))) (field (codes "i2") (text (codes "t")) (field (codes "op") opaque (field (codes "s1") (text ([])) (no_fields)))))) (field (codes "c") (rec (no_fields)) (field (codes "d") (rec (no_fields)) (no_fields)))))) (no_fields))) (field (codes "all") (rec (field (codes "hosts") (list (item (text (codes "a")) (item (text (codes "b")) (item (text (codes "c")) (item (text (codes "d")) (no_items)))))) (field (codes "vars") (rec (field (codes "op") opaque (field (codes "s1") (rec (field (codes "f") (list (item null (item (int (pos 1)) (no_items)))) (no_fields))) (no_fields)))) (no_fields)))) (field (codes "g2") (rec (field (codes "hosts") (list (item (text (codes "a")) (item (text (codes "c")) (item (text (codes "d")) (no_items))))) (field (codes "vars") (rec (no_fields)) (no_fields)))) (no_fields))))) ≡ Ok (record { hosts = (record { name = (codes "a"); variables = (field (codes "i1") (text (codes "b")) (field (codes "i2") (list (item (int (negsuc 0)) (no_items))) (field (codes "op") opaque (field (codes "s1") (rec (field (codes "f") (list (item null (item (int (pos 1)) (no_items)))) (no_fields))) (no_fields))))) } ∷ record { name = (codes "b"); variables = (field (codes "i1") (list (item (text (codes "a")) (item (int (pos 1)) (no_items)))) (field (codes "i2") (text (codes "t")) (field (codes "op") opaque (field (codes "s1") (text ([])) (no_fields))))) } ∷ record { name = (codes "c"); variables = (field (codes "op") opaque (field (codes "s1") (rec (field (codes "f") (list (item null (item (int (pos 1)) (no_items)))) (no_fields))) (no_fields))) } ∷ record { name = (codes "d"); variables = (field (codes "op") opaque (field (codes "s1") (rec (field (codes "f") (list (item null (item (int (pos 1)) (no_items)))) (no_fields))) (no_fields))) } ∷ []); groups = (record { name = (codes "all"); hosts = ((codes "a") ∷ (codes "b") ∷ (codes "c") ∷ (codes "d") ∷ []) } ∷ record { name = (codes "g2"); hosts = ((codes "a") ∷ (codes "c") ∷ (codes "d") ∷ []) } ∷ record { name = (codes "ungrouped"); hosts = ((codes "b") ∷ []) } ∷ []) })
inventory_110 = refl

inventory_111 : inventory_from (rec (field (codes "_meta") (rec (field (codes "hostvars") (rec (field (codes "a") (rec (field (codes "i1") (text (codes "b")) (field (codes "op") opaque (field (codes "s1") (list (item (int (pos 1)) (no_items))) (no_fields))))) (field (codes "b") (rec (no_fields)) (no_fields)))) (no_fields))) (field (codes "all") (rec (field (codes "hosts") (list (item (text (codes "a")) (item (text (codes "b")) (no_items)))) (field (codes "vars") (rec (field (codes "i2") (text (codes "t")) (no_fields))) (no_fields)))) (no_fields)))) ≡ Ok (record { hosts = (record { name = (codes "a"); variables = (field (codes "i1") (text (codes "b")) (field (codes "i2") (text (codes "t")) (field (codes "op") opaque (field (codes "s1") (list (item (int (pos 1)) (no_items))) (no_fields))))) } ∷ record { name = (codes "b"); variables = (field (codes "i2") (text (codes "t")) (no_fields)) } ∷ []); groups = (record { name = (codes "all"); hosts = ((codes "a") ∷ (codes "b") ∷ []) } ∷ record { name = (codes "ungrouped"); hosts = ((codes "a") ∷ (codes "b") ∷ []) } ∷ []) })
inventory_111 = refl

inventory_112 : inventory_from (rec (field (codes "_meta") (rec (field (codes "hostvars") (rec (field (codes "a") (rec (field (codes "i1") (text (codes "b")) (field (codes "op") opaque (no_fields)))) (field (codes "b") (rec (no_fields)) (no_fields)))) (no_fields))) (field (codes "all") (rec (field (codes "hosts") (list (item (text (codes "a")) (item (text (codes "b")) (no_items)))) (field (codes "vars") (rec (field (codes "op") opaque (field (codes "s1") (list (no_items)) (no_fields)))) (no_fields)))) (field (codes "g1") (rec (field (codes "hosts") (list (no_items)) (field (codes "vars") (rec (field (codes "i2") (text (codes "no")) (no_fields))) (no_fields)))) (field (codes "g2") (rec (field (codes "hosts") (list (item (text (codes "a")) (no_items))) (field (codes "vars") (rec (field (codes "i1") (rec (field (codes "f") (rec (field (codes "f") (text ([])) (field (codes "g") (boolean true) (no_fields)))) (field (codes "g") (list (item (boolean true) (item (int (pos 3)) (no_items)))) (no_fields)))) (field (codes "op") opaque (no_fields)))) (no_fields)))) (no_fields)))))) ≡ Ok (record { hosts = (record { name = (codes "a"); variables = (field (codes "i1") (text (codes "b")) (field (codes "op") opaque (field (codes "s1") (list (no_items)) (no_fields)))) } ∷ record { name = (codes "b"); variables = (field (codes "op") opaque (field (codes "s1") (list (no_items)) (no_fields))) } ∷ []); groups = (record { name = (codes "all"); hosts = ((codes "a") ∷ (codes "b") ∷ []) } ∷ record { name = (codes "g1"); hosts = ([]) } ∷ record { name = (codes "g2"); hosts = ((codes "a") ∷ []) } ∷ record { name = (codes "ungrouped"); hosts = ((codes "b") ∷ []) } ∷ []) })
inventory_112 = refl

inventory_113 : inventory_from (rec (field (codes "_meta") (rec (field (codes "hostvars") (rec (field (codes "a") (rec (field (codes "i1") (text (codes "b")) (no_fields))) (no_fields))) (no_fields))) (field (codes "all") (rec (field (codes "hosts") (list (item (text (codes "a")) (no_items))) (field (codes "vars") (rec (field (codes "i1") (list (item (boolean false) (no_items))) (no_fields))) (no_fields)))) (field (codes "g1") (rec (field (codes "hosts") (list (item (text (codes "a")) (no_items))) (field (codes "vars") (rec (no_fields)) (no_fields)))) (no_fields))))) ≡ Ok (record { hosts = (record { name = (codes "a"); variables = (field (codes "i1") (text (codes "b")) (no_fields)) } ∷ []); groups = (record { name = (codes "all"); hosts = ((codes "a") ∷ []) } ∷ record { name = (codes "g1"); hosts = ((codes "a") ∷ []) } ∷ record { name = (codes "ungrouped"); hosts = ([]) } ∷ []) })
inventory_113 = refl

inventory_114 : inventory_from (rec (field (codes "_meta") (rec (field (codes "hostvars") (rec (field (codes "a") (rec (field (codes "i1") (text (codes "b")) (no_fields))) (no_fields))) (no_fields))) (field (codes "all") (rec (field (codes "hosts") (list (item (text (codes "a")) (no_items))) (field (codes "vars") (rec (field (codes "i2") (text (codes "no")) (no_fields))) (no_fields)))) (field (codes "g1") (rec (field (codes "hosts") (list (item (text (codes "a")) (no_items))) (field (codes "vars") (rec (field (codes "i2") (list (item (int (negsuc 0)) (item (boolean false) (no_items)))) (no_fields))) (no_fields)))) (no_fields))))) ≡ Ok (record { hosts = (record { name = (codes "a"); variables = (field (codes "i1") (text (codes "b")) (field (codes "i2") (list (item (int (negsuc 0)) (item (boolean false) (no_items)))) (no_fields))) } ∷ []); groups = (record { name = (codes "all"); hosts = ((codes "a") ∷ []) } ∷ record { name = (codes "g1"); hosts = ((codes "a") ∷ []) } ∷ record { name = (codes "ungrouped"); hosts = ([]) } ∷ []) })
inventory_114 = refl

inventory_115 : inventory_from (rec (field (codes "_meta") (rec (field (codes "hostvars") (rec (field (codes "a") (rec (field (codes "i1") (text (codes "no")) (field (codes "i2") (boolean true) (no_fields)))) (no_fields))) (no_fields))) (field (codes "all") (rec (field (codes "hosts") (list (item (text (codes "a")) (no_items))) (field (codes "vars") (rec (field (codes "i2") (text (codes "a")) (field (codes "s1") (text ([])) (no_fields)))) (no_fields)))) (field (codes "g1") (rec (field (codes "hosts") (list (item (text (codes "a")) (no_items))) (field (codes "vars") (rec (no_fields)) (no_fields)))) (field (codes "g2") (rec (field (codes "hosts") (list (item (text (codes "a")) (no_items))) (field (codes "vars") (rec (field (codes "i1") (boolean false) (field (codes "i2") (text (codes "x")) (field (codes "s1") (list (no_items)) (no_fields))))) (no_fields)))) (no_fields)))))) ≡ Ok (record { hosts = (record { name = (codes "a"); variables = (field (codes "i1") (text (codes "no")) (field (codes "i2") (boolean true) (field (codes "s1") (list (no_items)) (no_fields)))) } ∷ []); groups = (record { name = (codes "all"); hosts = ((codes "a") ∷ []) } ∷ record { name = (codes "g1"); hosts = ((codes "a") ∷ []) } ∷ record { name = (codes "g2"); hosts = ((codes "a") ∷ []) } ∷ record { name = (codes "ungrouped"); hosts = ([]) } ∷ []) })
inventory_115 = refl

inventory_116 : inventory_from (rec (field (codes "_meta") (rec (field (codes "hostvars") (rec (field (codes "a") (rec (field (codes "i1") (text (codes "no")) (field (codes "i2") (rec (field (codes "f") (boolean false) (field (codes "g") (list (no_items)) (no_fields)))) (no_fields)))) (field (codes "b") (rec (field (codes "s1") (list (no_items)) (no_fields))) (no_fields)))) (no_fields))) (field (codes "all") (rec (field (codes "hosts") (list (item (text (codes "a")) (item (text (codes "b")) (no_items)))) (field (codes "vars") (rec (no_fields)) (no_fields)))) (field (codes "g1") (rec (field (codes "hosts") (list (item (text (codes "b")) (no_items))) (field (codes "vars") (rec (no_fields)) (no_fields)))) (field (codes "g2") (rec (field (codes "hosts") (list (item (text (codes "b")) (no_items))) (field (codes "vars") (rec (no_fields)) (no_fields)))) (no_fields)))))) ≡ Ok (record { hosts = (record { name = (codes "a"); variables = (field (codes "i1") (text (codes "no")) (field (codes "i2") (rec (field (codes "f") (boolean false) (field (codes "g") (list (no_items)) (no_fields)))) (no_fields))) } ∷ record { name = (codes "b"); variables = (field (codes "s1") (list (no_items)) (no_fields)) } ∷ []); groups = (record { name = (codes "all"); hosts = ((codes "a") ∷ (codes "b") ∷ []) } ∷ record { name = (codes "g1"); hosts = ((codes "b") ∷ []) } ∷ record { name = (codes "g2"); hosts = ((codes "b") ∷ []) } ∷ record { name = (codes "ungrouped"); hosts = ((codes "a") ∷ []) } ∷ []) })
inventory_116 = refl

inventory_117 : inventory_from (rec (field (codes "_meta") (rec (field (codes "hostvars") (rec (field (codes "a") (rec (field (codes "i1") (text (codes "no")) (field (codes "op") opaque (no_fields)))) (no_fields))) (no_fields))) (field (codes "all") (rec (field (codes "hosts") (list (item (text (codes "a")) (no_items))) (field (codes "vars") (rec (field (codes "i1") (rec (field (codes "f") (boolean false) (field (codes "g") (text (codes "t")) (no_fields)))) (no_fields))) (no_fields)))) (field (codes "g1") (rec (field (codes "hosts") (list (item (text (codes "a")) (no_items))) (field (codes "vars") (rec (field (codes "i2") (text (codes "t")) (no_fields))) (no_fields)))) (field (codes "g2") (rec (field (codes "hosts") (list (no_items)) (field (codes "vars") (rec (no_fields)) (no_fields)))) (no_fields)))))) ≡ Ok (record { hosts = (record { name = (codes "a"); variables = (field (codes "i1") (text (codes "no")) (field (codes "i2") (text (codes "t")) (field (codes "op") opaque (no_fields)))) } ∷ []); groups = (record { name = (codes "all"); hosts = ((codes "a") ∷ []) } ∷ record { name = (codes "g1"); hosts = ((codes "a") ∷ []) } ∷ record { name = (codes "g2"); hosts = ([]) } ∷ record { name = (codes "ungrouped"); hosts = ([]) } ∷ []) })
inventory_117 = refl

inventory_118 : inventory_from (rec (field (codes "_meta") (rec (field (codes "hostvars") (rec (field (codes "a") (rec (field (codes "i1") (text (codes "no")) (field (codes "s1") (rec (field (codes "f") (text ([])) (field (codes "g") (boolean true) (no_fields)))) (no_fields)))) (no_fields))) (no_fields))) (field (codes "all") (rec (field (codes "hosts") (list (item (text (codes "a")) (no_items))) (field (codes "vars") (rec (field (codes "op") opaque (no_fields))) (no_fields)))) (field (codes "g1") (rec (field (codes "children") (list (item (text (codes "g2")) (no_items))) (field (codes "hosts") (list (item (text (codes "a")) (no_items))) (field (codes "vars") (rec (field (codes "s1") (text (codes "x")) (no_fields))) (no_fields))))) (field (codes "g2") (rec (field (codes "hosts") (list (no_items)) (field (codes "vars") (rec (no_fields)) (no_fields)))) (no_fields)))))) ≡ Ok (record { hosts = (record { name = (codes "a"); variables = (field (codes "i1") (text (codes "no")) (field (codes "op") opaque (field (codes "s1") (rec (field (codes "f") (text ([])) (field (codes "g") (boolean true) (no_fields)))) (no_fields)))) } ∷ []); groups = (record { name = (codes "all"); hosts = ((codes "a") ∷ []) } ∷ record { name = (codes "g1"); hosts = ((codes "a") ∷ []) } ∷ record { name = (codes "g2"); hosts = ([]) } ∷ record { name = (codes "ungrouped"); hosts = ([]) } ∷ []) })
inventory_118 = refl

inventory_119 : inventory_from (rec (field (codes "_meta") (rec (field (codes "hostvars") (rec (field (codes "a") (rec (field (codes "i1") (text (codes "t")) (field (codes "i2") (boolean true) (no_fields)))) (field (codes "b") (rec (field (codes "i2") (boolean true) (no_fields))) (field (codes "c") (rec (no_fields)) (no_fields))))) (no_fields))) (field (codes "all") (rec (field (codes "hosts") (list (item (text (codes "a")) (item (text (codes "b")) (item (text (codes "c")) (no_items))))) (field (codes "vars") (rec (no_fields)) (no_fields)))) (field (codes "g1") (rec (field (codes "hosts") (list (item (text (codes "b")) (item (text (codes "c")) (no_items)))) (field (codes "vars") (rec (field (codes "s1") (list (no_items)) (no_fields))) (no_fields)))) (field (codes "g2") (rec (field (codes "hosts") (list (item (text (codes "a")) (item (text (codes "b")) (item (text (codes "c")) (no_items))))) (field (codes "vars") (rec (field (codes "i2") (list (no_items)) (no_fields))) (no_fields)))) (no_fields)))))) ≡ Ok (record { hosts = (record { name = (codes "a"); variables = (field (codes "i1") (text (codes "t")) (field (codes "i2") (boolean true) (no_fields))) } ∷ record { name = (codes "b"); variables = (field (codes "i2") (boolean true) (field (codes "s1") (list (no_items)) (no_fields))) } ∷ record { name = (codes "c"); variables = (field (codes "i2") (list (no_items)) (field (codes "s1") (list (no_items)) (no_fields))) } ∷ []); groups = (record { name = (codes "all"); hosts = ((codes "a") ∷ (codes "b") ∷ (codes "c") ∷ []) } ∷ record { name = (codes "g1"); hosts = ((codes "b") ∷ (codes "c") ∷ []) } ∷ record { name = (codes "g2"); hosts = ((codes "a") ∷ (codes "b") ∷ (codes "c") ∷ []) } ∷ record { name = (codes "ungrouped"); hosts = ([]) } ∷ []) })
inventory_119 = refl
