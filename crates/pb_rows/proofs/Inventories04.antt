-- The inventories of cases, computed.
use Rattle.std.specs.Prelude.{◌≡◌, refl, pos, negsuc, [], ◌∷◌, true, false, Ok, codes}
use Rattle.pb_semantics.specs.Data.{null, boolean, int, text, list, rec, opaque, no_items, item, no_fields, field}
use Rattle.pb_language.specs.Inventories.{inventory_from}

inventory_180 : inventory_from (rec (field (codes "_meta") (rec (field (codes "hostvars") (rec (field (codes "a") (rec (field (codes "i2") (list (no_items)) (field (codes "op") opaque (field (codes "s1") (text (codes "a")) (no_fields))))) (no_fields))) (no_fields))) (field (codes "all") (rec (field (codes "hosts") (list (item (text (codes "a")) (no_items))) (field (codes "vars") (rec (no_fields)) (no_fields)))) (field (codes "g1") (rec (field (codes "hosts") (list (no_items)) (field (codes "vars") (rec (no_fields)) (no_fields)))) (no_fields))))) ≡ Ok (record { hosts = (record { name = (codes "a"); variables = (field (codes "i2") (list (no_items)) (field (codes "op") opaque (field (codes "s1") (text (codes "a")) (no_fields)))) } ∷ []); groups = (record { name = (codes "all"); hosts = ((codes "a") ∷ []) } ∷ record { name = (codes "g1"); hosts = ([]) } ∷ record { name = (codes "ungrouped"); hosts = ((codes "a") ∷ []) } ∷ []) })
inventory_180 = refl

inventory_181 : inventory_from (rec (field (codes "_meta") (rec (field (codes "hostvars") (rec (field (codes "a") (rec (field (codes "i2") (list (no_items)) (field (codes "op") opaque (no_fields)))) (no_fields))) (no_fields))) (field (codes "all") (rec (field (codes "hosts") (list (item (text (codes "a")) (no_items))) (field (codes "vars") (rec (field (codes "op") opaque (no_fields))) (no_fields)))) (field (codes "g2") (rec (field (codes "hosts") (list (item (text (codes "a")) (no_items))) (field (codes "vars") (rec (field (codes "s1") (boolean true) (no_fields))) (no_fields)))) (no_fields))))) ≡ Ok (record { hosts = (record { name = (codes "a"); variables = (field (codes "i2") (list (no_items)) (field (codes "op") opaque (field (codes "s1") (boolean true) (no_fields)))) } ∷ []); groups = (record { name = (codes "all"); hosts = ((codes "a") ∷ []) } ∷ record { name = (codes "g2"); hosts = ((codes "a") ∷ []) } ∷ record { name = (codes "ungrouped"); hosts = ([]) } ∷ []) })
inventory_181 = refl

inventory_182 : inventory_from (rec (field (codes "_meta") (rec (field (codes "hostvars") (rec (field (codes "a") (rec (field (codes "i2") (list (no_items)) (field (codes "s1") (boolean false) (no_fields)))) (field (codes "b") (rec (field (codes "s1") (text (codes "no")) (no_fields))) (no_fields)))) (no_fields))) (field (codes "all") (rec (field (codes "hosts") (list (item (text (codes "a")) (item (text (codes "b")) (no_items)))) (field (codes "vars") (rec (field (codes "i1") (boolean true) (field (codes "op") opaque (no_fields)))) (no_fields)))) (field (codes "g2") (rec (field (codes "hosts") (list (item (text (codes "a")) (item (text (codes "b")) (no_items)))) (field (codes "vars") (rec (no_fields)) (no_fields)))) (no_fields))))) ≡ Ok (record { hosts = (record { name = (codes "a"); variables = (field (codes "i1") (boolean true) (field (codes "i2") (list (no_items)) (field (codes "op") opaque (field (codes "s1") (boolean false) (no_fields))))) } ∷ record { name = (codes "b"); variables = (field (codes "i1") (boolean true) (field (codes "op") opaque (field (codes "s1") (text (codes "no")) (no_fields)))) } ∷ []); groups = (record { name = (codes "all"); hosts = ((codes "a") ∷ (codes "b") ∷ []) } ∷ record { name = (codes "g2"); hosts = ((codes "a") ∷ (codes "b") ∷ []) } ∷ record { name = (codes "ungrouped"); hosts = ([]) } ∷ []) })
inventory_182 = refl

inventory_183 : inventory_from (rec (field (codes "_meta") (rec (field (codes "hostvars") (rec (field (codes "a") (rec (field (codes "i2") (list (no_items)) (no_fields))) (field (codes "b") (rec (field (codes "i1") (int (pos 3)) (field (codes "op") opaque (no_fields)))) (no_fields)))) (no_fields))) (field (codes "all") (rec (field (codes "hosts") (list (item (text (codes "a")) (item (text (codes "b")) (no_items)))) (field (codes "vars") (rec (field (codes "i1") (boolean true) (field (codes "i2") (text (codes "no")) (no_fields)))) (no_fields)))) (field (codes "g1") (rec (field (codes "hosts") (list (item (text (codes "b")) (no_items))) (field (codes "vars") (rec (field (codes "i1") (text ([])) (field (codes "op") opaque (no_fields)))) (no_fields)))) (field (codes "g2") (rec (field (codes "hosts") (list (item (text (codes "a")) (no_items))) (field (codes "vars") (rec (field (codes "op") opaque (no_fields))) (no_fields)))) (no_fields)))))) ≡ Ok (record { hosts = (record { name = (codes "a"); variables = (field (codes "i1") (boolean true) (field (codes "i2") (list (no_items)) (field (codes "op") opaque (no_fields)))) } ∷ record { name = (codes "b"); variables = (field (codes "i1") (int (pos 3)) (field (codes "i2") (text (codes "no")) (field (codes "op") opaque (no_fields)))) } ∷ []); groups = (record { name = (codes "all"); hosts = ((codes "a") ∷ (codes "b") ∷ []) } ∷ record { name = (codes "g1"); hosts = ((codes "b") ∷ []) } ∷ record { name = (codes "g2"); hosts = ((codes "a") ∷ []) } ∷ record { name = (codes "ungrouped"); hosts = ([]) } ∷ []) })
inventory_183 = refl

inventory_184 : inventory_from (rec (field (codes "_meta") (rec (field (codes "hostvars") (rec (field (codes "a") (rec (field (codes "i2") (list (no_items)) (no_fields))) (no_fields))) (no_fields))) (field (codes "all") (rec (field (codes "hosts") (list (item (text (codes "a")) (no_items))) (field (codes "vars") (rec (field (codes "i1") (list (item (text ([])) (item (text ([])) (no_items)))) (field (codes "op") opaque (no_fields)))) (no_fields)))) (field (codes "g1") (rec (field (codes "hosts") (list (item (text (codes "a")) (no_items))) (field (codes "vars") (rec (field (codes "s1") (text (codes "x")) (no_fields))) (no_fields)))) (field (codes "g2") (rec (field (codes "hosts") (list (no_items)) (field (codes "vars") (rec (no_fields)) (no_fields)))) (no_fields)))))) ≡ Ok (record { hosts = (record { name = (codes "a"); variables = (field (codes "i1") (list (item (text ([])) (item (text ([])) (no_items)))) (field (codes "i2") (list (no_items)) (field (codes "op") opaque (field (codes "s1") (text (codes "x")) (no_fields))))) } ∷ []); groups = (record { name = (codes "all"); hosts = ((codes "a") ∷ []) } ∷ record { name = (codes "g1"); hosts = ((codes "a") ∷ []) } ∷ record { name = (codes "g2"); hosts = ([]) } ∷ record { name = (codes "ungrouped"); hosts = ([]) } ∷ []) })
inventory_184 = refl

inventory_185 : inventory_from (rec (field (codes "_meta") (rec (field (codes "hostvars") (rec (field (codes "a") (rec (field (codes "i2") (rec (field (codes "f") (list (item (text (codes "no")) (item (text (codes "b")) (no_items)))) (field (codes "g") (int (pos 3)) (no_fields)))) (no_fields))) (field (codes "b") (rec (no_fields)) (field (codes "c") (rec (field (codes "s1") (rec (field (codes "g") (text ([])) (no_fields))) (no_fields))) (no_fields))))) (no_fields))) (field (codes "all") (rec (field (codes "hosts") (list (item (text (codes "a")) (item (text (codes "b")) (item (text (codes "c")) (no_items))))) (field (codes "vars") (rec (no_fields)) (no_fields)))) (field (codes "g1") (rec (field (codes "hosts") (list (item (text (codes "b")) (item (text (codes "c")) (no_items)))) (field (codes "vars") (rec (field (codes "s1") (boolean true) (no_fields))) (no_fields)))) (field (codes "g2") (rec (field (codes "hosts") (list (item (text (codes "a")) (item (text (codes "b")) (no_items)))) (field (codes "vars") (rec (field (codes "s1") (text (codes "a")) (no_fields))) (no_fields)))) (no_fields)))))) ≡ Ok (record { hosts = (record { name = (codes "a"); variables = (field (codes "i2") (rec (field (codes "f") (list (item (text (codes "no")) (item (text (codes "b")) (no_items)))) (field (codes "g") (int (pos 3)) (no_fields)))) (field (codes "s1") (text (codes "a")) (no_fields))) } ∷ record { name = (codes "b"); variables = (field (codes "s1") (text (codes "a")) (no_fields)) } ∷ record { name = (codes "c"); variables = (field (codes "s1") (rec (field (codes "g") (text ([])) (no_fields))) (no_fields)) } ∷ []); groups = (record { name = (codes "all"); hosts = ((codes "a") ∷ (codes "b") ∷ (codes "c") ∷ []) } ∷ record { name = (codes "g1"); hosts = ((codes "b") ∷ (codes "c") ∷ []) } ∷ record { name = (codes "g2"); hosts = ((codes "a") ∷ (codes "b") ∷ []) } ∷ record { name = (codes "ungrouped"); hosts = ([]) } ∷ []) })
inventory_185 = refl

inventory_186 : inventory_from (rec (field (codes "_meta") (rec (field (codes "hostvars") (rec (field (codes "a") (rec (field (codes "i2") (rec (field (codes "f") (list (no_items)) (field (codes "g") (text (codes "a")) (no_fields)))) (no_fields))) (no_fields))) (no_fields))) (field (codes "all") (rec (field (codes "hosts") (list (item (text (codes "a")) (no_items))) (field (codes "vars") (rec (field (codes "i1") (text (codes "t")) (field (codes "op") opaque (no_fields)))) (no_fields)))) (no_fields)))) ≡ Ok (record { hosts = (record { name = (codes "a"); variables = (field (codes "i1") (text (codes "t")) (field (codes "i2") (rec (field (codes "f") (list (no_items)) (field (codes "g") (text (codes "a")) (no_fields)))) (field (codes "op") opaque (no_fields)))) } ∷ []); groups = (record { name = (codes "all"); hosts = ((codes "a") ∷ []) } ∷ record { name = (codes "ungrouped"); hosts = ((codes "a") ∷ []) } ∷ []) })
inventory_186 = refl

inventory_187 : inventory_from (rec (field (codes "_meta") (rec (field (codes "hostvars") (rec (field (codes "a") (rec (field (codes "i2") (rec (field (codes "g") (rec (field (codes "f") (boolean false) (field (codes "g") (int (negsuc 0)) (no_fields)))) (no_fields))) (field (codes "s1") (rec (field (codes "f") (rec (field (codes "f") (boolean false) (no_fields))) (field (codes "g") (text (codes "t")) (no_fields)))) (no_fields)))) (field (codes "b") (rec (field (codes "i2") (text (codes "a")) (field (codes "op") opaque (no_fields)))) (no_fields)))) (no_fields))) (field (codes "all") (rec (field (codes "hosts") (list (item (text (codes "a")) (item (text (codes "b")) (no_items)))) (field (codes "vars") (rec (field (codes "i1") null (no_fields))) (no_fields)))) (field (codes "g2") (rec (field (codes "hosts") (list (no_items)) (field (codes "vars") (rec (field (codes "i1") null (field (codes "i2") (list (item (boolean false) (item (text (codes "x")) (no_items)))) (no_fields)))) (no_fields)))) (no_fields))))) ≡ Ok (record { hosts = (record { name = (codes "a"); variables = (field (codes "i1") null (field (codes "i2") (rec (field (codes "g") (rec (field (codes "f") (boolean false) (field (codes "g") (int (negsuc 0)) (no_fields)))) (no_fields))) (field (codes "s1") (rec (field (codes "f") (rec (field (codes "f") (boolean false) (no_fields))) (field (codes "g") (text (codes "t")) (no_fields)))) (no_fields)))) } ∷ record { name = (codes "b"); variables = (field (codes "i1") null (field (codes "i2") (text (codes "a")) (field (codes "op") opaque (no_fields)))) } ∷ []); groups = (record { name = (codes "all"); hosts = ((codes "a") ∷ (codes "b") ∷ []) } ∷ record { name = (codes "g2"); hosts = ([]) } ∷ record { name = (codes "ungrouped"); hosts = ((codes "a") ∷ (codes "b") ∷ []) } ∷ []) })
inventory_187 = refl

inventory_188 : inventory_from (rec (field (codes "_meta") (rec (field (codes "hostvars") (rec (field (codes "a") (rec (field (codes "i2") (rec (no_fields)) (no_fields))) (field (codes "b") (rec (field (codes "i1") null (field (codes "i2") (text (codes "x")) (no_fields)))) (field (codes "c") (rec (field (codes "i2") (text (codes "t")) (field (codes "op") opaque (no_fields)))) (no_fields))))) (no_fields))) (field (codes "all") (rec (field (codes "hosts") (list (item (text (codes "a")) (item (text (codes "b")) (item (text (codes "c")) (no_items))))) (field (codes "vars") (rec (field (codes "i1") (int (pos 1)) (field (codes "s1") (list (item (text ([])) (item (boolean false) (no_items)))) (no_fields)))) (no_fields)))) (field (codes "g1") (rec (field (codes "hosts") (list (item (text (codes "a")) (no_items))) (field (codes "vars") (rec (no_fields)) (no_fields)))) (field (codes "g2") (rec (field (codes "hosts") (list (item (text (codes "b")) (no_items))) (field (codes "vars") (rec (field (codes "i1") (rec (field (codes "f") (boolean true) (no_fields))) (no_fields))) (no_fields)))) (no_fields)))))) ≡ Ok (record { hosts = (record { name = (codes "a"); variables = (field (codes "i1") (int (pos 1)) (field (codes "i2") (rec (no_fields)) (field (codes "s1") (list (item (text ([])) (item (boolean false) (no_items)))) (no_fields)))) } ∷ record { name = (codes "b"); variables = (field (codes "i1") null (field (codes "i2") (text (codes "x")) (field (codes "s1") (list (item (text ([])) (item (boolean false) (no_items)))) (no_fields)))) } ∷ record { name = (codes "c"); variables = (field (codes "i1") (int (pos 1)) (field (codes "i2") (text (codes "t")) (field (codes "op") opaque (field (codes "s1") (list (item (text ([])) (item (boolean false) (no_items)))) (no_fields))))) } ∷ []); groups = (record { name = (codes "all"); hosts = ((codes "a") ∷ (codes "b") ∷ (codes "c") ∷ []) } ∷ record { name = (codes "g1"); hosts = ((codes "a") ∷ []) } ∷ record { name = (codes "g2"); hosts = ((codes "b") ∷ []) } ∷ record { name = (codes "ungrouped"); hosts = ((codes "c") ∷ []) } ∷ []) })
inventory_188 = refl

inventory_189 : inventory_from (rec (field (codes "_meta") (rec (field (codes "hostvars") (rec (field (codes "a") (rec (field (codes "i2") (rec (no_fields)) (no_fields))) (field (codes "b") (rec (field (codes "op") opaque (no_fields))) (no_fields)))) (no_fields))) (field (codes "all") (rec (field (codes "hosts") (list (item (text (codes "a")) (item (text (codes "b")) (no_items)))) (field (codes "vars") (rec (no_fields)) (no_fields)))) (field (codes "g1") (rec (field (codes "hosts") (list (item (text (codes "a")) (no_items))) (field (codes "vars") (rec (field (codes "i2") (list (no_items)) (field (codes "op") opaque (no_fields)))) (no_fields)))) (field (codes "g2") (rec (field (codes "hosts") (list (item (text (codes "b")) (no_items))) (field (codes "vars") (rec (no_fields)) (no_fields)))) (no_fields)))))) ≡ Ok (record { hosts = (record { name = (codes "a"); variables = (field (codes "i2") (rec (no_fields)) (field (codes "op") opaque (no_fields))) } ∷ record { name = (codes "b"); variables = (field (codes "op") opaque (no_fields)) } ∷ []); groups = (record { name = (codes "all"); hosts = ((codes "a") ∷ (codes "b") ∷ []) } ∷ record { name = (codes "g1"); hosts = ((codes "a") ∷ []) } ∷ record { name = (codes "g2"); hosts = ((codes "b") ∷ []) } ∷ record { name = (codes "ungrouped"); hosts = ([]) } ∷ []) })
inventory_189 = refl

inventory_190 : inventory_from (rec (field (codes "_meta") (rec (field (codes "hostvars") (rec (field (codes "a") (rec (field (codes "i2") (text ([])) (field (codes "s1") (text (codes "x")) (no_fields)))) (field (codes "b") (rec (field (codes "i2") (text ([])) (no_fields))) (field (codes "c") (rec (no_fields)) (field (codes "d") (rec (field (codes "i1") (text (codes "x")) (no_fields))) (no_fields)))))) (no_fields))) (field (codes "all") (rec (field (codes "hosts") (list (item (text (codes "a")) (item (text (codes "b")) (item (text (codes "c")) (item (text (codes "d")) (no_items)))))) (field (codes "vars") (rec (field (codes "i1") (int (pos 1)) (field (codes "i2") (int (negsuc 0)) (field (codes "s1") null (no_fields))))) (no_fields)))) (field (codes "g1") (rec (field (codes "hosts") (list (item (text (codes "c")) (item (text (codes "d")) (no_items)))) (field (codes "vars") (rec (no_fields)) (no_fields)))) (no_fields))))) ≡ Ok (record { hosts = (record { name = (codes "a"); variables = (field (codes "i1") (int (pos 1)) (field (codes "i2") (text ([])) (field (codes "s1") (text (codes "x")) (no_fields)))) } ∷ record { name = (codes "b"); variables = (field (codes "i1") (int (pos 1)) (field (codes "i2") (text ([])) (field (codes "s1") null (no_fields)))) } ∷ record { name = (codes "c"); variables = (field (codes "i1") (int (pos 1)) (field (codes "i2") (int (negsuc 0)) (field (codes "s1") null (no_fields)))) } ∷ record { name = (codes "d"); variables = (field (codes "i1") (text (codes "x")) (field (codes "i2") (int (negsuc 0)) (field (codes "s1") null (no_fields)))) } ∷ []); groups = (record { name = (codes "all"); hosts = ((codes "a") ∷ (codes "b") ∷ (codes "c") ∷ (codes "d") ∷ []) } ∷ record { name = (codes "g1"); hosts = ((codes "c") ∷ (codes "d") ∷ []) } ∷ record { name = (codes "ungrouped"); hosts = ((codes "a") ∷ (codes "b") ∷ []) } ∷ []) })
inventory_190 = refl

inventory_191 : inventory_from (rec (field (codes "_meta") (rec (field (codes "hostvars") (rec (field (codes "a") (rec (field (codes "i2") (text ([])) (no_fields))) (field (codes "b") (rec (field (codes "i2") (text (codes "t")) (no_fields))) (field (codes "c") (rec (field (codes "i2") null (field (codes "s1") (list (item (int (pos 1)) (item (text (codes "x")) (no_items)))) (no_fields)))) (no_fields))))) (no_fields))) (field (codes "all") (rec (field (codes "hosts") (list (item (text (codes "a")) (item (text (codes "b")) (item (text (codes "c")) (no_items))))) (field (codes "vars") (rec (field (codes "s1") (text (codes "b")) (no_fields))) (no_fields)))) (field (codes "g1") (rec (field (codes "hosts") (list (item (text (codes "b")) (no_items))) (field (codes "vars") (rec (no_fields)) (no_fields)))) (no_fields))))) ≡ Ok (record { hosts = (record { name = (codes "a"); variables = (field (codes "i2") (text ([])) (field (codes "s1") (text (codes "b")) (no_fields))) } ∷ record { name = (codes "b"); variables = (field (codes "i2") (text (codes "t")) (field (codes "s1") (text (codes "b")) (no_fields))) } ∷ record { name = (codes "c"); variables = (field (codes "i2") null (field (codes "s1") (list (item (int (pos 1)) (item (text (codes "x")) (no_items)))) (no_fields))) } ∷ []); groups = (record { name = (codes "all"); hosts = ((codes "a") ∷ (codes "b") ∷ (codes "c") ∷ []) } ∷ record { name = (codes "g1"); hosts = ((codes "b") ∷ []) } ∷ record { name = (codes "ungrouped"); hosts = ((codes "a") ∷ (codes "c") ∷ []) } ∷ []) })
inventory_191 = refl

inventory_192 : inventory_from (rec (field (codes "_meta") (rec (field (codes "hostvars") (rec (field (codes "a") (rec (field (codes "i2") (text (codes "a")) (field (codes "op") opaque (field (codes "s1") (list (item (boolean true) (no_items))) (no_fields))))) (field (codes "b") (rec (field (codes "i2") (int (pos 2)) (no_fields))) (no_fields)))) (no_fields))) (field (codes "all") (rec (field (codes "hosts") (list (item (text (codes "a")) (item (text (codes "b")) (no_items)))) (field (codes "vars") (rec (no_fields)) (no_fields)))) (no_fields)))) ≡ Ok (record { hosts = (record { name = (codes "a"); variables = (field (codes "i2") (text (codes "a")) (field (codes "op") opaque (field (codes "s1") (list (item (boolean true) (no_items))) (no_fields)))) } ∷ record { name = (codes "b"); variables = (field (codes "i2") (int (pos 2)) (no_fields)) } ∷ []); groups = (record { name = (codes "all"); hosts = ((codes "a") ∷ (codes "b") ∷ []) } ∷ record { name = (codes "ungrouped"); hosts = ((codes "a") ∷ (codes "b") ∷ []) } ∷ []) })
inventory_192 = refl

inventory_193 : inventory_from (rec (field (codes "_meta") (rec (field (codes "hostvars") (rec (field (codes "a") (rec (field (codes "i2") (text (codes "a")) (field (codes "op") opaque (no_fields)))) (no_fields))) (no_fields))) (field (codes "all") (rec (field (codes "hosts") (list (item (text (codes "a")) (no_items))) (field (codes "vars") (rec (field (codes "i2") (boolean true) (no_fields))) (no_fields)))) (no_fields)))) ≡ Ok (record { hosts = (record { name = (codes "a"); variables = (field (codes "i2") (text (codes "a")) (field (codes "op") opaque (no_fields))) } ∷ []); groups = (record { name = (codes "all"); hosts = ((codes "a") ∷ []) } ∷ record { name = (codes "ungrouped"); hosts = ((codes "a") ∷ []) } ∷ []) })
inventory_193 = refl

inventory_194 : inventory_from (rec (field (codes "_meta") (rec (field (codes "hostvars") (rec (field (codes "a") (rec (field (codes "i2") (text (codes "a")) (field (codes "s1") (rec (field (codes "f") (text (codes "b")) (no_fields))) (no_fields)))) (field (codes "b") (rec (field (codes "i1") (rec (field (codes "f") (text (codes "x")) (no_fields))) (field (codes "op") opaque (no_fields)))) (no_fields)))) (no_fields))) (field (codes "all") (rec (field (codes "hosts") (list (item (text (codes "a")) (item (text (codes "b")) (no_items)))) (field (codes "vars") (rec (field (codes "i1") (rec (field (codes "f") (list (item (boolean true) (item (text ([])) (no_items)))) (no_fields))) (no_fields))) (no_fields)))) (field (codes "g2") (rec (field (codes "hosts") (list (no_items)) (field (codes "vars") (rec (no_fields)) (no_fields)))) (no_fields))))) ≡ Ok (record { hosts = (record { name = (codes "a"); variables = (field (codes "i1") (rec (field (codes "f") (list (item (boolean true) (item (text ([])) (no_items)))) (no_fields))) (field (codes "i2") (text (codes "a")) (field (codes "s1") (rec (field (codes "f") (text (codes "b")) (no_fields))) (no_fields)))) } ∷ record { name = (codes "b"); variables = (field (codes "i1") (rec (field (codes "f") (text (codes "x")) (no_fields))) (field (codes "op") opaque (no_fields))) } ∷ []); groups = (record { name = (codes "all"); hosts = ((codes "a") ∷ (codes "b") ∷ []) } ∷ record { name = (codes "g2"); hosts = ([]) } ∷ record { name = (codes "ungrouped"); hosts = ((codes "a") ∷ (codes "b") ∷ []) } ∷ []) })
inventory_194 = refl

inventory_195 : inventory_from (rec (field (codes "_meta") (rec (field (codes "hostvars") (rec (field (codes "a") (rec (field (codes "i2") (text (codes "a")) (no_fields))) (field (codes "b") (rec (no_fields)) (field (codes "c") (rec (field (codes "op") opaque (field (codes "s1") null (no_fields)))) (no_fields))))) (no_fields))) (field (codes "all") (rec (field (codes "hosts") (list (item (text (codes "a")) (item (text (codes "b")) (item (text (codes "c")) (no_items))))) (field (codes "vars") (rec (no_fields)) (no_fields)))) (field (codes "g1") (rec (field (codes "hosts") (list (item (text (codes "a")) (item (text (codes "b")) (no_items)))) (field (codes "vars") (rec (field (codes "i1") (boolean false) (field (codes "i2") (rec (field (codes "f") (int (pos 3)) (field (codes "g") (text (codes "b")) (no_fields)))) (field (codes "s1") (list (no_items)) (no_fields))))) (no_fields)))) (field (codes "g2") (rec (field (codes "hosts") (list (item (text (codes "a")) (item (text (codes "b")) (item (text (codes "c")) (no_items))))) (field (codes "vars") (rec (field (codes "s1") (list (item (text (codes "a")) (item (text (codes "no")) (no_items)))) (no_fields))) (no_fields)))) (no_fields)))))) ≡ Ok (record { hosts = (record { name = (codes "a"); variables = (field (codes "i1") (boolean false) (field (codes "i2") (text (codes "a")) (field (codes "s1") (list (item (text (codes "a")) (item (text (codes "no")) (no_items)))) (no_fields)))) } ∷ record { name = (codes "b"); variables = (field (codes "i1") (boolean false) (field (codes "i2") (rec (field (codes "f") (int (pos 3)) (field (codes "g") (text (codes "b")) (no_fields)))) (field (codes "s1") (list (item (text (codes "a")) (item (text (codes "no")) (no_items)))) (no_fields)))) } ∷ record { name = (codes "c"); variables = (field (codes "op") opaque (field (codes "s1") null (no_fields))) } ∷ []); groups = (record { name = (codes "all"); hosts = ((codes "a") ∷ (codes "b") ∷ (codes "c") ∷ []) } ∷ record { name = (codes "g1"); hosts = ((codes "a") ∷ (codes "b") ∷ []) } ∷ record { name = (codes "g2"); hosts = ((codes "a") ∷ (codes "b") ∷ (codes "c") ∷ []) } ∷ record { name = (codes "ungrouped"); hosts = ([]) } ∷ []) })
inventory_195 = refl

inventory_196 : inventory_from (rec (field (codes "_meta") (rec (field (codes "hostvars") (rec (field (codes "a") (rec (field (codes "i2") (text (codes "a")) (no_fields))) (no_fields))) (no_fields))) (field (codes "all") (rec (field (codes "hosts") (list (item (text (codes "a")) (no_items))) (field (codes "vars") (rec (field (codes "i1") (int (negsuc 0)) (no_fields))) (no_fields)))) (field (codes "g1") (rec (field (codes "hosts") (list (no_items)) (field (codes "vars") (rec (field (codes "s1") (list (item (text (codes "x")) (item (text ([])) (no_items)))) (no_fields))) (no_fields)))) (field (codes "g2") (rec (field (codes "hosts") (list (item (text (codes "a")) (no_items))) (field (codes "vars") (rec (field (codes "i1") (text (codes "a")) (no_fields))) (no_fields)))) (no_fields)))))) ≡ Ok (record { hosts = (record { name = (codes "a"); variables = (field (codes "i1") (text (codes "a")) (field (codes "i2") (text (codes "a")) (no_fields))) } ∷ []); groups = (record { name = (codes "all"); hosts = ((codes "a") ∷ []) } ∷ record { name = (codes "g1"); hosts = ([]) } ∷ record { name = (codes "g2"); hosts = ((codes "a") ∷ []) } ∷ record { name = (codes "ungrouped"); hosts = ([]) } ∷ []) })
inventory_196 = refl

inventory_197 : inventory_from (rec (field (codes "_meta") (rec (field (codes "hostvars") (rec (field (codes "a") (rec (field (codes "i2") (text (codes "b")) (field (codes "op") opaque (no_fields)))) (field (codes "b") (rec (field (codes "i1") null (field (codes "s1") (list (item (int (pos 1)) (no_items))) (no_fields)))) (field (codes "c") (rec (field (codes "i1") (list (item (int (negsuc 0)) (no_items))) (field (codes "op") opaque (no_fields)))) (field (codes "d") (rec (field (codes "i1") (boolean false) (no_fields))) (no_fields)))))) (no_fields))) (field (codes "all") (rec (field (codes "hosts") (list (item (text (codes "a")) (item (text (codes "b")) (item (text (codes "c")) (item (text (codes "d")) (no_items)))))) (field (codes "vars") (rec (no_fields)) (no_fields)))) (field (codes "g1") (rec (field (codes "children") (list (item (text (codes "g2")) (no_items))) (field (codes "hosts") (list (item (text (codes "b")) (no_items))) (field (codes "vars") (rec (field (codes "i1") (text (codes "t")) (no_fields))) (no_fields))))) (field (codes "g2") (rec (field (codes "hosts") (list (item (text (codes "b")) (item (text (codes "c")) (item (text (codes "d")) (no_items))))) (field (codes "vars") (rec (field (codes "i1") null (no_fields))) (no_fields)))) (no_fields)))))) ≡ Ok (record { hosts = (record { name = (codes "a"); variables = (field (codes "i2") (text (codes "b")) (field (codes "op") opaque (no_fields))) } ∷ record { name = (codes "b"); variables = (field (codes "i1") null (field (codes "s1") (list (item (int (pos 1)) (no_items))) (no_fields))) } ∷ record { name = (codes "c"); variables = (field (codes "i1") (list (item (int (negsuc 0)) (no_items))) (field (codes "op") opaque (no_fields))) } ∷ record { name = (codes "d"); variables = (field (codes "i1") (boolean false) (no_fields)) } ∷ []); groups = (record { name = (codes "all"); hosts = ((codes "a") ∷ (codes "b") ∷ (codes "c") ∷ (codes "d") ∷ []) } ∷ record { name = (codes "g1"); hosts = ((codes "b") ∷ (codes "c") ∷ (codes "d") ∷ []) } ∷ record { name = (codes "g2"); hosts = ((codes "b") ∷ (codes "c") ∷ (codes "d") ∷ []) } ∷ record { name = (codes "ungrouped"); hosts = ((codes "a") ∷ []) } ∷ []) })
inventory_197 = refl

inventory_198 : inventory_from (rec (field (codes "_meta") (rec (field (codes "hostvars") (rec (field (codes "a") (rec (field (codes "i2") (text (codes "b")) (field (codes "op") opaque (no_fields)))) (field (codes "b") (rec (field (codes "op") opaque (no_fields))) (field (codes "c") (rec (no_fields)) (no_fields))))) (no_fields))) (field (codes "all") (rec (field (codes "hosts") (list (item (text (codes "a")) (item (text (codes "b")) (item (text (codes "c")) (no_items))))) (field (codes "vars") (rec (no_fields)) (no_fields)))) (field (codes "g1") (rec (field (codes "hosts") (list (item (text (codes "a")) (item (text (codes "c")) (no_items)))) (field (codes "vars") (rec (no_fields)) (no_fields)))) (field (codes "g2") (rec (field (codes "hosts") (list (no_items)) (field (codes "vars") (rec (field (codes "i2") (list (item (text (codes "b")) (item (int (negsuc 0)) (no_items)))) (field (codes "s1") (list (no_items)) (no_fields)))) (no_fields)))) (no_fields)))))) ≡ Ok (record { hosts = (record { name = (codes "a"); variables = (field (codes "i2") (text (codes "b")) (field (codes "op") opaque (no_fields))) } ∷ record { name = (codes "b"); variables = (field (codes "op") opaque (no_fields)) } ∷ record { name = (codes "c"); variables = (no_fields) } ∷ []); groups = (record { name = (codes "all"); hosts = ((codes "a") ∷ (codes "b") ∷ (codes "c") ∷ []) } ∷ record { name = (codes "g1"); hosts = ((codes "a") ∷ (codes "c") ∷ []) } ∷ record { name = (codes "g2"); hosts = ([]) } ∷ record { name = (codes "ungrouped"); hosts = ((codes "b") ∷ []) } ∷ []) })
inventory_198 = refl

inventory_199 : inventory_from (rec (field (codes "_meta") (rec (field (codes "hostvars") (rec (field (codes "a") (rec (field (codes "i2") (text (codes "b")) (field (codes "op") opaque (no_fields)))) (no_fields))) (no_fields))) (field (codes "all") (rec (field (codes "hosts") (list (item (text (codes "a")) (no_items))) (field (codes "vars") (rec (field (codes "i2") (rec (field (codes "f") (text ([])) (no_fields))) (no_fields))) (no_fields)))) (field (codes "g1") (rec (field (codes "hosts") (list (item (text (codes "a")) (no_items))) (field (codes "vars") (rec (field (codes "op") opaque (no_fields))) (no_fields)))) (no_fields))))) ≡ Ok (record { hosts = (record { name = (codes "a"); variables = (field (codes "i2") (text (codes "b")) (field (codes "op") opaque (no_fields))) } ∷ []); groups = (record { name = (codes "all"); hosts = ((codes "a") ∷ []) } ∷ record { name = (codes "g1"); hosts = ((codes "a") ∷ []) } ∷ record { name = (codes "ungrouped"); hosts = ([]) } ∷ []) })
inventory_199 = refl

inventory_200 : inventory_from (rec (field (codes "_meta") (rec (field (codes "hostvars") (rec (field (codes "a") (rec (field (codes "i2") (text (codes "b")) (field (codes "s1") (list (item (boolean false) (no_items))) (no_fields)))) (field (codes "b") (rec (field (codes "i1") (text (codes "no")) (no_fields))) (no_fields)))) (no_fields))) (field (codes "all") (rec (field (codes "hosts") (list (item (text (codes "a")) (item (text (codes "b")) (no_items)))) (field (codes "vars") (rec (field (codes "s1") (int (pos 0)) (no_fields))) (no_fields)))) (field (codes "g1") (rec (field (codes "children") (list (item (text (codes "g2")) (no_items))) (field (codes "hosts") (list (item (text (codes "a")) (item (text (codes "b")) (no_items)))) (field (codes "vars") (rec (field (codes "op") opaque (field (codes "s1") (text (codes "b")) (no_fields)))) (no_fields))))) (field (codes "g2") (rec (field (codes "hosts") (list (item (text (codes "a")) (item (text (codes "b")) (no_items)))) (field (codes "vars") (rec (no_fields)) (no_fields)))) (no_fields)))))) ≡ Ok (record { hosts = (record { name = (codes "a"); variables = (field (codes "i2") (text (codes "b")) (field (codes "op") opaque (field (codes "s1") (list (item (boolean false) (no_items))) (no_fields)))) } ∷ record { name = (codes "b"); variables = (field (codes "i1") (text (codes "no")) (field (codes "op") opaque (field (codes "s1") (text (codes "b")) (no_fields)))) } ∷ []); groups = (record { name = (codes "all"); hosts = ((codes "a") ∷ (codes "b") ∷ []) } ∷ record { name = (codes "g1"); hosts = ((codes "a") ∷ (codes "b") ∷ []) } ∷ record { name = (codes "g2"); hosts = ((codes "a") ∷ (codes "b") ∷ []) } ∷ record { name = (codes "ungrouped"); hosts = ([]) } ∷ []) })
inventory_200 = refl

inventory_201 : inventory_from (rec (field (codes "_meta") (rec (field (codes "hostvars") (rec (field (codes "a") (rec (field (codes "i2") (text (codes "b")) (field (codes "s1") (list (item (int (pos 3)) (item (text (codes "b")) (no_items)))) (no_fields)))) (field (codes "b") (rec (field (codes "i1") (int (pos 1)) (field (codes "i2") (int (negsuc 0)) (no_fields)))) (field (codes "c") (rec (field (codes "op") opaque (no_fields))) (field (codes "d") (rec (field (codes "op") opaque (no_fields))) (no_fields)))))) (no_fields))) (field (codes "all") (rec (field (codes "hosts") (list (item (text (codes "a")) (item (text (codes "b")) (item (text (codes "c")) (item (text (codes "d")) (no_items)))))) (field (codes "vars") (rec (no_fields)) (no_fields)))) (field (codes "g2") (rec (field (codes "hosts") (list (item (text (codes "b")) (item (text (codes "d")) (no_items)))) (field (codes "vars") (rec (no_fields)) (no_fields)))) (no_fields))))) ≡ Ok (record { hosts = (record { name = (codes "a"); variables = (field (codes "i2") (text (codes "b")) (field (codes "s1") (list (item (int (pos 3)) (item (text (codes "b")) (no_items)))) (no_fields))) } ∷ record { name = (codes "b"); variables = (field (codes "i1") (int (pos 1)) (field (codes "i2") (int (negsuc 0)) (no_fields))) } ∷ record { name = (codes "c"); variables = (field (codes "op") opaque (no_fields)) } ∷ record { name = (codes "d"); variables = (field (codes "op") opaque (no_fields)) } ∷ []); groups = (record { name = (codes "all"); hosts = ((codes "a") ∷ (codes "b") ∷ (codes "c") ∷ (codes "d") ∷ []) } ∷ record { name = (codes "g2"); hosts = ((codes "b") ∷ (codes "d") ∷ []) } ∷ record { name = (codes "ungrouped"); hosts = ((codes "a") ∷ (codes "c") ∷ []) } ∷ []) })
inventory_201 = refl

inventory_202 : inventory_from (rec (field (codes "_meta") (rec (field (codes "hostvars") (rec (field (codes "a") (rec (field (codes "i2") (text (codes "b")) (field (codes "s1") (list (item (text (codes "b")) (item (text (codes "a")) (no_items)))) (no_fields)))) (field (codes "b") (rec (no_fields)) (field (codes "c") (rec (no_fields)) (field (codes "d") (rec (no_fields)) (no_fields)))))) (no_fields))) (field (codes "all") (rec (field (codes "hosts") (list (item (text (codes "a")) (item (text (codes "b")) (item (text (codes "c")) (item (text (codes "d")) (no_items)))))) (field (codes "vars") (rec (field (codes "s1") (text (codes "no")) (no_fields))) (no_fields)))) (field (codes "g1") (rec (field (codes "hosts") (list (item (text (codes "a")) (item (text (codes "b")) (item (text (codes "c")) (no_items))))) (field (codes "vars") (rec (field (codes "i1") (text (codes "no")) (field (codes "op") opaque (no_fields)))) (no_fields)))) (field (codes "g2") (rec (field (codes "hosts") (list (item (text (codes "b")) (item (text (codes "c")) (item (text (codes "d")) (no_items))))) (field (codes "vars") (rec (field (codes "s1") (text (codes "a")) (no_fields))) (no_fields)))) (no_fields)))))) ≡ Ok (record { hosts = (record { name = (codes "a"); variables = (field (codes "i1") (text (codes "no")) (field (codes "i2") (text (codes "b")) (field (codes "op") opaque (field (codes "s1") (list (item (text (codes "b")) (item (text (codes "a")) (no_items)))) (no_fields))))) } ∷ record { name = (codes "b"); variables = (field (codes "i1") (text (codes "no")) (field (codes "op") opaque (field (codes "s1") (text (codes "a")) (no_fields)))) } ∷ record { name = (codes "c"); variables = (field (codes "i1") (text (codes "no")) (field (codes "op") opaque (field (codes "s1") (text (codes "a")) (no_fields)))) } ∷ record { name = (codes "d"); variables = (field (codes "s1") (text (codes "a")) (no_fields)) } ∷ []); groups = (record { name = (codes "all"); hosts = ((codes "a") ∷ (codes "b") ∷ (codes "c") ∷ (codes "d") ∷ []) } ∷ record { name = (codes "g1"); hosts = ((codes "a") ∷ (codes "b") ∷ (codes "c") ∷ []) } ∷ record { name = (codes "g2"); hosts = ((codes "b") ∷ (codes "c") ∷ (codes "d") ∷ []) } ∷ record { name = (codes "ungrouped"); hosts = ([]) } ∷ []) })
inventory_202 = refl

inventory_203 : inventory_from (rec (field (codes "_meta") (rec (field (codes "hostvars") (rec (field (codes "a") (rec (field (codes "i2") (text (codes "b")) (no_fields))) (field (codes "b") (rec (field (codes "i1") (int (pos 1)) (field (codes "s1") (list (item (int (negsuc 0)) (no_items))) (no_fields)))) (no_fields)))) (no_fields))) (field (codes "all") (rec (field (codes "hosts") (list (item (text (codes "a")) (item (text (codes "b")) (no_items)))) (field (codes "vars") (rec (no_fields)) (no_fields)))) (field (codes "g1") (rec (field (codes "hosts") (list (item (text (codes "a")) (item (text (codes "b")) (no_items)))) (field (codes "vars") (rec (field (codes "op") opaque (no_fields))) (no_fields)))) (no_fields))))) ≡ Ok (record { hosts = (record { name = (codes "a"); variables = (field (codes "i2") (text (codes "b")) (field (codes "op") opaque (no_fields))) } ∷ record { name = (codes "b"); variables = (field (codes "i1") (int (pos 1)) (field (codes "op") opaque (field (codes "s1") (list (item (int (negsuc 0)) (no_items))) (no_fields)))) } ∷ []); groups = (record { name = (codes "all"); hosts = ((codes "a") ∷ (codes "b") ∷ []) } ∷ record { name = (codes "g1"); hosts = ((codes "a") ∷ (codes "b") ∷ []) } ∷ record { name = (codes "ungrouped"); hosts = ([]) } ∷ []) })
inventory_203 = refl

inventory_204 : inventory_from (rec (field (codes "_meta") (rec (field (codes "hostvars") (rec (field (codes "a") (rec (field (codes "i2") (text (codes "b")) (no_fields))) (field (codes "b") (rec (field (codes "i1") (text (codes "t")) (field (codes "s1") null (no_fields)))) (field (codes "c") (rec (no_fields)) (no_fields))))) (no_fields))) (field (codes "all") (rec (field (codes "hosts") (list (item (text (codes "a")) (item (text (codes "b")) (item (text (codes "c")) (no_items))))) (field (codes "vars") (rec (no_fields)) (no_fields)))) (field (codes "g1") (rec (field (codes "hosts") (list (item (text (codes "b")) (no_items))) (field (codes "vars") (rec (field (codes "i1") (text (codes "x")) (no_fields))) (no_fields)))) (no_fields))))) ≡ Ok (record { hosts = (record { name = (codes "a"); variables = (field (codes "i2") (text (codes "b")) (no_fields)) } ∷ record { name = (codes "b"); variables = (field (codes "i1") (text (codes "t")) (field (codes "s1") null (no_fields))) } ∷ record { name = (codes "c"); variables = (no_fields) } ∷ []); groups = (record { name = (codes "all"); hosts = ((codes "a") ∷ (codes "b") ∷ (codes "c") ∷ []) } ∷ record { name = (codes "g1"); hosts = ((codes "b") ∷ []) } ∷ record { name = (codes "ungrouped"); hosts = ((codes "a") ∷ (codes "c") ∷ []) } ∷ []) })
inventory_204 = refl

inventory_205 : inventory_from (rec (field (codes "_meta") (rec (field (codes "hostvars") (rec (field (codes "a") (rec (field (codes "i2") (text (codes "b")) (no_fields))) (field (codes "b") (rec (field (codes "s1") (int (pos 3)) (no_fields))) (field (codes "c") (rec (no_fields)) (field (codes "d") (rec (field (codes "op") opaque (field (codes "s1") (text (codes "no")) (no_fields)))) (no_fields)))))) (no_fields))) (field (codes "all") (rec (field (codes "hosts") (list (item (text (codes "a")) (item (text (codes "b")) (item (text (codes "c")) (item (text (codes "d")) (no_items)))))) (field (codes "vars") (rec (field (codes "op") opaque (field (codes "s1") (list (item (int (pos 1)) (no_items))) (no_fields)))) (no_fields)))) (field (codes "g2") (rec (field (codes "hosts") (list (item (text (codes "a")) (item (text (codes "c")) (no_items)))) (field (codes "vars") (rec (field (codes "i1") (int (pos 2)) (field (codes "op") opaque (no_fields)))) (no_fields)))) (no_fields))))) ≡ Ok (record { hosts = (record { name = (codes "a"); variables = (field (codes "i1") (int (pos 2)) (field (codes "i2") (text (codes "b")) (field (codes "op") opaque (field (codes "s1") (list (item (int (pos 1)) (no_items))) (no_fields))))) } ∷ record { name = (codes "b"); variables = (field (codes "op") opaque (field (codes "s1") (int (pos 3)) (no_fields))) } ∷ record { name = (codes "c"); variables = (field (codes "i1") (int (pos 2)) (field (codes "op") opaque (field (codes "s1") (list (item (int (pos 1)) (no_items))) (no_fields)))) } ∷ record { name = (codes "d"); variables = (field (codes "op") opaque (field (codes "s1") (text (codes "no")) (no_fields))) } ∷ []); groups = (record { name = (codes "all"); hosts = ((codes "a") ∷ (codes "b") ∷ (codes "c") ∷ (codes "d") ∷ []) } ∷ record { name = (codes "g2"); hosts = ((codes "a") ∷ (codes "c") ∷ []) } ∷ record { name = (codes "ungrouped"); hosts = ((codes "b") ∷ (codes "d") ∷ []) } ∷ []) })
inventory_205 = refl

inventory_206 : inventory_from (rec (field (codes "_meta") (rec (field (codes "hostvars") (rec (field (codes "a") (rec (field (codes "i2") (text (codes "b")) (no_fields))) (field (codes "b") (rec (no_fields)) (field (codes "c") (rec (field (codes "op") opaque (field (codes "s1") (boolean true) (no_fields)))) (field (codes "d") (rec (field (codes "i1") (text (codes "x")) (field (codes "s1") (list (item (int (pos 0)) (no_items))) (no_fields)))) (no_fields)))))) (no_fields))) (field (codes "all") (rec (field (codes "hosts") (list (item (text (codes "a")) (item (text (codes "b")) (item (text (codes "c")) (item (text (codes "d")) (no_items)))))) (field (codes "vars") (rec (field (codes "s1") (int (negsuc 0)) (no_fields))) (no_fields)))) (field (codes "g1") (rec (field (codes "hosts") (list (item (text (codes "a")) (item (text (codes "b")) (no_items)))) (field (codes "vars") (rec (field (codes "i1") null (field (codes "op") opaque (no_fields)))) (no_fields)))) (field (codes "g2") (rec (field (codes "hosts") (list (item (text (codes "a")) (item (text (codes "c")) (item (text (codes "d")) (no_items))))) (field (codes "vars") (rec (field (codes "i1") (list (no_items)) (field (codes "op") opaque (field (codes "s1") (list (item (text (codes "t")) (no_items))) (no_fields))))) (no_fields)))) (no_fields)))))) ≡ Ok (record { hosts = (record { name = (codes "a"); variables = (field (codes "i1") (list (no_items)) (field (codes "i2") (text (codes "b")) (field (codes "op") opaque (field (codes "s1") (list (item (text (codes "t")) (no_items))) (no_fields))))) } ∷ record { name = (codes "b"); variables = (field (codes "i1") null (field (codes "op") opaque (field (codes "s1") (int (negsuc 0)) (no_fields)))) } ∷ record { name = (codes "c"); variables = (field (codes "i1") (list (no_items)) (field (codes "op") opaque (field (codes "s1") (boolean true) (no_fields)))) } ∷ record { name = (codes "d"); variables = (field (codes "i1") (text (codes "x")) (field (codes "op") opaque (field (codes "s1") (list (item (int (pos 0)) (no_items))) (no_fields)))) } ∷ []); groups = (record { name = (codes "all"); hosts = ((codes "a") ∷ (codes "b") ∷ (codes "c") ∷ (codes "d") ∷ []) } ∷ record { name = (codes "g1"); hosts = ((codes "a") ∷ (codes "b") ∷ []) } ∷ record { name = (codes "g2"); hosts = ((codes "a") ∷ (codes "c") ∷ (codes "d") ∷ []) } ∷ record { name = (codes "ungrouped"); hosts = ([]) } ∷ []) })
inventory_206 = refl

inventory_207 : inventory_from (rec (field (codes "_meta") (rec (field (codes "hostvars") (rec (field (codes "a") (rec (field (codes "i2") (text (codes "no")) (field (codes "op") opaque (no_fields)))) (field (codes "b") (rec (field (codes "i2") (rec (field (codes "f") (list (item (boolean true) (item (boolean false) (no_items)))) (field (codes "g") (text (codes "t")) (no_fields)))) (no_fields))) (field (codes "c") (rec (no_fields)) (field (codes "d") (rec (field (codes "op") opaque (no_fields))) (no_fields)))))) (no_fields))) (field (codes "all") (rec (field (codes "hosts") (list (item (text (codes "a")) (item (text (codes "b")) (item (text (codes "c")) (item (text (codes "d")) (no_items)))))) (field (codes "vars") (rec (no_fields)) (no_fields)))) (field (codes "g1") (rec (field (codes "hosts") (list (item (text (codes "a")) (item (text (codes "b")) (item (text (codes "c")) (no_items))))) (field (codes "vars") (rec (field (codes "i1") (text ([])) (field (codes "s1") (boolean true) (no_fields)))) (no_fields)))) (no_fields))))) ≡ Ok (record { hosts = (record { name = (codes "a"); variables = (field (codes "i1") (text ([])) (field (codes "i2") (text (codes "no")) (field (codes "op") opaque (field (codes "s1") (boolean true) (no_fields))))) } ∷ record { name = (codes "b"); variables = (field (codes "i1") (text ([])) (field (codes "i2") (rec (field (codes "f") (list (item (boolean true) (item (boolean false) (no_items)))) (field (codes "g") (text (codes "t")) (no_fields)))) (field (codes "s1") (boolean true) (no_fields)))) } ∷ record { name = (codes "c"); variables = (field (codes "i1") (text ([])) (field (codes "s1") (boolean true) (no_fields))) } ∷ record { name = (codes "d"); variables = (field (codes "op") opaque (no_fields)) } ∷ []); groups = (record { name = (codes "all"); hosts = ((codes "a") ∷ (codes "b") ∷ (codes "c") ∷ (codes "d") ∷ []) } ∷ record { name = (codes "g1"); hosts = ((codes "a") ∷ (codes "b") ∷ (codes "c") ∷ []) } ∷ record { name = (codes "ungrouped"); hosts = ((codes "d") ∷ []) } ∷ []) })
inventory_207 = refl

inventory_208 : inventory_from (rec (field (codes "_meta") (rec (field (codes "hostvars") (rec (field (codes "a") (rec (field (codes "i2") (text (codes "no")) (field (codes "s1") (list (item (text (codes "b")) (no_items))) (no_fields)))) (field (codes "b") (rec (field (codes "op") opaque (no_fields))) (field (codes "c") (rec (no_fields)) (field (codes "d") (rec (field (codes "op") opaque (no_fields))) (no_fields)))))) (no_fields))) (field (codes "all") (rec (field (codes "hosts") (list (item (text (codes "a")) (item (text (codes "b")) (item (text (codes "c")) (item (text (codes "d")) (no_items)))))) (field (codes "vars") (rec (field (codes "i2") (text (codes "t")) (no_fields))) (no_fields)))) (field (codes "g1") (rec (field (codes "hosts") (list (item (text (codes "a")) (item (text (codes "b")) (item (text (codes "c")) (no_items))))) (field (codes "vars") (rec (field (codes "op") opaque (no_fields))) (no_fields)))) (field (codes "g2") (rec (field (codes "hosts") (list (item (text (codes "a")) (item (text (codes "b")) (item (text (codes "c")) (no_items))))) (field (codes "vars") (rec (field (codes "i2") (text (codes "t")) (field (codes "op") opaque (no_fields)))) (no_fields)))) (no_fields)))))) ≡ Ok (record { hosts = (record { name = (codes "a"); variables = (field (codes "i2") (text (codes "no")) (field (codes "op") opaque (field (codes "s1") (list (item (text (codes "b")) (no_items))) (no_fields)))) } ∷ record { name = (codes "b"); variables = (field (codes "i2") (text (codes "t")) (field (codes "op") opaque (no_fields))) } ∷ record { name = (codes "c"); variables = (field (codes "i2") (text (codes "t")) (field (codes "op") opaque (no_fields))) } ∷ record { name = (codes "d"); variables = (field (codes "i2") (text (codes "t")) (field (codes "op") opaque (no_fields))) } ∷ []); groups = (record { name = (codes "all"); hosts = ((codes "a") ∷ (codes "b") ∷ (codes "c") ∷ (codes "d") ∷ []) } ∷ record { name = (codes "g1"); hosts = ((codes "a") ∷ (codes "b") ∷ (codes "c") ∷ []) } ∷ record { name = (codes "g2"); hosts = ((codes "a") ∷ (codes "b") ∷ (codes "c") ∷ []) } ∷ record { name = (codes "ungrouped"); hosts = ((codes "d") ∷ []) } ∷ []) })
inventory_208 = refl

inventory_209 : inventory_from (rec (field (codes "_meta") (rec (field (codes "hostvars") (rec (field (codes "a") (rec (field (codes "i2") (text (codes "no")) (no_fields))) (field (codes "b") (rec (field (codes "i2") (list (item (int (negsuc 0)) (no_items))) (field (codes "op") opaque (no_fields)))) (no_fields)))) (no_fields))) (field (codes "all") (rec (field (codes "hosts") (list (item (text (codes "a")) (item (text (codes "b")) (no_items)))) (field (codes "vars") (rec (field (codes "i1") (list (no_items)) (field (codes "s1") (text (codes "t")) (no_fields)))) (no_fields)))) (field (codes "g1") (rec (field (codes "children") (list (item (text (codes "g2")) (no_items))) (field (codes "hosts") (list (item (text (codes "b")) (no_items))) (field (codes "vars") (rec (no_fields)) (no_fields))))) (field (codes "g2") (rec (field (codes "hosts") (list (item (text (codes "a")) (no_items))) (field (codes "vars") (rec (field (codes "s1") (text (codes "a")) (no_fields))) (no_fields)))) (no_fields)))))) ≡ Ok (record { hosts = (record { name = (codes "a"); variables = (field (codes "i1") (list (no_items)) (field (codes "i2") (text (codes "no")) (field (codes "s1") (text (codes "a")) (no_fields)))) } ∷ record { name = (codes "b"); variables = (field (codes "i1") (list (no_items)) (field (codes "i2") (list (item (int (negsuc 0)) (no_items))) (field (codes "op") opaque (field (codes "s1") (text (codes "t")) (no_fields))))) } ∷ []); groups = (record { name = (codes "all"); hosts = ((codes "a") ∷ (codes "b") ∷ []) } ∷ record { name = (codes "g1"); hosts = ((codes "b") ∷ (codes "a") ∷ []) } ∷ record { name = (codes "g2"); hosts = ((codes "a") ∷ []) } ∷ record { name = (codes "ungrouped"); hosts = ([]) } ∷ []) })
inventory_209 = refl

inventory_210 : inventory_from (rec (field (codes "_meta") (rec (field (codes "hostvars") (rec (field (codes "a") (rec (field (codes "i2") (text (codes "no")) (no_fields))) (field (codes "b") (rec (field (codes "op") opaque (no_fields))) (field (codes "c") (rec (no_fields)) (field (codes "d") (rec (no_fields)) (no_fields)))))) (no_fields))) (field (codes "all") (rec (field (codes "hosts") (list (item (text (codes "a")) (item (text (codes "b")) (item (text (codes "c")) (item (text (codes "d")) (no_items)))))) (field (codes "vars") (rec (field (codes "i2") (boolean false) (no_fields))) (no_fields)))) (field (codes "g1") (rec (field (codes "hosts") (list (item (text (codes "a")) (item (text (codes "b")) (item (text (codes "d")) (no_items))))) (field (codes "vars") (rec (no_fields)) (no_fields)))) (no_fields))))) ≡ Ok (record { hosts = (record { name = (codes "a"); variables = (field (codes "i2") (text (codes "no")) (no_fields)) } ∷ record { name = (codes "b"); variables = (field (codes "i2") (boolean false) (field (codes "op") opaque (no_fields))) } ∷ record { name = (codes "c"); variables = (field (codes "i2") (boolean false) (no_fields)) } ∷ record { name = (codes "d"); variables = (field (codes "i2") (boolean false) (no_fields)) } ∷ []); groups = (record { name = (codes "all"); hosts = ((codes "a") ∷ (codes "b") ∷ (codes "c") ∷ (codes "d") ∷ []) } ∷ record { name = (codes "g1"); hosts = ((codes "a") ∷ (codes "b") ∷ (codes "d") ∷ []) } ∷ record { name = (codes "ungrouped"); hosts = ((codes "c") ∷ []) } ∷ []) })
inventory_210 = refl

inventory_211 : inventory_from (rec (field (codes "_meta") (rec (field (codes "hostvars") (rec (field (codes "a") (rec (field (codes "i2") (text (codes "no")) (no_fields))) (field (codes "b") (rec (field (codes "s1") (int (pos 2)) (no_fields))) (field (codes "c") (rec (field (codes "op") opaque (no_fields))) (field (codes "d") (rec (field (codes "s1") (text (codes "x")) (no_fields))) (no_fields)))))) (no_fields))) (field (codes "all") (rec (field (codes "hosts") (list (item (text (codes "a")) (item (text (codes "b")) (item (text (codes "c")) (item (text (codes "d")) (no_items)))))) (field (codes "vars") (rec (field (codes "i1") (text (codes "no")) (field (codes "i2") (text ([])) (no_fields)))) (no_fields)))) (field (codes "g1") (rec (field (codes "hosts") (list (item (text (codes "c")) (no_items))) (field (codes "vars") (rec (field (codes "op") opaque (field (codes "s1") (list (item (text (codes "t")) (no_items))) (no_fields)))) (no_fields)))) (field (codes "g2") (rec (field (codes "hosts") (list (item (text (codes "a")) (item (text (codes "b")) (item (text (codes "c")) (no_items))))) (field (codes "vars") (rec (no_fields)) (no_fields)))) (no_fields)))))) ≡ Ok (record { hosts = (record { name = (codes "a"); variables = (field (codes "i1") (text (codes "no")) (field (codes "i2") (text (codes "no")) (no_fields))) } ∷ record { name = (codes "b"); variables = (field (codes "i1") (text (codes "no")) (field (codes "i2") (text ([])) (field (codes "s1") (int (pos 2)) (no_fields)))) } ∷ record { name = (codes "c"); variables = (field (codes "i1") (text (codes "no")) (field (codes "i2") (text ([])) (field (codes "op") opaque (field (codes "s1") (list (item (text (codes "t")) (no_items))) (no_fields))))) } ∷ record { name = (codes "d"); variables = (field (codes "i1") (text (codes "no")) (field (codes "i2") (text ([])) (field (codes "s1") (text (codes "x")) (no_fields)))) } ∷ []); groups = (record { name = (codes "all"); hosts = ((codes "a") ∷ (codes "b") ∷ (codes "c") ∷ (codes "d") ∷ []) } ∷ record { name = (codes "g1"); hosts = ((codes "c") ∷ []) } ∷ record { name = (codes "g2"); hosts = ((codes "a") ∷ (codes "b") ∷ (codes "c") ∷ []) } ∷ record { name = (codes "ungrouped"); hosts = ((codes "d") ∷ []) } ∷ []) })
inventory_211 = refl

inventory_212 : inventory_from (rec (field (codes "_meta") (rec (field (codes "hostvars") (rec (field (codes "a") (rec (field (codes "i2") (text (codes "t")) (no_fields))) (field (codes "b") (rec (no_fields)) (field (codes "c") (rec (field (codes "op") opaque (no_fields))) (field (codes "d") (rec (field (codes "i1") (boolean true) (field (codes "s1") (text (codes "a")) (no_fields)))) (no_fields)))))) (no_fields))) (field (codes "all") (rec (field (codes "hosts") (list (item (text (codes "a")) (item (text (codes "b")) (item (text (codes "c")) (item (text (codes "d")) (no_items)))))) (field (codes "vars") (rec (no_fields)) (no_fields)))) (field (codes "g1") (rec (field (codes "hosts") (list (item (text (codes "d")) (no_items))) (field (codes "vars") (rec (no_fields)) (no_fields)))) (no_fields))))) ≡ Ok (record { hosts = (record { name = (codes "a"); variables = (field (codes "i2") (text (codes "t")) (no_fields)) } ∷ record { name = (codes "b"); variables = (no_fields) } ∷ record { name = (codes "c"); variables = (field (codes "op") opaque (no_fields)) } ∷ record { name = (codes "d"); variables = (field (codes "i1") (boolean true) (field (codes "s1") (text (codes "a")) (no_fields))) } ∷ []); groups = (record { name = (codes "all"); hosts = ((codes "a") ∷ (codes "b") ∷ (codes "c") ∷ (codes "d") ∷ []) } ∷ record { name = (codes "g1"); hosts = ((codes "d") ∷ []) } ∷ record { name = (codes "ungrouped"); hosts = ((codes "a") ∷ (codes "b") ∷ (codes "c") ∷ []) } ∷ []) })
inventory_212 = refl

inventory_213 : inventory_from (rec (field (codes "_meta") (rec (field (codes "hostvars") (rec (field (codes "a") (rec (field (codes "i2") (text (codes "t")) (no_fields))) (field (codes "b") (rec (no_fields)) (field (codes "c") (rec (field (codes "s1") (text (codes "b")) (no_fields))) (field (codes "d") (rec (field (codes "i2") (int (pos 3)) (field (codes "s1") (rec (field (codes "g") (list (item (text (codes "b")) (no_items))) (no_fields))) (no_fields)))) (no_fields)))))) (no_fields))) (field (codes "all") (rec (field (codes "hosts") (list (item (text (codes "a")) (item (text (codes "b")) (item (text (codes "c")) (item (text (codes "d")) (no_items)))))) (field (codes "vars") (rec (field (codes "op") opaque (no_fields))) (no_fields)))) (field (codes "g1") (rec (field (codes "hosts") (list (item (text (codes "a")) (item (text (codes "b")) (item (text (codes "d")) (no_items))))) (field (codes "vars") (rec (field (codes "op") opaque (field (codes "s1") (text ([])) (no_fields)))) (no_fields)))) (field (codes "g2") (rec (field (codes "hosts") (list (item (text (codes "a")) (item (text (codes "d")) (no_items)))) (field (codes "vars") (rec (field (codes "s1") (boolean false) (no_fields))) (no_fields)))) (no_fields)))))) ≡ Ok (record { hosts = (record { name = (codes "a"); variables = (field (codes "i2") (text (codes "t")) (field (codes "op") opaque (field (codes "s1") (boolean false) (no_fields)))) } ∷ record { name = (codes "b"); variables = (field (codes "op") opaque (field (codes "s1") (text ([])) (no_fields))) } ∷ record { name = (codes "c"); variables = (field (codes "op") opaque (field (codes "s1") (text (codes "b")) (no_fields))) } ∷ record { name = (codes "d"); variables = (field (codes "i2") (int (pos 3)) (field (codes "op") opaque (field (codes "s1") (rec (field (codes "g") (list (item (text (codes "b")) (no_items))) (no_fields))) (no_fields)))) } ∷ []); groups = (record { name = (codes "all"); hosts = ((codes "a") ∷ (codes "b") ∷ (codes "c") ∷ (codes "d") ∷ []) } ∷ record { name = (codes "g1"); hosts = ((codes "a") ∷ (codes "b") ∷ (codes "d") ∷ []) } ∷ record { name = (codes "g2"); hosts = ((codes "a") ∷ (codes "d") ∷ []) } ∷ record { name = (codes "ungrouped"); hosts = ((codes "c") ∷ []) } ∷ []) })
inventory_213 = refl

inventory_214 : inventory_from (rec (field (codes "_meta") (rec (field (codes "hostvars") (rec (field (codes "a") (rec (field (codes "i2") (text (codes "x")) (field (codes "op") opaque (no_fields)))) (field (codes "b") (rec (field (codes "i2") (int (pos 1)) (no_fields))) (field (codes "c") (rec (field (codes "op") opaque (no_fields))) (field (codes "d") (rec (field (codes "op") opaque (no_fields))) (no_fields)))))) (no_fields))) (field (codes "all") (rec (field (codes "hosts") (list (item (text (codes "a")) (item (text (codes "b")) (item (text (codes "c")) (item (text (codes "d")) (no_items)))))) (field (codes "vars") (rec (field (codes "s1") (list (item (int (negsuc 0)) (item (int (negsuc 0)) (no_items)))) (no_fields))) (no_fields)))) (field (codes "g1") (rec (field (codes "hosts") (list (item (text (codes "a")) (item (text (codes "b")) (item (text (codes "c")) (item (text (codes "d")) (no_items)))))) (field (codes "vars") (rec (no_fields)) (no_fields)))) (field (codes "g2") (rec (field (codes "hosts") (list (item (text (codes "a")) (item (text (codes "b")) (item (text (codes "c")) (item (text (codes "d")) (no_items)))))) (field (codes "vars") (rec (field (codes "op") opaque (no_fields))) (no_fields)))) (no_fields)))))) ≡ Ok (record { hosts = (record { name = (codes "a"); variables = (field (codes "i2") (text (codes "x")) (field (codes "op") opaque (field (codes "s1") (list (item (int (negsuc 0)) (item (int (negsuc 0)) (no_items)))) (no_fields)))) } ∷ record { name = (codes "b"); variables = (field (codes "i2") (int (pos 1)) (field (codes "op") opaque (field (codes "s1") (list (item (int (negsuc 0)) (item (int (negsuc 0)) (no_items)))) (no_fields)))) } ∷ record { name = (codes "c"); variables = (field (codes "op") opaque (field (codes "s1") (list (item (int (negsuc 0)) (item (int (negsuc 0)) (no_items)))) (no_fields))) } ∷ record { name = (codes "d"); variables = (field (codes "op") opaque (field (codes "s1") (list (item (int (negsuc 0)) (item (int (negsuc 0)) (no_items)))) (no_fields))) } ∷ []); groups = (record { name = (codes "all"); hosts = ((codes "a") ∷ (codes "b") ∷ (codes "c") ∷ (codes "d") ∷ []) } ∷ record { name = (codes "g1"); hosts = ((codes "a") ∷ (codes "b") ∷ (codes "c") ∷ (codes "d") ∷ []) } ∷ record { name = (codes "g2"); hosts = ((codes "a") ∷ (codes "b") ∷ (codes "c") ∷ (codes "d") ∷ []) } ∷ record { name = (codes "ungrouped"); hosts = ([]) } ∷ []) })
inventory_214 = refl

inventory_215 : inventory_from (rec (field (codes "_meta") (rec (field (codes "hostvars") (rec (field (codes "a") (rec (field (codes "i2") (text (codes "x")) (field (codes "op") opaque (no_fields)))) (field (codes "b") (rec (field (codes "op") opaque (no_fields))) (field (codes "c") (rec (field (codes "i1") (list (no_items)) (field (codes "s1") (int (pos 0)) (no_fields)))) (field (codes "d") (rec (field (codes "i1") (list (item (text (codes "b")) (item (text (codes "t")) (no_items)))) (field (codes "i2") (boolean true) (no_fields)))) (no_fields)))))) (no_fields))) (field (codes "all") (rec (field (codes "hosts") (list (item (text (codes "a")) (item (text (codes "b")) (item (text (codes "c")) (item (text (codes "d")) (no_items)))))) (field (codes "vars") (rec (no_fields)) (no_fields)))) (field (codes "g1") (rec (field (codes "hosts") (list (item (text (codes "a")) (item (text (codes "c")) (no_items)))) (field (codes "vars") (rec (field (codes "i1") (rec (no_fields)) (no_fields))) (no_fields)))) (field (codes "g2") (rec (field (codes "hosts") (list (item (text (codes "a")) (item (text (codes "c")) (no_items)))) (field (codes "vars") (rec (field (codes "op") opaque (field (codes "s1") (text (codes "b")) (no_fields)))) (no_fields)))) (no_fields)))))) ≡ Ok (record { hosts = (record { name = (codes "a"); variables = (field (codes "i1") (rec (no_fields)) (field (codes "i2") (text (codes "x")) (field (codes "op") opaque (field (codes "s1") (text (codes "b")) (no_fields))))) } ∷ record { name = (codes "b"); variables = (field (codes "op") opaque (no_fields)) } ∷ record { name = (codes "c"); variables = (field (codes "i1") (list (no_items)) (field (codes "op") opaque (field (codes "s1") (int (pos 0)) (no_fields)))) } ∷ record { name = (codes "d"); variables = (field (codes "i1") (list (item (text (codes "b")) (item (text (codes "t")) (no_items)))) (field (codes "i2") (boolean true) (no_fields))) } ∷ []); groups = (record { name = (codes "all"); hosts = ((codes "a") ∷ (codes "b") ∷ (codes "c") ∷ (codes "d") ∷ []) } ∷ record { name = (codes "g1"); hosts = ((codes "a") ∷ (codes "c") ∷ []) } ∷ record { name = (codes "g2"); hosts = ((codes "a") ∷ (codes "c") ∷ []) } ∷ record { name = (codes "ungrouped"); hosts = ((codes "b") ∷ (codes "d") ∷ []) } ∷ []) })
inventory_215 = refl

inventory_216 : inventory_from (rec (field (codes "_meta") (rec (field (codes "hostvars") (rec (field (codes "a") (rec (field (codes "i2") (text (codes "x")) (field (codes "op") opaque (no_fields)))) (field (codes "b") (rec (field (codes "op") opaque (no_fields))) (no_fields)))) (no_fields))) (field (codes "all") (rec (field (codes "hosts") (list (item (text (codes "a")) (item (text (codes "b")) (no_items)))) (field (codes "vars") (rec (no_fields)) (no_fields)))) (field (codes "g1") (rec (field (codes "children") (list (item (text (codes "g2")) (no_items))) (field (codes "hosts") (list (item (text (codes "a")) (item (text (codes "b")) (no_items)))) (field (codes "vars") (rec (field (codes "i1") (int (pos 1)) (field (codes "op") opaque (no_fields)))) (no_fields))))) (field (codes "g2") (rec (field (codes "hosts") (list (item (text (codes "a")) (item (text (codes "b")) (no_items)))) (field (codes "vars") (rec (field (codes "op") opaque (no_fields))) (no_fields)))) (no_fields)))))) ≡ Ok (record { hosts = (record { name = (codes "a"); variables = (field (codes "i1") (int (pos 1)) (field (codes "i2") (text (codes "x")) (field (codes "op") opaque (no_fields)))) } ∷ record { name = (codes "b"); variables = (field (codes "i1") (int (pos 1)) (field (codes "op") opaque (no_fields))) } ∷ []); groups = (record { name = (codes "all"); hosts = ((codes "a") ∷ (codes "b") ∷ []) } ∷ record { name = (codes "g1"); hosts = ((codes "a") ∷ (codes "b") ∷ []) } ∷ record { name = (codes "g2"); hosts = ((codes "a") ∷ (codes "b") ∷ []) } ∷ record { name = (codes "ungrouped"); hosts = ([]) } ∷ []) })
inventory_216 = refl

inventory_217 : inventory_from (rec (field (codes "_meta") (rec (field (codes "hostvars") (rec (field (codes "a") (rec (field (codes "i2") (text (codes "x")) (field (codes "op") opaque (no_fields)))) (field (codes "b") (rec (field (codes "s1") (rec (field (codes "f") (text (codes "t")) (field (codes "g") (text (codes "no")) (no_fields)))) (no_fields))) (field (codes "c") (rec (no_fields)) (no_fields))))) (no_fields))) (field (codes "all") (rec (field (codes "hosts") (list (item (text (codes "a")) (item (text (codes "b")) (item (text (codes "c")) (no_items))))) (field (codes "vars") (rec (no_fields)) (no_fields)))) (field (codes "g1") (rec (field (codes "children") (list (item (text (codes "g2")) (no_items))) (field (codes "hosts") (list (item (text (codes "b")) (item (text (codes "c")) (no_items)))) (field (codes "vars") (rec (no_fields)) (no_fields))))) (field (codes "g2") (rec (field (codes "hosts") (list (item (text (codes "a")) (item (text (codes "b")) (item (text (codes "c")) (no_items))))) (field (codes "vars") (rec (field (codes "op") opaque (no_fields))) (no_fields)))) (no_fields)))))) ≡ Ok (record { hosts = (record { name = (codes "a"); variables = (field (codes "i2") (text (codes "x")) (field (codes "op") opaque (no_fields))) } ∷ record { name = (codes "b"); variables = (field (codes "op") opaque (field (codes "s1") (rec (field (codes "f") (text (codes "t")) (field (codes "g") (text (codes "no")) (no_fields)))) (no_fields))) } ∷ record { name = (codes "c"); variables = (field (codes "op") opaque (no_fields)) } ∷ []); groups = (record { name = (codes "all"); hosts = ((codes "a") ∷ (codes "b") ∷ (codes "c") ∷ []) } ∷ record { name = (codes "g1"); hosts = ((codes "b") ∷ (codes "c") ∷ (codes "a") ∷ []) } ∷ record { name = (codes "g2"); hosts = ((codes "a") ∷ (codes "b") ∷ (codes "c") ∷ []) } ∷ record { name = (codes "ungrouped"); hosts = ([]) } ∷ []) })
inventory_217 = refl

inventory_218 : inventory_from (rec (field (codes "_meta") (rec (field (codes "hostvars") (rec (field (codes "a") (rec (field (codes "i2") (text (codes "x")) (field (codes "s1") (list (item (int (pos 2)) (no_items))) (no_fields)))) (no_fields))) (no_fields))) (field (codes "all") (rec (field (codes "hosts") (list (item (text (codes "a")) (no_items))) (field (codes "vars") (rec (field (codes "i2") (list (no_items)) (no_fields))) (no_fields)))) (field (codes "g1") (rec (field (codes "hosts") (list (no_items)) (field (codes "vars") (rec (no_fields)) (no_fields)))) (field (codes "g2") (rec (field (codes "hosts") (list (item (text (codes "a")) (no_items))) (field (codes "vars") (rec (field (codes "i1") (rec (field (codes "g") (text (codes "a")) (no_fields))) (field (codes "i2") (int (pos 1)) (field (codes "op") opaque (no_fields))))) (no_fields)))) (no_fields)))))) ≡ Ok (record { hosts = (record { name = (codes "a"); variables = (field (codes "i1") (rec (field (codes "g") (text (codes "a")) (no_fields))) (field (codes "i2") (text (codes "x")) (field (codes "op") opaque (field (codes "s1") (list (item (int (pos 2)) (no_items))) (no_fields))))) } ∷ []); groups = (record { name = (codes "all"); hosts = ((codes "a") ∷ []) } ∷ record { name = (codes "g1"); hosts = ([]) } ∷ record { name = (codes "g2"); hosts = ((codes "a") ∷ []) } ∷ record { name = (codes "ungrouped"); hosts = ([]) } ∷ []) })
inventory_218 = refl

inventory_219 : inventory_from (rec (field (codes "_meta") (rec (field (codes "hostvars") (rec (field (codes "a") (rec (field (codes "i2") (text (codes "x")) (no_fields))) (field (codes "b") (rec (field (codes "i2") (list (item (int (pos 1)) (item (text (codes "no")) (no_items)))) (no_fields))) (no_fields)))) (no_fields))) (field (codes "all") (rec (field (codes "hosts") (list (item (text (codes "a")) (item (text (codes "b")) (no_items)))) (field (codes "vars") (rec (field (codes "op") opaque (no_fields))) (no_fields)))) (field (codes "g1") (rec (field (codes "children") (list (item (text (codes "g2")) (no_items))) (field (codes "hosts") (list (item (text (codes "a")) (item (text (codes "b")) (no_items)))) (field (codes "vars") (rec (no_fields)) (no_fields))))) (field (codes "g2") (rec (field (codes "hosts") (list (no_items)) (field (codes "vars") (rec (no_fields)) (no_fields)))) (no_fields)))))) ≡ Ok (record { hosts = (record { name = (codes "a"); variables = (field (codes "i2") (text (codes "x")) (field (codes "op") opaque (no_fields))) } ∷ record { name = (codes "b"); variables = (field (codes "i2") (list (item (int (pos 1)) (item (text (codes "no")) (no_items)))) (field (codes "op") opaque (no_fields))) } ∷ []); groups = (record { name = (codes "all"); hosts = ((codes "a") ∷ (codes "b") ∷ []) } ∷ record { name = (codes "g1"); hosts = ((codes "a") ∷ (codes "b") ∷ []) } ∷ record { name = (codes "g2"); hosts = ([]) } ∷ record { name = (codes "ungrouped"); hosts = ([]) } ∷ []) })
inventory_219 = refl

inventory_220 : inventory_from (rec (field (codes "_meta") (rec (field (codes "hostvars") (rec (field (codes "a") (rec (field (codes "i2") (text (codes "x")) (no_fields))) (field (codes "b") (rec (field (codes "i2") (text (codes "a")) (no_fields))) (no_fields)))) (no_fields))) (field (codes "all") (rec (field (codes "hosts") (list (item (text (codes "a")) (item (text (codes "b")) (no_items)))) (field (codes "vars") (rec (field (codes "i2") (boolean false) (no_fields))) (no_fields)))) (field (codes "g1") (rec (field (codes "hosts") (list (no_items)) (field (codes "vars") (rec (field (codes "i2") (text (codes "a")) (no_fields))) (no_fields)))) (no_fields))))) ≡ Ok (record { hosts = (record { name = (codes "a"); variables = (field (codes "i2") (text (codes "x")) (no_fields)) } ∷ record { name = (codes "b"); variables = (field (codes "i2") (text (codes "a")) (no_fields)) } ∷ []); groups = (record { name = (codes "all"); hosts = ((codes "a") ∷ (codes "b") ∷ []) } ∷ record { name = (codes "g1"); hosts = ([]) } ∷ record { name = (codes "ungrouped"); hosts = ((codes "a") ∷ (codes "b") ∷ []) } ∷ []) })
inventory_220 = refl

inventory_221 : inventory_from (rec (field (codes "_meta") (rec (field (codes "hostvars") (rec (field (codes "a") (rec (field (codes "i2") (text (codes "x")) (no_fields))) (no_fields))) (no_fields))) (field (codes "all") (rec (field (codes "hosts") (list (item (text (codes "a")) (no_items))) (field (codes "vars") (rec (field (codes "op") opaque (field (codes "s1") (boolean false) (no_fields)))) (no_fields)))) (field (codes "g1") (rec (field (codes "hosts") (list (item (text (codes "a")) (no_items))) (field (codes "vars") (rec (no_fields)) (no_fields)))) (no_fields))))) ≡ Ok (record { hosts = (record { name = (codes "a"); variables = (field (codes "i2") (text (codes "x")) (field (codes "op") opaque (field (codes "s1") (boolean false) (no_fields)))) } ∷ []); groups = (record { name = (codes "all"); hosts = ((codes "a") ∷ []) } ∷ record { name = (codes "g1"); hosts = ((codes "a") ∷ []) } ∷ record { name = (codes "ungrouped"); hosts = ([]) } ∷ []) })
inventory_221 = refl

inventory_222 : inventory_from (rec (field (codes "_meta") (rec (field (codes "hostvars") (rec (field (codes "a") (rec (field (codes "i2") null (no_fields))) (no_fields))) (no_fields))) (field (codes "all") (rec (field (codes "hosts") (list (item (text (codes "a")) (no_items))) (field (codes "vars") (rec (no_fields)) (no_fields)))) (field (codes "g1") (rec (field (codes "children") (list (item (text (codes "g2")) (no_items))) (field (codes "hosts") (list (item (text (codes "a")) (no_items))) (field (codes "vars") (rec (no_fields)) (no_fields))))) (field (codes "g2") (rec (field (codes "hosts") (list (no_items)) (field (codes "vars") (rec (field (codes "s1") (boolean false) (no_fields))) (no_fields)))) (no_fields)))))) ≡ Ok (record { hosts = (record { name = (codes "a"); variables = (field (codes "i2") null (no_fields)) } ∷ []); groups = (record { name = (codes "all"); hosts = ((codes "a") ∷ []) } ∷ record { name = (codes "g1"); hosts = ((codes "a") ∷ []) } ∷ record { name = (codes "g2"); hosts = ([]) } ∷ record { name = (codes "ungrouped"); hosts = ([]) } ∷ []) })
inventory_222 = refl

inventory_223 : inventory_from (rec (field (codes "_meta") (rec (field (codes "hostvars") (rec (field (codes "a") (rec (field (codes "inv") (list (item (text (codes "x")) (no_items))) (field (codes "opq") opaque (no_fields)))) (field (codes "b") (rec (field (codes "k") (rec (field (codes "z") (text (123 ∷ 123 ∷ 32 ∷ 113 ∷ 32 ∷ 125 ∷ 125 ∷ [])) (no_fields))) (no_fields))) (no_fields)))) (no_fields))) (field (codes "all") (rec (field (codes "hosts") (list (item (text (codes "c")) (no_items))) (field (codes "vars") (rec (field (codes "inv") (list (item (int (pos 1)) (item (int (pos 2)) (no_items)))) (no_fields))) (no_fields)))) (field (codes "g") (rec (field (codes "hosts") (list (item (text (codes "b")) (item (text (codes "a")) (no_items)))) (no_fields))) (no_fields))))) ≡ Ok (record { hosts = (record { name = (codes "c"); variables = (field (codes "inv") (list (item (int (pos 1)) (item (int (pos 2)) (no_items)))) (no_fields)) } ∷ record { name = (codes "b"); variables = (field (codes "inv") (list (item (int (pos 1)) (item (int (pos 2)) (no_items)))) (field (codes "k") (rec (field (codes "z") opaque (no_fields))) (no_fields))) } ∷ record { name = (codes "a"); variables = (field (codes "inv") (list (item (text (codes "x")) (no_items))) (field (codes "opq") opaque (no_fields))) } ∷ []); groups = (record { name = (codes "all"); hosts = ((codes "c") ∷ (codes "b") ∷ (codes "a") ∷ []) } ∷ record { name = (codes "g"); hosts = ((codes "b") ∷ (codes "a") ∷ []) } ∷ record { name = (codes "ungrouped"); hosts = ((codes "c") ∷ []) } ∷ []) })
inventory_223 = refl

inventory_224 : inventory_from (rec (field (codes "_meta") (rec (field (codes "hostvars") (rec (field (codes "a") (rec (field (codes "op") opaque (field (codes "s1") (boolean false) (no_fields)))) (field (codes "b") (rec (field (codes "op") opaque (field (codes "s1") (int (pos 1)) (no_fields)))) (no_fields)))) (no_fields))) (field (codes "all") (rec (field (codes "hosts") (list (item (text (codes "a")) (item (text (codes "b")) (no_items)))) (field (codes "vars") (rec (field (codes "i1") (rec (field (codes "f") (text (codes "x")) (field (codes "g") (rec (field (codes "f") (int (pos 1)) (no_fields))) (no_fields)))) (field (codes "op") opaque (no_fields)))) (no_fields)))) (field (codes "g1") (rec (field (codes "hosts") (list (item (text (codes "a")) (item (text (codes "b")) (no_items)))) (field (codes "vars") (rec (no_fields)) (no_fields)))) (field (codes "g2") (rec (field (codes "hosts") (list (item (text (codes "a")) (item (text (codes "b")) (no_items)))) (field (codes "vars") (rec (no_fields)) (no_fields)))) (no_fields)))))) ≡ Ok (record { hosts = (record { name = (codes "a"); variables = (field (codes "i1") (rec (field (codes "f") (text (codes "x")) (field (codes "g") (rec (field (codes "f") (int (pos 1)) (no_fields))) (no_fields)))) (field (codes "op") opaque (field (codes "s1") (boolean false) (no_fields)))) } ∷ record { name = (codes "b"); variables = (field (codes "i1") (rec (field (codes "f") (text (codes "x")) (field (codes "g") (rec (field (codes "f") (int (pos 1)) (no_fields))) (no_fields)))) (field (codes "op") opaque (field (codes "s1") (int (pos 1)) (no_fields)))) } ∷ []); groups = (record { name = (codes "all"); hosts = ((codes "a") ∷ (codes "b") ∷ []) } ∷ record { name = (codes "g1"); hosts = ((codes "a") ∷ (codes "b") ∷ []) } ∷ record { name = (codes "g2"); hosts = ((codes "a") ∷ (codes "b") ∷ []) } ∷ record { name = (codes "ungrouped"); hosts = ([]) } ∷ []) })
inventory_224 = refl

inventory_225 : inventory_from (rec (field (codes "_meta") (rec (field (codes "hostvars") (rec (field (codes "a") (rec (field (codes "op") opaque (field (codes "s1") (boolean false) (no_fields)))) (no_fields))) (no_fields))) (field (codes "all") (rec (field (codes "hosts") (list (item (text (codes "a")) (no_items))) (field (codes "vars") (rec (field (codes "i1") (text (codes "no")) (no_fields))) (no_fields)))) (field (codes "g1") (rec (field (codes "hosts") (list (no_items)) (field (codes "vars") (rec (no_fields)) (no_fields)))) (no_fields))))) ≡ Ok (record { hosts = (record { name = (codes "a"); variables = (field (codes "i1") (text (codes "no")) (field (codes "op") opaque (field (codes "s1") (boolean false) (no_fields)))) } ∷ []); groups = (record { name = (codes "all"); hosts = ((codes "a") ∷ []) } ∷ record { name = (codes "g1"); hosts = ([]) } ∷ record { name = (codes "ungrouped"); hosts = ((codes "a") ∷ []) } ∷ []) })
inventory_225 = refl

inventory_226 : inventory_from (rec (field (codes "_meta") (rec (field (codes "hostvars") (rec (field (codes "a") (rec (field (codes "op") opaque (field (codes "s1") (boolean true) (no_fields)))) (field (codes "b") (rec (no_fields)) (field (codes "c") (rec (field (codes "i1") (int (negsuc 0)) (field (codes "op") opaque (no_fields)))) (no_fields))))) (no_fields))) (field (codes "all") (rec (field (codes "hosts") (list (item (text (codes "a")) (item (text (codes "b")) (item (text (codes "c")) (no_items))))) (field (codes "vars") (rec (field (codes "i2") (int (pos 3)) (field (codes "op") opaque (no_fields)))) (no_fields)))) (field (codes "g1") (rec (field (codes "hosts") (list (item (text (codes "a")) (item (text (codes "c")) (no_items)))) (field (codes "vars") (rec (field (codes "i2") (rec (field (codes "f") (list (no_items)) (field (codes "g") (list (item (text (codes "a")) (no_items))) (no_fields)))) (no_fields))) (no_fields)))) (field (codes "g2") (rec (field (codes "hosts") (list (item (text (codes "a")) (item (text (codes "c")) (no_items)))) (field (codes "vars") (rec (field (codes "i2") (boolean false) (no_fields))) (no_fields)))) (no_fields)))))) ≡ Ok (record { hosts = (record { name = (codes "a"); variables = (field (codes "i2") (boolean false) (field (codes "op") opaque (field (codes "s1") (boolean true) (no_fields)))) } ∷ record { name = (codes "b"); variables = (field (codes "i2") (int (pos 3)) (field (codes "op") opaque (no_fields))) } ∷ record { name = (codes "c"); variables = (field (codes "i1") (int (negsuc 0)) (field (codes "i2") (boolean false) (field (codes "op") opaque (no_fields)))) } ∷ []); groups = (record { name = (codes "all"); hosts = ((codes "a") ∷ (codes "b") ∷ (codes "c") ∷ []) } ∷ record { name = (codes "g1"); hosts = ((codes "a") ∷ (codes "c") ∷ []) } ∷ record { name = (codes "g2"); hosts = ((codes "a") ∷ (codes "c") ∷ []) } ∷ record { name = (codes "ungrouped"); hosts = ((codes "b") ∷ []) } ∷ []) })
inventory_226 = refl

inventory_227 : inventory_from (rec (field (codes "_meta") (rec (field (codes "hostvars") (rec (field (codes "a") (rec (field (codes "op") opaque (field (codes "s1") (int (pos 1)) (no_fields)))) (field (codes "b") (rec (no_fields)) (field (codes "c") (rec (field (codes "i1") (rec (field (codes "f") (text (codes "x")) (no_fields))) (no_fields))) (no_fields))))) (no_fields))) (field (codes "all") (rec (field (codes "hosts") (list (item (text (codes "a")) (item (text (codes "b")) (item (text (codes "c")) (no_items))))) (field (codes "vars") (rec (no_fields)) (no_fields)))) (field (codes "g1") (rec (field (codes "hosts") (list (item (text (codes "b")) (item (text (codes "c")) (no_items)))) (field (codes "vars") (rec (no_fields)) (no_fields)))) (no_fields))))) ≡ Ok (record { hosts = (record { name = (codes "a"); variables = (field (codes "op") opaque (field (codes "s1") (int (pos 1)) (no_fields))) } ∷ record { name = (codes "b"); variables = (no_fields) } ∷ record { name = (codes "c"); variables = (field (codes "i1") (rec (field (codes "f") (text (codes "x")) (no_fields))) (no_fields)) } ∷ []); groups = (record { name = (codes "all"); hosts = ((codes "a") ∷ (codes "b") ∷ (codes "c") ∷ []) } ∷ record { name = (codes "g1"); hosts = ((codes "b") ∷ (codes "c") ∷ []) } ∷ record { name = (codes "ungrouped"); hosts = ((codes "a") ∷ []) } ∷ []) })
inventory_227 = refl

inventory_228 : inventory_from (rec (field (codes "_meta") (rec (field (codes "hostvars") (rec (field (codes "a") (rec (field (codes "op") opaque (field (codes "s1") (int (pos 3)) (no_fields)))) (field (codes "b") (rec (field (codes "i1") (rec (field (codes "f") (text (codes "x")) (field (codes "g") (list (item (text (codes "x")) (item (text (codes "t")) (no_items)))) (no_fields)))) (no_fields))) (no_fields)))) (no_fields))) (field (codes "all") (rec (field (codes "hosts") (list (item (text (codes "a")) (item (text (codes "b")) (no_items)))) (field (codes "vars") (rec (field (codes "s1") (list (no_items)) (no_fields))) (no_fields)))) (field (codes "g1") (rec (field (codes "children") (list (item (text (codes "g2")) (no_items))) (field (codes "hosts") (list (item (text (codes "a")) (item (text (codes "b")) (no_items)))) (field (codes "vars") (rec (no_fields)) (no_fields))))) (field (codes "g2") (rec (field (codes "hosts") (list (item (text (codes "b")) (no_items))) (field (codes "vars") (rec (field (codes "i1") (rec (field (codes "f") (int (pos 0)) (no_fields))) (field (codes "i2") (rec (field (codes "f") (list (item (text ([])) (item (text (codes "a")) (no_items)))) (no_fields))) (no_fields)))) (no_fields)))) (no_fields)))))) ≡ Ok (record { hosts = (record { name = (codes "a"); variables = (field (codes "op") opaque (field (codes "s1") (int (pos 3)) (no_fields))) } ∷ record { name = (codes "b"); variables = (field (codes "i1") (rec (field (codes "f") (text (codes "x")) (field (codes "g") (list (item (text (codes "x")) (item (text (codes "t")) (no_items)))) (no_fields)))) (field (codes "i2") (rec (field (codes "f") (list (item (text ([])) (item (text (codes "a")) (no_items)))) (no_fields))) (field (codes "s1") (list (no_items)) (no_fields)))) } ∷ []); groups = (record { name = (codes "all"); hosts = ((codes "a") ∷ (codes "b") ∷ []) } ∷ record { name = (codes "g1"); hosts = ((codes "a") ∷ (codes "b") ∷ []) } ∷ record { name = (codes "g2"); hosts = ((codes "b") ∷ []) } ∷ record { name = (codes "ungrouped"); hosts = ([]) } ∷ []) })
inventory_228 = refl

inventory_229 : inventory_from (rec (field (codes "_meta") (rec (field (codes "hostvars") (rec (field (codes "a") (rec (field (codes "op") opaque (field (codes "s1") (list (no_items)) (no_fields)))) (field (codes "b") (rec (field (codes "op") opaque (no_fields))) (field (codes "c") (rec (field (codes "op") opaque (no_fields))) (field (codes "d") (rec (field (codes "i1") (boolean false) (field (codes "i2") (int (pos 2)) (field (codes "op") opaque (no_fields))))) (no_fields)))))) (no_fields))) (field (codes "all") (rec (field (codes "hosts") (list (item (text (codes "a")) (item (text (codes "b")) (item (text (codes "c")) (item (text (codes "d")) (no_items)))))) (field (codes "vars") (rec (field (codes "i1") (int (pos 1)) (field (codes "i2") (rec (field (codes "f") (list (item (text ([])) (item (int (negsuc 0)) (no_items)))) (field (codes "g") (list (no_items)) (no_fields)))) (field (codes "s1") (int (pos 1)) (no_fields))))) (no_fields)))) (field (codes "g1") (rec (field (codes "children") (list (item (text (codes "g2")) (no_items))) (field (codes "hosts") (list (no_items)) (field (codes "vars") (rec (no_fields)) (no_fields))))) (field (codes "g2") (rec (field (codes "hosts") (list (item (text (codes "a")) (no_items))) (field (codes "vars") (rec (field (codes "i2") (list (no_items)) (no_fields))) (no_fields)))) (no_fields)))))) ≡ Ok (record { hosts = (record { name = (codes "a"); variables = (field (codes "i1") (int (pos 1)) (field (codes "i2") (list (no_items)) (field (codes "op") opaque (field (codes "s1") (list (no_items)) (no_fields))))) } ∷ record { name = (codes "b"); variables = (field (codes "i1") (int (pos 1)) (field (codes "i2") (rec (field (codes "f") (list (item (text ([])) (item (int (negsuc 0)) (no_items)))) (field (codes "g") (list (no_items)) (no_fields)))) (field (codes "op") opaque (field (codes "s1") (int (pos 1)) (no_fields))))) } ∷ record { name = (codes "c"); variables = (field (codes "i1") (int (pos 1)) (field (codes "i2") (rec (field (codes "f") (list (item (text ([])) (item (int (negsuc 0)) (no_items)))) (field (codes "g") (list (no_items)) (no_fields)))) (field (codes "op") opaque (field (codes "s1") (int (pos 1)) (no_fields))))) } ∷ record { name = (codes "d"); variables = (field (codes "i1") (boolean false) (field (codes "i2") (int (pos 2)) (field (codes "op") opaque (field (codes "s1") (int (pos 1)) (no_fields))))) } ∷ []); groups = (record { name = (codes "all"); hosts = ((codes "a") ∷ (codes "b") ∷ (codes "c") ∷ (codes "d") ∷ []) } ∷ record { name = (codes "g1"); hosts = ((codes "a") ∷ []) } ∷ record { name = (codes "g2"); hosts = ((codes "a") ∷ []) } ∷ record { name = (codes "ungrouped"); hosts = ((codes "b") ∷ (codes "c") ∷ (codes "d") ∷ []) } ∷ []) })
inventory_229 = refl

inventory_230 : inventory_from (rec (field (codes "_meta") (rec (field (codes "hostvars") (rec (field (codes "a") (rec (field (codes "op") opaque (field (codes "s1") (rec (field (codes "f") (text (codes "no")) (no_fields))) (no_fields)))) (field (codes "b") (rec (field (codes "i2") (list (item (text ([])) (no_items))) (no_fields))) (no_fields)))) (no_fields))) (field (codes "all") (rec (field (codes "hosts") (list (item (text (codes "a")) (item (text (codes "b")) (no_items)))) (field (codes "vars") (rec (field (codes "s1") (list (no_items)) (no_fields))) (no_fields)))) (field (codes "g1") (rec (field (codes "hosts") (list (item (text (codes "b")) (no_items))) (field (codes "vars") (rec (no_fields)) (no_fields)))) (field (codes "g2") (rec (field (codes "hosts") (list (item (text (codes "b")) (no_items))) (field (codes "vars") (rec (no_fields)) (no_fields)))) (no_fields)))))) ≡ Ok (record { hosts = (record { name = (codes "a"); variables = (field (codes "op") opaque (field (codes "s1") (rec (field (codes "f") (text (codes "no")) (no_fields))) (no_fields))) } ∷ record { name = (codes "b"); variables = (field (codes "i2") (list (item (text ([])) (no_items))) (field (codes "s1") (list (no_items)) (no_fields))) } ∷ []); groups = (record { name = (codes "all"); hosts = ((codes "a") ∷ (codes "b") ∷ []) } ∷ record { name = (codes "g1"); hosts = ((codes "b") ∷ []) } ∷ record { name = (codes "g2"); hosts = ((codes "b") ∷ []) } ∷ record { name = (codes "ungrouped"); hosts = ((codes "a") ∷ []) } ∷ []) })
inventory_230 = refl

inventory_231 : inventory_from (rec (field (codes "_meta") (rec (field (codes "hostvars") (rec (field (codes "a") (rec (field (codes "op") opaque (field (codes "s1") (text (codes "t")) (no_fields)))) (field (codes "b") (rec (field (codes "i1") (list (no_items)) (field (codes "op") opaque (no_fields)))) (field (codes "c") (rec (no_fields)) (field (codes "d") (rec (field (codes "s1") (list (item (text (codes "b")) (no_items))) (no_fields))) (no_fields)))))) (no_fields))) (field (codes "all") (rec (field (codes "hosts") (list (item (text (codes "a")) (item (text (codes "b")) (item (text (codes "c")) (item (text (codes "d")) (no_items)))))) (field (codes "vars") (rec (field (codes "s1") (list (no_items)) (no_fields))) (no_fields)))) (field (codes "g2") (rec (field (codes "hosts") (list (item (text (codes "a")) (no_items))) (field (codes "vars") (rec (no_fields)) (no_fields)))) (no_fields))))) ≡ Ok (record { hosts = (record { name = (codes "a"); variables = (field (codes "op") opaque (field (codes "s1") (text (codes "t")) (no_fields))) } ∷ record { name = (codes "b"); variables = (field (codes "i1") (list (no_items)) (field (codes "op") opaque (field (codes "s1") (list (no_items)) (no_fields)))) } ∷ record { name = (codes "c"); variables = (field (codes "s1") (list (no_items)) (no_fields)) } ∷ record { name = (codes "d"); variables = (field (codes "s1") (list (item (text (codes "b")) (no_items))) (no_fields)) } ∷ []); groups = (record { name = (codes "all"); hosts = ((codes "a") ∷ (codes "b") ∷ (codes "c") ∷ (codes "d") ∷ []) } ∷ record { name = (codes "g2"); hosts = ((codes "a") ∷ []) } ∷ record { name = (codes "ungrouped"); hosts = ((codes "b") ∷ (codes "c") ∷ (codes "d") ∷ []) } ∷ []) })
inventory_231 = refl

inventory_232 : inventory_from (rec (field (codes "_meta") (rec (field (codes "hostvars") (rec (field (codes "a") (rec (field (codes "op") opaque (field (codes "s1") (text (codes "t")) (no_fields)))) (field (codes "b") (rec (field (codes "op") opaque (no_fields))) (field (codes "c") (rec (no_fields)) (field (codes "d") (rec (field (codes "i2") (boolean true) (field (codes "s1") (int (pos 1)) (no_fields)))) (no_fields)))))) (no_fields))) (field (codes "all") (rec (field (codes "hosts") (list (item (text (codes "a")) (item (text (codes "b")) (item (text (codes "c")) (item (text (codes "d")) (no_items)))))) (field (codes "vars") (rec (field (codes "i1") (boolean false) (field (codes "i2") (list (item (text (codes "no")) (no_items))) (no_fields)))) (no_fields)))) (field (codes "g1") (rec (field (codes "children") (list (item (text (codes "g2")) (no_items))) (field (codes "hosts") (list (item (text (codes "d")) (no_items))) (field (codes "vars") (rec (field (codes "i1") (boolean false) (field (codes "i2") (text (codes "no")) (no_fields)))) (no_fields))))) (field (codes "g2") (rec (field (codes "hosts") (list (item (text (codes "a")) (item (text (codes "b")) (item (text (codes "d")) (no_items))))) (field (codes "vars") (rec (field (codes "op") opaque (field (codes "s1") (int (pos 1)) (no_fields)))) (no_fields)))) (no_fields)))))) ≡ Ok (record { hosts = (record { name = (codes "a"); variables = (field (codes "i1") (boolean false) (field (codes "i2") (text (codes "no")) (field (codes "op") opaque (field (codes "s1") (text (codes "t")) (no_fields))))) } ∷ record { name = (codes "b"); variables = (field (codes "i1") (boolean false) (field (codes "i2") (text (codes "no")) (field (codes "op") opaque (field (codes "s1") (int (pos 1)) (no_fields))))) } ∷ record { name = (codes "c"); variables = (field (codes "i1") (boolean false) (field (codes "i2") (list (item (text (codes "no")) (no_items))) (no_fields))) } ∷ record { name = (codes "d"); variables = (field (codes "i1") (boolean false) (field (codes "i2") (boolean true) (field (codes "op") opaque (field (codes "s1") (int (pos 1)) (no_fields))))) } ∷ []); groups = (record { name = (codes "all"); hosts = ((codes "a") ∷ (codes "b") ∷ (codes "c") ∷ (codes "d") ∷ []) } ∷ record { name = (codes "g1"); hosts = ((codes "d") ∷ (codes "a") ∷ (codes "b") ∷ []) } ∷ record { name = (codes "g2"); hosts = ((codes "a") ∷ (codes "b") ∷ (codes "d") ∷ []) } ∷ record { name = (codes "ungrouped"); hosts = ((codes "c") ∷ []) } ∷ []) })
inventory_232 = refl

inventory_233 : inventory_from (rec (field (codes "_meta") (rec (field (codes "hostvars") (rec (field (codes "a") (rec (field (codes "op") opaque (field (codes "s1") (text (codes "x")) (no_fields)))) (field (codes "b") (rec (field (codes "s1") (rec (field (codes "f") (rec (field (codes "f") (int (negsuc 0)) (field (codes "g") (text ([])) (no_fields)))) (no_fields))) (no_fields))) (no_fields)))) (no_fields))) (field (codes "all") (rec (field (codes "hosts") (list (item (text (codes "a")) (item (text (codes "b")) (no_items)))) (field (codes "vars") (rec (no_fields)) (no_fields)))) (field (codes "g2") (rec (field (codes "hosts") (list (item (text (codes "a")) (item (text (codes "b")) (no_items)))) (field (codes "vars") (rec (field (codes "s1") (rec (field (codes "f") (text (codes "x")) (field (codes "g") (rec (field (codes "f") (boolean true) (field (codes "g") (int (negsuc 0)) (no_fields)))) (no_fields)))) (no_fields))) (no_fields)))) (no_fields))))) ≡ Ok (record { hosts = (record { name = (codes "a"); variables = (field (codes "op") opaque (field (codes "s1") (text (codes "x")) (no_fields))) } ∷ record { name = (codes "b"); variables = (field (codes "s1") (rec (field (codes "f") (rec (field (codes "f") (int (negsuc 0)) (field (codes "g") (text ([])) (no_fields)))) (no_fields))) (no_fields)) } ∷ []); groups = (record { name = (codes "all"); hosts = ((codes "a") ∷ (codes "b") ∷ []) } ∷ record { name = (codes "g2"); hosts = ((codes "a") ∷ (codes "b") ∷ []) } ∷ record { name = (codes "ungrouped"); hosts = ([]) } ∷ []) })
inventory_233 = refl

inventory_234 : inventory_from (rec (field (codes "_meta") (rec (field (codes "hostvars") (rec (field (codes "a") (rec (field (codes "op") opaque (field (codes "s1") null (no_fields)))) (field (codes "b") (rec (field (codes "i1") null (no_fields))) (no_fields)))) (no_fields))) (field (codes "all") (rec (field (codes "hosts") (list (item (text (codes "a")) (item (text (codes "b")) (no_items)))) (field (codes "vars") (rec (field (codes "i2") (rec (field (codes "f") (text (codes "a")) (field (codes "g") (boolean false) (no_fields)))) (field (codes "op") opaque (field (codes "s1") (int (pos 3)) (no_fields))))) (no_fields)))) (no_fields)))) ≡ Ok (record { hosts = (record { name = (codes "a"); variables = (field (codes "i2") (rec (field (codes "f") (text (codes "a")) (field (codes "g") (boolean false) (no_fields)))) (field (codes "op") opaque (field (codes "s1") null (no_fields)))) } ∷ record { name = (codes "b"); variables = (field (codes "i1") null (field (codes "i2") (rec (field (codes "f") (text (codes "a")) (field (codes "g") (boolean false) (no_fields)))) (field (codes "op") opaque (field (codes "s1") (int (pos 3)) (no_fields))))) } ∷ []); groups = (record { name = (codes "all"); hosts = ((codes "a") ∷ (codes "b") ∷ []) } ∷ record { name = (codes "ungrouped"); hosts = ((codes "a") ∷ (codes "b") ∷ []) } ∷ []) })
inventory_234 = refl

inventory_235 : inventory_from (rec (field (codes "_meta") (rec (field (codes "hostvars") (rec (field (codes "a") (rec (field (codes "op") opaque (no_fields))) (field (codes "b") (rec (field (codes "i1") (boolean false) (field (codes "s1") (boolean true) (no_fields)))) (field (codes "c") (rec (no_fields)) (no_fields))))) (no_fields))) (field (codes "all") (rec (field (codes "hosts") (list (item (text (codes "a")) (item (text (codes "b")) (item (text (codes "c")) (no_items))))) (field (codes "vars") (rec (field (codes "op") opaque (no_fields))) (no_fields)))) (field (codes "g2") (rec (field (codes "hosts") (list (item (text (codes "a")) (item (text (codes "b")) (no_items)))) (field (codes "vars") (rec (field (codes "s1") (list (item (text ([])) (item (text (codes "b")) (no_items)))) (no_fields))) (no_fields)))) (no_fields))))) ≡ Ok (record { hosts = (record { name = (codes "a"); variables = (field (codes "op") opaque (field (codes "s1") (list (item (text ([])) (item (text (codes "b")) (no_items)))) (no_fields))) } ∷ record { name = (codes "b"); variables = (field (codes "i1") (boolean false) (field (codes "op") opaque (field (codes "s1") (boolean true) (no_fields)))) } ∷ record { name = (codes "c"); variables = (field (codes "op") opaque (no_fields)) } ∷ []); groups = (record { name = (codes "all"); hosts = ((codes "a") ∷ (codes "b") ∷ (codes "c") ∷ []) } ∷ record { name = (codes "g2"); hosts = ((codes "a") ∷ (codes "b") ∷ []) } ∷ record { name = (codes "ungrouped"); hosts = ((codes "c") ∷ []) } ∷ []) })
inventory_235 = refl

inventory_236 : inventory_from (rec (field (codes "_meta") (rec (field (codes "hostvars") (rec (field (codes "a") (rec (field (codes "op") opaque (no_fields))) (field (codes "b") (rec (field (codes "i1") (int (negsuc 0)) (no_fields))) (field (codes "c") (rec (field (codes "op") opaque (no_fields))) (field (codes "d") (rec (no_fields)) (no_fields)))))) (no_fields))) (field (codes "all") (rec (field (codes "hosts") (list (item (text (codes "a")) (item (text (codes "b")) (item (text (codes "c")) (item (text (codes "d")) (no_items)))))) (field (codes "vars") (rec (field (codes "i1") (list (item (boolean false) (item (boolean false) (no_items)))) (no_fields))) (no_fields)))) (field (codes "g1") (rec (field (codes "hosts") (list (item (text (codes "a")) (no_items))) (field (codes "vars") (rec (field (codes "i2") (list (item (text (codes "t")) (no_items))) (field (codes "s1") (text (codes "x")) (no_fields)))) (no_fields)))) (no_fields))))) ≡ Ok (record { hosts = (record { name = (codes "a"); variables = (field (codes "i1") (list (item (boolean false) (item (boolean false) (no_items)))) (field (codes "i2") (list (item (text (codes "t")) (no_items))) (field (codes "op") opaque (field (codes "s1") (text (codes "x")) (no_fields))))) } ∷ record { name = (codes "b"); variables = (field (codes "i1") (int (negsuc 0)) (no_fields)) } ∷ record { name = (codes "c"); variables = (field (codes "i1") (list (item (boolean false) (item (boolean false) (no_items)))) (field (codes "op") opaque (no_fields))) } ∷ record { name = (codes "d"); variables = (field (codes "i1") (list (item (boolean false) (item (boolean false) (no_items)))) (no_fields)) } ∷ []); groups = (record { name = (codes "all"); hosts = ((codes "a") ∷ (codes "b") ∷ (codes "c") ∷ (codes "d") ∷ []) } ∷ record { name = (codes "g1"); hosts = ((codes "a") ∷ []) } ∷ record { name = (codes "ungrouped"); hosts = ((codes "b") ∷ (codes "c") ∷ (codes "d") ∷ []) } ∷ []) })
inventory_236 = refl

inventory_237 : inventory_from (rec (field (codes "_meta") (rec (field (codes "hostvars") (rec (field (codes "a") (rec (field (codes "op") opaque (no_fields))) (field (codes "b") (rec (field (codes "i1") (int (pos 1)) (no_fields))) (field (codes "c") (rec (field (codes "i2") (rec (field (codes "f") (text (codes "t")) (field (codes "g") (list (item (int (negsuc 0)) (no_items))) (no_fields)))) (field (codes "s1") (int (pos 1)) (no_fields)))) (field (codes "d") (rec (field (codes "i1") (text ([])) (field (codes "i2") (rec (no_fields)) (field (codes "s1") (text ([])) (no_fields))))) (no_fields)))))) (no_fields))) (field (codes "all") (rec (field (codes "hosts") (list (item (text (codes "a")) (item (text (codes "b")) (item (text (codes "c")) (item (text (codes "d")) (no_items)))))) (field (codes "vars") (rec (no_fields)) (no_fields)))) (field (codes "g2") (rec (field (codes "hosts") (list (item (text (codes "a")) (item (text (codes "b")) (item (text (codes "c")) (no_items))))) (field (codes "vars") (rec (no_fields)) (no_fields)))) (no_fields))))) ≡ Ok (record { hosts = (record { name = (codes "a"); variables = (field (codes "op") opaque (no_fields)) } ∷ record { name = (codes "b"); variables = (field (codes "i1") (int (pos 1)) (no_fields)) } ∷ record { name = (codes "c"); variables = (field (codes "i2") (rec (field (codes "f") (text (codes "t")) (field (codes "g") (list (item (int (negsuc 0)) (no_items))) (no_fields)))) (field (codes "s1") (int (pos 1)) (no_fields))) } ∷ record { name = (codes "d"); variables = (field (codes "i1") (text ([])) (field (codes "i2") (rec (no_fields)) (field (codes "s1") (text ([])) (no_fields)))) } ∷ []); groups = (record { name = (codes "all"); hosts = ((codes "a") ∷ (codes "b") ∷ (codes "c") ∷ (codes "d") ∷ []) } ∷ record { name = (codes "g2"); hosts = ((codes "a") ∷ (codes "b") ∷ (codes "c") ∷ []) } ∷ record { name = (codes "ungrouped"); hosts = ((codes "d") ∷ []) } ∷ []) })
inventory_237 = refl

inventory_238 : inventory_from (rec (field (codes "_meta") (rec (field (codes "hostvars") (rec (field (codes "a") (rec (field (codes "op") opaque (no_fields))) (field (codes "b") (rec (field (codes "i1") (rec (field (codes "f") (text (codes "no")) (field (codes "g") (list (no_items)) (no_fields)))) (no_fields))) (field (codes "c") (rec (no_fields)) (no_fields))))) (no_fields))) (field (codes "all") (rec (field (codes "hosts") (list (item (text (codes "a")) (item (text (codes "b")) (item (text (codes "c")) (no_items))))) (field (codes "vars") (rec (field (codes "s1") (list (no_items)) (no_fields))) (no_fields)))) (field (codes "g1") (rec (field (codes "children") (list (item (text (codes "g2")) (no_items))) (field (codes "hosts") (list (item (text (codes "a")) (item (text (codes "c")) (no_items)))) (field (codes "vars") (rec (field (codes "i1") (rec (field (codes "f") (text (codes "x")) (field (codes "g") (int (pos 3)) (no_fields)))) (field (codes "s1") (rec (field (codes "f") (list (item (text (codes "a")) (no_items))) (no_fields))) (no_fields)))) (no_fields))))) (field (codes "g2") (rec (field (codes "hosts") (list (item (text (codes "a")) (item (text (codes "b")) (item (text (codes "c")) (no_items))))) (field (codes "vars") (rec (field (codes "i1") (boolean false) (field (codes "i2") (int (pos 1)) (no_fields)))) (no_fields)))) (no_fields)))))) ≡ Ok (record { hosts = (record { name = (codes "a"); variables = (field (codes "i1") (boolean false) (field (codes "i2") (int (pos 1)) (field (codes "op") opaque (field (codes "s1") (rec (field (codes "f") (list (item (text (codes "a")) (no_items))) (no_fields))) (no_fields))))) } ∷ record { name = (codes "b"); variables = (field (codes "i1") (rec (field (codes "f") (text (codes "no")) (field (codes "g") (list (no_items)) (no_fields)))) (field (codes "i2") (int (pos 1)) (field (codes "s1") (rec (field (codes "f") (list (item (text (codes "a")) (no_items))) (no_fields))) (no_fields)))) } ∷ record { name = (codes "c"); variables = (field (codes "i1") (boolean false) (field (codes "i2") (int (pos 1)) (field (codes "s1") (rec (field (codes "f") (list (item (text (codes "a")) (no_items))) (no_fields))) (no_fields)))) } ∷ []); groups = (record { name = (codes "all"); hosts = ((codes "a") ∷ (codes "b") ∷ (codes "c") ∷ []) } ∷ record { name = (codes "g1"); hosts = ((codes "a") ∷ (codes "c") ∷ (codes "b") ∷ []) } ∷ record { name = (codes "g2"); hosts = ((codes "a") ∷ (codes "b") ∷ (codes "c") ∷ []) } ∷ record { name = (codes "ungrouped"); hosts = ([]) } ∷ []) })
inventory_238 = refl

inventory_239 : inventory_from (rec (field (codes "_meta") (rec (field (codes "hostvars") (rec (field (codes "a") (rec (field (codes "op") opaque (no_fields))) (field (codes "b") (rec (field (codes "i1") (text ([])) (no_fields))) (no_fields)))) (no_fields))) (field (codes "all") (rec (field (codes "hosts") (list (item (text (codes "a")) (item (text (codes "b")) (no_items)))) (field (codes "vars") (rec (field (codes "s1") (boolean true) (no_fields))) (no_fields)))) (no_fields)))) ≡ Ok (record { hosts = (record { name = (codes "a"); variables = (field (codes "op") opaque (field (codes "s1") (boolean true) (no_fields))) } ∷ record { name = (codes "b"); variables = (field (codes "i1") (text ([])) (field (codes "s1") (boolean true) (no_fields))) } ∷ []); groups = (record { name = (codes "all"); hosts = ((codes "a") ∷ (codes "b") ∷ []) } ∷ record { name = (codes "ungrouped"); hosts = ((codes "a") ∷ (codes "b") ∷ []) } ∷ []) })
inventory_239 = refl
