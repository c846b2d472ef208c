-- An inventory of two groups besides those that are always there is printable, and is read back:
-- the law is not about nothing.
use Rattle.std.specs.Prelude.{◌≡◌, refl, pos, [], ◌∷◌, true, Ok, codes}
use Rattle.pb_semantics.specs.Data.{boolean, int, text, list, rec, opaque, no_items, item, no_fields, field}
use Rattle.pb_language.specs.Inventories.{inventory_from}
use Rattle.pb_language.specs.Program.{Inventory}
use Rattle.pb_laws.specs.PrintedInventory.{printed_inventory}
use Rattle.pb_laws.specs.PrintableInventory.{IsPrintableInventory}

abbrev pub inventory : Inventory
inventory = record {
  hosts = record {
    name = codes "web-2";
    variables = field (codes "port") (int (pos 8080)) (field (codes "tags") (list (item (text (codes "blue")) (item opaque no_items))) no_fields);
  } ∷ record {
    name = codes "db.example";
    variables = field (codes "is_main") (boolean true) (field (codes "limits") (rec (field (codes "open") (int (pos 64)) no_fields)) no_fields);
  } ∷ record { name = codes "spare"; variables = no_fields } ∷ [];
  groups = record { name = codes "all"; hosts = codes "web-2" ∷ codes "db.example" ∷ codes "spare" ∷ [] }
      ∷ record { name = codes "db"; hosts = codes "db.example" ∷ [] }
      ∷ record { name = codes "ungrouped"; hosts = codes "spare" ∷ [] }
      ∷ record { name = codes "web"; hosts = codes "db.example" ∷ codes "web-2" ∷ [] } ∷ [];
}

pub inventory_is_printable : IsPrintableInventory inventory
inventory_is_printable = record {
  names = record { usable = refl; ordered = refl; all = refl; ungrouped = refl };
  groups = (refl, (refl, (refl, (refl, tt))));
  order = refl;
  hosts = (
    record { name = refl; ordered = refl; own = refl; plain = refl },
    (record { name = refl; ordered = refl; own = refl; plain = refl }, (record { name = refl; ordered = refl; own = refl; plain = refl }, tt)),
  );
  within = refl;
}

pub inventory_is_read : inventory_from (printed_inventory inventory) ≡ Ok inventory
inventory_is_read = refl
