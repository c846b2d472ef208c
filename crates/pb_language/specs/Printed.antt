-- What an inventory says, printed in its plainest form, which is read back as just that.
use Rattle.std.specs.Prelude.{◌≡◌, List, [], ◌∷◌, Bool, true, not, ◌&&◌, Some, codes}
use Rattle.std.specs.Str.{bytes_eq}
use Rattle.pb_semantics.specs.Data.{Data, Items, Fields, text, list, rec, no_items, item, no_fields}
use Rattle.pb_semantics.specs.Data.{field, put_field}
use Rattle.pb_language.specs.Expression.{Name}
use Rattle.pb_language.specs.Written.{Document, Written, document_in, is_group_name}

abbrev pub meta_key : Name
meta_key = codes "_meta"

abbrev pub printed_names : List Name → Items
printed_names [] = no_items
printed_names (n ∷ ns) = item (text n) (printed_names ns)

-- fields stand in the order of their names' bytes
abbrev pub printed_group : Written → Data
printed_group w = rec (field (codes "children") (list (printed_names w.children))
    (field (codes "hosts") (list (printed_names w.hosts))
    (field (codes "vars") (rec w.variables) no_fields)))

abbrev pub printed_groups : List Written → Fields
printed_groups [] = no_fields
printed_groups (w ∷ ws) = field w.name (printed_group w) (printed_groups ws)

abbrev pub printed_meta : Fields → Data
printed_meta vs = rec (field (codes "hostvars") (rec vs) no_fields)

abbrev pub printed_document : Document → Data
printed_document d = rec (put_field meta_key (printed_meta d.hostvars) (printed_groups d.groups))

-- groups can have their names, and none has the key of what isn't a group
abbrev pub are_printable : List Written → Bool
are_printable [] = true
are_printable (w ∷ ws) =
    is_group_name w.name && (not (bytes_eq w.name meta_key) && are_printable ws)

abbrev pub DocumentsAreReadBack : Type 0
DocumentsAreReadBack =
    (d : Document) → are_printable d.groups ≡ true → document_in (printed_document d) ≡ Some d
