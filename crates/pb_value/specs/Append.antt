-- Items, and fields, one after the other.
use Rattle.pb_semantics.specs.Data.{Items, Fields, no_items, item, no_fields, field}

abbrev pub append_items : Items → Items → Items
append_items no_items es = es
append_items (item d ds) es = item d (append_items ds es)

abbrev pub append_fields : Fields → Fields → Fields
append_fields no_fields gs = gs
append_fields (field n d fs) gs = field n d (append_fields fs gs)
