-- The data that a `Value` stands for.
use Rattle.std.specs.Prelude.{List, [], ◌∷◌, map, String, string_bytes, Bool, Option, Some, None}
use Rattle.std.specs.declared.alloc.Global.{Global}
use Rattle.pb_semantics.specs.Data.{Data, null, boolean, int, text, list, rec, opaque, Items}
use Rattle.pb_semantics.specs.Data.{no_items, item, Fields, no_fields, field}
use Rattle.pb_value.specs.declared.value.Value.{Value, fold-Value}
use Rattle.pb_value.specs.declared.value.Value.TheOpen.{Value-F}

abbrev pub items_of : List Data → Items
items_of [] = no_items
items_of (d ∷ ds) = item d (items_of ds)

abbrev pub fields_of : List (String Global × Data) → Fields
fields_of [] = no_fields
fields_of (m ∷ ms) = field (string_bytes m.0) m.1 (fields_of ms)

-- one level, with each value inside already seen as its data
abbrev pub view_step : Value-F Data → Data
view_step Value-F.Null = null
view_step (Value-F.Bool b) = boolean b
view_step (Value-F.Int n) = int n
view_step (Value-F.Text s) = text (string_bytes s.value)
view_step (Value-F.List v) = list (items_of v.value.parts.items)
view_step (Value-F.Rec m) = rec (fields_of m.value.parts.entries)
view_step Value-F.Opaque = opaque

abbrev pub view : Value → Data
view = fold-Value Data view_step

abbrev pub items_view : List Value → Items
items_view vs = items_of (map view vs)

abbrev pub fields_view : List (String Global × Value) → Fields
fields_view ms = fields_of (map (λ m. (m.0, view m.1)) ms)

-- a truth value, where it is one
abbrev pub truth : Data → Option Bool
truth (boolean b) = Some b
truth d = None
