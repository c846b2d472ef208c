-- Values that are written to the slots of a host.
use Rattle.std.specs.Prelude.{ℕ, List, [], ◌∷◌, Bool, is_some, slice_index_or}
use Rattle.std.specs.Prelude.{String, string_bytes}
use Rattle.std.specs.List.{list_all}
use Rattle.std.specs.declared.alloc.Global.{Global}
use Rattle.pb_semantics.specs.Data.{Fields, no_fields, field}
use Rattle.pb_language.specs.Expression.{Name}
use Rattle.pb_facts.specs.Facts.{Held, with_value}
use Rattle.pb_slots.specs.Slots.{slot_in}
use Rattle.pb_value.specs.View.{view}
use Rattle.pb_value.specs.declared.value.Value.{Value}

-- each of the variables has a slot
abbrev pub have_slots : List Name → List (String Global × Value) → Bool
have_slots names ws = list_all (λ w. is_some (slot_in names (string_bytes w.0))) ws

-- the values as fields, each under the name of its slot
abbrev pub slot_fields : List Name → List (ℕ × Value) → Fields
slot_fields names [] = no_fields
slot_fields names (w ∷ ws) = field (slice_index_or names w.0 []) (view w.1) (slot_fields names ws)

-- the slots once these are set in those of the host, one after the other
abbrev pub with_values : Held → ℕ → List (ℕ × Value) → Held
with_values held host [] = held
with_values held host (w ∷ ws) = with_values (with_value held host w.0 w.1) host ws
