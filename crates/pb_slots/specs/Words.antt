-- The words of this crate that the contracts of others cite, from one place.
use Rattle.std.specs.Prelude.{List, map, string_bytes}
use Rattle.pb_language.specs.Expression.{Name}
pub use Rattle.pb_slots.specs.Slots.{slot_in, slots_in_scope}
use Rattle.pb_slots.specs.declared.slots.Slots.{Slots}

abbrev pub names_of_slots : Slots → List Name
names_of_slots s = map (λ n. string_bytes n) s.names.items
