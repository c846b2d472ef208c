-- The variables of a host: a record, with the values of its slots put over it, each under its name.
use Rattle.std.specs.Prelude.{◌≡◌, ◌<◌, ℕ, List, [], ◌∷◌, length, cond, true, Option, Some, None}
use Rattle.std.specs.Prelude.{slice_index_or, slice_set}
use Rattle.std.specs.Str.{bytes_eq}
use Rattle.pb_semantics.specs.Data.{Data, Fields, no_fields, field, field_value, put_field}
use Rattle.pb_language.specs.Expression.{Name}
use Rattle.pb_language.specs.Theorem.{are_distinct}

-- a slot that nothing was set in changes nothing
abbrev pub put_value : Name → Option Data → Fields → Fields
put_value name None base = base
put_value name (Some value) base = put_field name value base

-- the names of the slots in their order, and what is in them
abbrev pub variables_over : Fields → List Name → List (Option Data) → Fields
variables_over base [] values = base
variables_over base (name ∷ names) [] = base
variables_over base (name ∷ names) (value ∷ values) =
    put_value name value (variables_over base names values)

-- what is in the slot of that name
abbrev pub slot_value : Name → List Name → List (Option Data) → Option Data
slot_value n [] values = None
slot_value n (name ∷ names) [] = None
slot_value n (name ∷ names) (value ∷ values) =
    cond (bytes_eq n name) value (slot_value n names values)

abbrev pub or_else : Option Data → Option Data → Option Data
or_else None other = other
or_else (Some value) other = Some value

-- a variable is read from its slot, and from the record where nothing was set in that, or there is
-- none
abbrev pub VariablesAreRead : Type 0
VariablesAreRead = (base : Fields) (names : List Name) (values : List (Option Data)) (n : Name)
    → are_distinct names ≡ true
    → field_value n (variables_over base names values)
    ≡ or_else (slot_value n names values) (field_value n base)

-- a value that is set in a slot is put under its name
abbrev pub VariablesArePut : Type 0
VariablesArePut = (base : Fields) (names : List Name) (values : List (Option Data)) (slot : ℕ)
    (value : Data) → are_distinct names ≡ true → length values ≡ length names
    → slot < length names
    → variables_over base names (slice_set values slot (Some value))
    ≡ put_field (slice_index_or names slot []) value (variables_over base names values)
