-- Fields whose names stand once.
use Rattle.std.specs.Prelude.{◌≡◌, None}
use Rattle.pb_semantics.specs.Data.{Fields, no_fields, field, field_value}

abbrev pub AreOnce : Fields → Type 0
AreOnce no_fields = Unit {0}
AreOnce (field n d fs) = (field_value n fs ≡ None) × AreOnce fs
