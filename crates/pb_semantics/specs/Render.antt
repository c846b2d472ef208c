-- A plain value as text.
use Rattle.std.specs.Prelude.{ℕ, List, [], Bool, true, false, codes}
use Rattle.std.specs.Fmt.{signed_decimal}
use Rattle.pb_semantics.specs.Data.{Data, boolean, int, text}

-- a text, a whole number or a truth value
abbrev pub is_plain : Data → Bool
is_plain (boolean b) = true
is_plain (int z) = true
is_plain (text s) = true
is_plain d = false

abbrev pub rendered : Data → List ℕ
rendered (boolean true) = codes "True"
rendered (boolean false) = codes "False"
rendered (int z) = signed_decimal z
rendered (text s) = s
rendered d = []
