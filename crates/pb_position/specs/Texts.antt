-- What the texts of failures are.
use Rattle.std.specs.Prelude.{ℕ, List, [], map, reverse, Option, Some, None, String, string_bytes}
use Rattle.std.specs.declared.alloc.Global.{Global}
use Rattle.std.specs.declared.sync.Arc.{Arc}

-- none is the empty text
abbrev pub text_of : Option (Arc (String Global) Global) → List ℕ
text_of None = []
text_of (Some t) = string_bytes t.value

-- the innermost first
abbrev pub texts_of : List (Option (Arc (String Global) Global)) → List (List ℕ)
texts_of ts = reverse (map text_of ts)
