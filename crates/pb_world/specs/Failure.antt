-- The text of a failure.
use Rattle.std.specs.Prelude.{ℕ, List, [], Option, Some, None, String, string_bytes}
use Rattle.std.specs.declared.alloc.Global.{Global}
use Rattle.std.specs.declared.sync.Arc.{Arc}

-- none is the empty text
abbrev pub text_of : Option (Arc (String Global) Global) → List ℕ
text_of None = []
text_of (Some t) = string_bytes t.value
