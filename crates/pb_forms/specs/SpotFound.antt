-- What is known where a kind is found.
use Rattle.std.specs.Prelude.{Bool, Option, Some, None}
use denote.Ref.{Bor}
use Rattle.pb_semantics.specs.Kind.{Spot, nowhere, spot}
use Rattle.pb_kind.specs.KindView.{kind_view}
use Rattle.pb_kind.specs.declared.kind.Kind.{Kind}

-- a kind that is found, and whether it is certainly there
abbrev pub spot_found : Option (Bool × Bor Kind) → Spot
spot_found None = nowhere
spot_found (Some s) = spot s.0 (kind_view s.1.now)
