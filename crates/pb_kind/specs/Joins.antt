-- What is kept of the last join.
use Rattle.std.specs.Prelude.{◌≡◌, Option, None, Some, ⊤}
use Rattle.pb_semantics.specs.Join.{join}
use Rattle.pb_kind.specs.KindView.{kind_view}
use Rattle.pb_kind.specs.declared.join.Met.{Met}

-- it is the join of its two kinds
abbrev pub IsMet : Option Met → Type 0
IsMet None = ⊤
IsMet (Some m) = kind_view m.joined ≡ join (kind_view m.first) (kind_view m.second)
