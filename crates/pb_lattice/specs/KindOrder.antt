-- The order of kinds.
use Rattle.std.specs.Prelude.{◌≡◌, true}
use Rattle.pb_semantics.specs.Data.{Data}
use Rattle.pb_semantics.specs.Kind.{KindData}
use Rattle.pb_semantics.specs.Keeps.{keeps}
use Rattle.pb_semantics.specs.Below.{below}
use Rattle.pb_semantics.specs.Well.{Well}
use Rattle.pb_kind.specs.KindView.{kind_view}
use Rattle.pb_kind.specs.declared.kind.Kind.{Kind}

abbrev pub IsBelow : KindData → KindData → Type 0
IsBelow k m = below k m ≡ true

-- names stand once, and what is known of all cases of a result is the least above each
abbrev pub IsWell : Kind → Type 0
IsWell k = Well (kind_view k)

-- each value of one is a value of the other
abbrev pub HaveSameValues : KindData → KindData → Type 0
HaveSameValues k m = (d : Data) → keeps d k ≡ keeps d m
