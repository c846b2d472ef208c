-- The kind that a growing kind stands for.
use Rattle.std.specs.Prelude.{List, [], ◌∷◌, map, String, string_bytes, true}
use Rattle.std.specs.declared.alloc.Global.{Global}
use Rattle.pb_semantics.specs.Kind.{KindData, Slots, lists, recs, no_slots, slot}
use Rattle.pb_semantics.specs.Grown.{marked}
use Rattle.pb_semantics.specs.Join.{join}
use Rattle.pb_kind.specs.KindView.{kind_view}
use Rattle.pb_kind.specs.declared.kind.Kind.{Kind}
use Rattle.pb_kind.specs.declared.grow.Growing.{Growing, fold-Growing}
use Rattle.pb_kind.specs.declared.grow.Growing.TheOpen.{Growing-F}

-- the kinds of fields, each under its name; none of the marks is meant
abbrev pub kinds_of : List (String Global × KindData) → Slots
kinds_of [] = no_slots
kinds_of (m ∷ ms) = slot (string_bytes m.0) true m.1 (kinds_of ms)

abbrev pub growing_step : Growing-F KindData → KindData
growing_step (Growing-F.Whole k n) = kind_view k
growing_step (Growing-F.List g n) = lists g.value n
growing_step (Growing-F.Rec m s) =
    recs (marked (kinds_of m.entries) (map (λ n. string_bytes n) s.keys))

abbrev pub growing_view : Growing → KindData
growing_view = fold-Growing KindData growing_step

abbrev pub kinds_view : List (String Global × Growing) → Slots
kinds_view ms = kinds_of (map (λ m. (m.0, growing_view m.1)) ms)

-- the least kind above all of these and another
abbrev pub joined_onto : List Kind → KindData → KindData
joined_onto [] m = m
joined_onto (k ∷ ks) m = join (kind_view k) (joined_onto ks m)
