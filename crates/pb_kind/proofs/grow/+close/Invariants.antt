use Rattle.std.proofs.Common.{◌≡◌, map, string_bytes}
use Rattle.pb_semantics.specs.Kind.{no_slots}
use Rattle.pb_kind.specs.KindView.{slots_view}
use Rattle.pb_semantics.specs.Grown.{marked, closed}
use Rattle.pb_kind.specs.Growing.{kinds_view}
use Rattle.pb_kind.proofs.grow.+close.Given as goal

abbrev pub invariant-close_kinds-loop-name : goal.invariant-close_kinds-loop-name
invariant-close_kinds-loop-name l =
    closed (marked (kinds_view l.kinds.entries) (map (λ n. string_bytes n) l.certain.keys)) no_slots
    ≡ closed (marked (kinds_view l.name-iterator) (map (λ n. string_bytes n) l.certain.keys)) (slots_view l.slots.entries)
