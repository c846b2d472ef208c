use Rattle.std.proofs.Common.{map, string_bytes}
use Rattle.pb_kind.specs.KindView.{slots_view}
use Rattle.pb_semantics.specs.Grown.{marked}
use Rattle.pb_semantics.proofs.Ascents.{Ascend}
use Rattle.pb_kind.specs.Growing.{kinds_view}
use Rattle.pb_kind.proofs.Adding.{Adds, left_view}
use Rattle.pb_kind.proofs.grow.leaves_each.Given as goal

abbrev pub invariant-loop-name : goal.invariant-loop-name
invariant-loop-name l =
    Ascend (marked (kinds_view l.name-iterator) (map (λ n. string_bytes n) l.certain.keys))
    × (Adds l.leads (left_view l.next l.others) (marked (kinds_view l.name-iterator) (map (λ n. string_bytes n) l.certain.keys))
    → Adds l.leads (slots_view l.slots.entries) (marked (kinds_view l.kinds.entries) (map (λ n. string_bytes n) l.certain.keys)))
