use Rattle.std.proofs.Common.{◌≡◌, [], map, string_bytes}
use Rattle.pb_kind.specs.KindView.{slots_view}
use Rattle.pb_semantics.specs.Grown.{still}
use Rattle.pb_kind.specs.Growing.{kinds_view}
use Rattle.pb_kind.proofs.grow.still_certain.Given as goal

abbrev pub invariant-loop-name : goal.invariant-loop-name
invariant-loop-name l =
    still (map (λ n. string_bytes n) l.certain.keys) (slots_view l.slots.entries) (kinds_view l.kinds.entries) []
    ≡ still (map (λ n. string_bytes n) l.name-iterator) (slots_view l.slots.entries) (kinds_view l.kinds.entries) (map (λ n. string_bytes n) l.all.keys)
