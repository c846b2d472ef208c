use Rattle.std.proofs.Common.{◌≡◌, [], map, string_bytes}
use Rattle.pb_kind.specs.KindView.{slots_view}
use Rattle.pb_semantics.specs.Grown.{sure_names}
use Rattle.pb_kind.proofs.grow.certain_names.Given as goal

abbrev pub invariant-loop-name : goal.invariant-loop-name
invariant-loop-name l =
    sure_names (slots_view l.slots.entries) [] ≡ sure_names (slots_view l.name-iterator) (map (λ n. string_bytes n) l.all.keys)
