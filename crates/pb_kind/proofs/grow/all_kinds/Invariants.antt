use Rattle.std.proofs.Common.{◌≡◌}
use Rattle.pb_semantics.specs.Kind.{no_slots}
use Rattle.pb_kind.specs.KindView.{slots_view}
use Rattle.pb_semantics.specs.Grown.{all_sure, closed}
use Rattle.pb_kind.specs.Growing.{kinds_view}
use Rattle.pb_kind.proofs.grow.all_kinds.Given as goal

abbrev pub invariant-loop-name : goal.invariant-loop-name
invariant-loop-name l = closed (all_sure (slots_view l.slots.entries)) no_slots ≡ closed (all_sure (slots_view l.name-iterator)) (kinds_view l.kinds.entries)
