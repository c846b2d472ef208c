use Rattle.std.proofs.Common.{◌≡◌}
use Rattle.pb_kind.specs.KindView.{slots_view}
use Rattle.pb_semantics.specs.Grown.{puts}
use Rattle.pb_kind.specs.Growing.{kinds_view}
use Rattle.pb_kind.proofs.grow.+grow.Given as goal

abbrev pub invariant-grow_kinds-loop-name : goal.invariant-grow_kinds-loop-name
invariant-grow_kinds-loop-name l = puts l.leads (slots_view l.slots.entries) (kinds_view l.fn.kinds.entries) ≡ puts l.leads (slots_view l.name-iterator) (kinds_view l.kinds.entries)
