use Rattle.std.proofs.Common.{◌≡◌}
use Rattle.pb_kind.specs.KindView.{slots_view}
use Rattle.pb_kind.specs.Added.{lists_sure}
use Rattle.pb_kind.proofs.join.lists_certain.Given as goal

abbrev pub invariant-loop-name : goal.invariant-loop-name
invariant-loop-name l =
    lists_sure (slots_view l.few.entries) (slots_view l.many.entries)
    ≡ lists_sure (slots_view l.few.entries) (slots_view l.name-iterator)
