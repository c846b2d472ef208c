use Rattle.std.proofs.Common.{◌≡◌}
use Rattle.pb_semantics.specs.Join.{with_others}
use Rattle.pb_kind.specs.KindView.{slots_view}
use Rattle.pb_kind.proofs.join.add_others.Given as goal

abbrev pub invariant-loop-name : goal.invariant-loop-name
invariant-loop-name l =
    with_others (slots_view l.second.entries) (slots_view l.first.entries) (slots_view l.initial.all.entries)
    ≡ with_others (slots_view l.name-iterator) (slots_view l.first.entries) (slots_view l.all.entries)
