use Rattle.std.proofs.Common.{◌≡◌}
use Rattle.pb_kind.specs.KindView.{slots_view}
use Rattle.pb_hosts.specs.Tables.{with_slots}
use Rattle.pb_hosts.proofs.given.with_own.Given as goal

abbrev pub invariant-loop-name : goal.invariant-loop-name
invariant-loop-name l =
    with_slots (slots_view l.known.entries) (slots_view l.name-iterator) ≡ with_slots (slots_view l.base.value.entries) (slots_view l.own.entries)
