use Rattle.std.proofs.Common.{◌≡◌}
use Rattle.pb_semantics.specs.Kind.{no_slots}
use Rattle.pb_kind.specs.KindView.{slots_view}
use Rattle.pb_kind.specs.Joins.{IsMet}
use Rattle.pb_kind.proofs.JoinLemmas.{built}
use Rattle.pb_kind.proofs.Few.{put_after}
use Rattle.pb_kind.proofs.join.+join.Given as goal

abbrev pub invariant-meet_slots-loop-name : goal.invariant-meet_slots-loop-name
invariant-meet_slots-loop-name l =
    (built (slots_view l.first.entries) (slots_view l.second.entries) no_slots ≡ built (slots_view l.name-iterator) (slots_view l.second.entries) (slots_view l.all.entries))
    × IsMet l.last

abbrev pub invariant-join_few_first-loop-name : goal.invariant-join_few_first-loop-name
invariant-join_few_first-loop-name l =
    (built (slots_view l.few.entries) (slots_view l.many.entries) (slots_view l.many.entries) ≡ built (slots_view l.name-iterator) (slots_view l.many.entries) (slots_view l.all.entries))
    × IsMet l.last

abbrev pub invariant-join_few_last-loop-name : goal.invariant-join_few_last-loop-name
invariant-join_few_last-loop-name l =
    (put_after (slots_view l.few.entries) (slots_view l.many.entries) (slots_view l.many.entries) ≡ put_after (slots_view l.name-iterator) (slots_view l.many.entries) (slots_view l.all.entries))
    × IsMet l.last
