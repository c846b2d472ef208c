use Rattle.pb_kind.specs.KindView.{slots_view}
use Rattle.pb_route.proofs.Stripped.{IsStripping}
use Rattle.pb_route.proofs.gathered.stripped.Given as goal

abbrev pub invariant-loop-name : goal.invariant-loop-name
invariant-loop-name l = IsStripping (slots_view l.facts.entries) (slots_view l.name-iterator) (slots_view l.stripped.entries)
