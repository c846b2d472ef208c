use Rattle.std.proofs.Common.{◌≡◌, codes}
use Rattle.pb_semantics.specs.Kind.{recs}
use Rattle.pb_language.specs.Cases.{append_sets, facts_set, sets, stripped_slots}
use Rattle.pb_kind.specs.KindView.{slots_view}
use Rattle.pb_transfer.specs.Written.{sets_view}
use Rattle.pb_route.proofs.gathered.record_gathered.Given as goal

abbrev pub invariant-loop-name : goal.invariant-loop-name
invariant-loop-name l =
    let ss = slots_view l.facts.entries in
    append_sets (sets_view l.all.items) (facts_set l.is_certain (slots_view l.name-iterator))
    ≡ sets (codes "ansible_facts") l.is_certain (recs (stripped_slots ss)) (facts_set l.is_certain ss)
