use Rattle.std.proofs.Common.{◌≡◌, Some, codes}
use Rattle.pb_semantics.specs.Data.{rec}
use Rattle.pb_language.specs.Give.{stripped, facts_changed}
use Rattle.pb_language.specs.Start.{change}
use Rattle.pb_kind.specs.KindView.{slots_view}
use Rattle.pb_value.specs.View.{fields_view}
use Rattle.pb_finish.specs.Results.{changes_view}
use Rattle.pb_finish.proofs.FactChanges.{append_changes}
use Rattle.pb_finish.proofs.gathered.list_facts.Given as goal

abbrev pub invariant-loop-name : goal.invariant-loop-name
invariant-loop-name l =
    append_changes (changes_view l.all.items) (facts_changed (slots_view l.name-iterator) (fields_view l.facts.entries))
    ≡ change (codes "ansible_facts") (Some (rec (stripped (slots_view l.named.entries) (fields_view l.facts.entries)))) (facts_changed (slots_view l.named.entries) (fields_view l.facts.entries))
