use Rattle.std.proofs.Common.{◌≡◌, ◌++◌, List}
use Rattle.pb_language.specs.Give.{stripped}
use Rattle.pb_kind.specs.KindView.{slots_view}
use Rattle.pb_value.specs.View.{fields_view}
use Rattle.pb_finish.proofs.FactChanges.{Named}
use Rattle.pb_finish.proofs.gathered.strip_prefixes.Given as goal

abbrev pub invariant-loop-name : goal.invariant-loop-name
invariant-loop-name l =
    (done : List Named) × (l.named.entries ≡ done ++ l.name-iterator) × (fields_view l.all.entries ≡ stripped (slots_view done) (fields_view l.facts.entries))
