use Rattle.std.proofs.Common.{◌≡◌}
use Rattle.pb_value.specs.Append.{append_fields}
use Rattle.pb_value.specs.View.{fields_view}
use Rattle.pb_finish.proofs.outcome.add_facts.Given as goal

abbrev pub invariant-loop-name : goal.invariant-loop-name
invariant-loop-name l =
    append_fields (fields_view l.writes.items) (fields_view l.name-iterator) ≡ append_fields (fields_view l.fn.writes.items) (fields_view l.facts.entries)
