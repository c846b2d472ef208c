use Rattle.std.proofs.Common.{◌≡◌, replicate, None}
use Rattle.pb_facts.proofs.facts.empty_values.Given as goal

abbrev pub invariant-loop-entry : goal.invariant-loop-entry
invariant-loop-entry l = l.values.items ≡ replicate l.entry None
