use Rattle.std.proofs.Common.{◌≡◌, ◌++◌, drop}
use Rattle.pb_semantics.specs.Keeps.{is_among}
use Rattle.pb_language.specs.Expression.{Name}
use Rattle.pb_transfer.specs.Written.{sets_view}
use Rattle.pb_reads.specs.Reached.{names_in}
use Rattle.pb_reads.specs.Uses.{names_set}
use Rattle.pb_reads.proofs.uses.add_facts.Given as goal

abbrev pub invariant-loop-fact : goal.invariant-loop-fact
invariant-loop-fact l = (n : Name) → is_among n (names_set (sets_view (drop l.fact-index l.facts)) ++ names_in l.names) ≡ is_among n (names_set (sets_view l.facts) ++ names_in l.fn.names)
