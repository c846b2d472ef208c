use Rattle.std.proofs.Common.{◌≡◌, ◌++◌, ◌||◌, map}
use Rattle.pb_semantics.specs.Keeps.{is_among}
use Rattle.pb_language.specs.Expression.{Name}
use Rattle.pb_reads.specs.Reached.{names_in}
use Rattle.pb_steps.proofs.nodes.add_all.Given as goal

abbrev pub invariant-loop-name : goal.invariant-loop-name
invariant-loop-name l = (n : Name) → is_among n (map (λ k. k.now) l.name-iterator ++ names_in l.names) ≡ is_among n (names_in l.more ++ names_in l.fn.names)
