use Rattle.std.proofs.Common.{◌≡◌, ◌++◌}
use Rattle.pb_lattice.specs.Arena.{names_of}
use Rattle.pb_verify.proofs.Listed.{lent_names}
use Rattle.pb_verify.proofs.names.listed.Given as goal

abbrev pub invariant-loop-name : goal.invariant-loop-name
invariant-loop-name l = names_of l.list.items ++ lent_names l.name-iterator ≡ lent_names l.names.keys
