use Rattle.std.proofs.Common.{◌≡◌, take}
use Rattle.pb_lattice.specs.Arena.{names_of}
use Rattle.pb_tables.proofs.outcome.copies.Given as goal

abbrev pub invariant-loop-name : goal.invariant-loop-name
invariant-loop-name l = names_of l.copies.items ≡ names_of (take l.name-index l.names)
