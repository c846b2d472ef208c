use Rattle.std.proofs.Common.{drop, take}
use Rattle.pb_lattice.specs.Words.{exit_of}
use Rattle.pb_find.specs.Ways.{value_at}
use Rattle.pb_lasting.proofs.Marks.{Counted}
use Rattle.pb_lasting.proofs.lasting.marks_before.Given as goal

abbrev pub invariant-loop-index : goal.invariant-loop-index
invariant-loop-index l = Counted l.space.names (exit_of l.space l.fn.end) (value_at l.space l.values) (take l.index l.nodes.items) (drop l.index l.nodes.items) l.from.items
