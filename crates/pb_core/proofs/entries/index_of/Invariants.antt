use Rattle.std.proofs.Common.{take}
use Rattle.pb_core.specs.Entries.{waits_in}
use Rattle.pb_core.specs.Indexes.{HoldsOnly}
use Rattle.pb_core.proofs.entries.index_of.Given as goal

abbrev pub invariant-loop-entry : goal.invariant-loop-entry
invariant-loop-entry l = HoldsOnly (λ place host. waits_in place host (take l.entry-index l.entries)) l.index
