use Rattle.pb_core.proofs.Beginnings.{holds_next}
use Rattle.pb_core.proofs.entries.index_of.Goals as goal

pub loop-entry-preserved : goal.loop-entry-preserved
loop-entry-preserved c =
    holds_next c.args.entries.now c.loop-entry.entry-index c.entry-item.result c.loop-entry.index c.add_waiting.new.index c.loop-entry.invariant c.loop-entry-test.true c.entry-item.is c.in_ok-add_waiting.ensures
