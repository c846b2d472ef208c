use Rattle.std.proofs.Common.{◌++◌}
use Rattle.pb_reads.specs.Roots.{all_roots}
use Rattle.pb_reads.specs.RootsView.{roots_view}
use Rattle.pb_reads.specs.Round.{conditions_round}
use Rattle.pb_reads.proofs.Behind.{round-next}
use Rattle.pb_reads.proofs.task.put_block_roots.Goals as goal

pub loop-head-preserved : goal.loop-head-preserved
loop-head-preserved c =
    let l = c.loop-head in
    round-next c.args.around.now.blocks.items c.deref-head-items.result.now l.head-index c.head-item.result c.deref.result.now (roots_view c.args.roots.now.items ++ all_roots (conditions_round c.args.around.now))
    (roots_view l.roots.items) (roots_view c.put_all_roots.new.roots.items) c.deref-head-items.ensures.value c.loop-head-test.true c.head-item.is c.deref.ensures.value c.in_ok-put_all_roots.ensures l.invariant
