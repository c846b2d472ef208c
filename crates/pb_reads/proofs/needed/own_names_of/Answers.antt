use Rattle.pb_semantics.specs.Keeps.{is_among}
use Rattle.pb_reads.specs.Reached.{names_in, own_names}
use Rattle.pb_reads.specs.RootsView.{roots_view}
use Rattle.pb_reads.proofs.Gathered.{own-next}
use Rattle.pb_reads.proofs.needed.own_names_of.Goals as goal

pub loop-root-preserved : goal.loop-root-preserved
loop-root-preserved c n =
    let l = c.loop-root in
    let rs = c.args.roots.now in
    own-next n rs l.root-index c.root-item.result (names_in l.names) (names_in c.add_own.new.own) (is_among n (own_names (roots_view rs))) c.loop-root-test.true c.root-item.is (c.in_ok-add_own.ensures n) (l.invariant n)
