use Rattle.pb_semantics.specs.Keeps.{is_among}
use Rattle.pb_vars.specs.InScope.{in_scope}
use Rattle.pb_reads.specs.Reached.{names_in, told_names}
use Rattle.pb_reads.specs.RootsView.{roots_view}
use Rattle.pb_reads.proofs.Gathered.{told-next}
use Rattle.pb_reads.proofs.names.names_told.Goals as goal

pub loop-root-preserved : goal.loop-root-preserved
loop-root-preserved c n =
    let l = c.loop-root in
    let rs = c.args.roots.now in
    told-next (in_scope c.args.scope.now) n rs l.root-index c.root-item.result (names_in l.names) (names_in c.add_told.new.names) (is_among n (told_names (in_scope c.args.scope.now) (roots_view rs))) c.loop-root-test.true
    c.root-item.is (c.in_ok-add_told.ensures n) (l.invariant n)
