use Rattle.std.proofs.Common.{◌++◌}
use Rattle.pb_semantics.specs.Keeps.{is_among}
use Rattle.pb_reads.specs.Reached.{names_in, own_names}
use Rattle.pb_reads.specs.RootsView.{roots_view}
use Rattle.pb_reads.proofs.Gathered.{behind-next, own-next}
use Rattle.pb_reads.proofs.names.put_behind.Goals as goal

pub loop-root-preserved : goal.loop-root-preserved
loop-root-preserved c =
    let l = c.loop-root in
    let rs = c.args.roots.now in
    let r = c.root-item.result in (
      behind-next rs l.root-index r (roots_view c.args.all.now.items ++ roots_view rs) l.all.items c.push.new.self.items c.loop-root-test.true c.root-item.is c.in_ok-push.ensures.items l.invariant.0,
      λ n. own-next n rs l.root-index r (names_in l.own) (names_in c.add_own.new.own) (is_among n (own_names (roots_view rs) ++ names_in c.args.own.now)) c.loop-root-test.true c.root-item.is (c.in_ok-add_own.ensures n)
          (l.invariant.1 n),
    )
