use Rattle.std.proofs.lemmas.Result.{IfOk-weaker}
use Rattle.pb_kind.specs.KindView.{is_always, kind_view}
use Rattle.pb_lattice.specs.Environments.{exit_of}
use Rattle.pb_transfer.proofs.Same.{same_put}
use Rattle.pb_transfer.proofs.written.put.Goals as goal

pub returns-clause-same : goal.returns-clause-same
returns-clause-same c =
    let a = is_always c.args.slot.presence in
    let k = kind_view c.args.slot.kind in
    let n = c.args.name.now in
    IfOk-weaker c.with.result _ _ (λ e is. rw is (same_put n a k (exit_of c.args.space.now c.args.at))) c.with.ensures.put
