use Rattle.pb_taught.specs.TaughtView.{scope_view}
use Rattle.pb_expr.proofs.fit.infer_kind.Goals as goal

pub infer-requires : goal.infer-requires
infer-requires g c =
    let b = g.K.Known.before c.inquiry_of-inquiry.result.known.now in
    c.nothing.ensures (scope_view b c.args.taught.now) b.trees
