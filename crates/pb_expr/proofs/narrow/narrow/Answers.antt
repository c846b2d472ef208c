use Rattle.pb_expr.proofs.narrow.narrow.Goals as goal

pub narrow_here-requires : goal.narrow_here-requires
narrow_here-requires g c = c.here_anew.ensures.right (g.K.Known.before c.inquiry_of-inquiry.result.known.now)
