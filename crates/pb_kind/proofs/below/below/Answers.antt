use Rattle.pb_kind.proofs.below.below.Goals as goal

pub returns : goal.returns
returns c = c.is_above.ensures
