use Rattle.pb_semantics.proofs.JoinWell.{joins_well}
use Rattle.pb_semantics.proofs.laws.join_well.Goals as goal

pub returns : goal.returns
returns c = joins_well
