use Rattle.pb_semantics.proofs.KeepsUp.{keeps_up}
use Rattle.pb_semantics.proofs.laws.keeps_goes_up.Goals as goal

pub returns : goal.returns
returns c = keeps_up
