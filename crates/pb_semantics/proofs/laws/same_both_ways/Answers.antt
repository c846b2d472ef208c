use Rattle.pb_semantics.proofs.KeepsUp.{same_values}
use Rattle.pb_semantics.proofs.laws.same_both_ways.Goals as goal

pub returns : goal.returns
returns c = same_values
