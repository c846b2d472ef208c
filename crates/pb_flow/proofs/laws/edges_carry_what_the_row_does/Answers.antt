use Rattle.pb_flow.proofs.SameSteps.{same-steps}
use Rattle.pb_flow.proofs.laws.edges_carry_what_the_row_does.Goals as goal

pub returns : goal.returns
returns c = same-steps
