use Rattle.std.proofs.Common.{◌∙◌, not, ap}
use Rattle.pb_flow.proofs.Counts.{steps-given}
use Rattle.pb_flow.proofs.steps.is_given.Goals as goal

pub returns : goal.returns
returns c = ap not c.is_empty.ensures ∙ steps-given c.args.steps.now
