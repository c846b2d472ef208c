use Rattle.pb_machine.proofs.Edges.{steps_lead_along_links}
use Rattle.pb_machine.proofs.steps_lead_along_links.Goals as goal

pub returns : goal.returns
returns c = steps_lead_along_links
