use Rattle.pb_flow.proofs.Rises.{links-rise}
use Rattle.pb_flow.proofs.laws.links_rise.Goals as goal

pub returns : goal.returns
returns c = links-rise
