use Rattle.pb_alike.proofs.AlikePlays.{walked_alike}
use Rattle.pb_alike.proofs.hosts_walk_alike.Goals as goal

pub returns : goal.returns
returns c = walked_alike
