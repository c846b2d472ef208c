use Rattle.pb_hosts.proofs.Sames.{spot_is}
use Rattle.pb_hosts.proofs.cast.Cast.batch.Goals as goal

pub returns : goal.returns
returns c = spot_is _ _ c.args.self.now.listed
