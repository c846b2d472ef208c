use Rattle.pb_core.proofs.Indexes.{leaves_in}
use Rattle.pb_core.proofs.index.ReadyIndex.leave.Goals as goal

pub returns : goal.returns
returns c = leaves_in c.args.self.now c.args.host c.args.from c.take_out.new.places c.take_out.ensures
