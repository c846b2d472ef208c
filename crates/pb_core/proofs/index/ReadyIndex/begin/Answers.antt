use Rattle.pb_core.proofs.Indexes.{begins_in}
use Rattle.pb_core.proofs.index.ReadyIndex.begin.Goals as goal

pub returns-clause-begins : goal.returns-clause-begins
returns-clause-begins c = begins_in c.args.self.now c.args.host c.args.place c.take_out.new.places c.put_in.new.places c.in_ok-put_in.ensures.put c.take_out.ensures
