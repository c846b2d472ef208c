use Rattle.pb_run.proofs.Records.{counts_hosts}
use Rattle.pb_run.proofs.recorded.RecordedMachine.hosts.Goals as goal

pub returns : goal.returns
returns c = λ o recorded. rw c.hosts.ensures (counts_hosts c.args.self.now o recorded)
