use Rattle.std.proofs.Common.{ap, not}
use Rattle.pb_rules.proofs.denied.task_denied.Goals as goal

pub returns : goal.returns
returns g c = ap not c.task_holds.ensures
