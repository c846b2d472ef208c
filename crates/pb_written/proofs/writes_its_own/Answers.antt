use Rattle.pb_written.proofs.Runs.{writes_its_own}
use Rattle.pb_written.proofs.writes_its_own.Goals as goal

pub returns : goal.returns
returns c = writes_its_own
