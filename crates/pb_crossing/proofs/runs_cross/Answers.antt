use Rattle.pb_crossing.proofs.RunsCross.{Run-send, Run-sync}
use Rattle.pb_crossing.proofs.runs_cross.Goals as goal

pub returns-clause-goes : goal.returns-clause-goes
returns-clause-goes c = Run-send

pub returns-clause-shared : goal.returns-clause-shared
returns-clause-shared c = Run-sync
