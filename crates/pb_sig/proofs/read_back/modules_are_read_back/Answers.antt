use Rattle.pb_sig.proofs.ReadsBack.{modules_are_read_back}
use Rattle.pb_sig.proofs.read_back.modules_are_read_back.Goals as goal

pub returns : goal.returns
returns c = modules_are_read_back
