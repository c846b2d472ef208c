use Rattle.pb_laws.proofs.Signatures.{signatures_are_read_back}
use Rattle.pb_laws.proofs.signatures_are_read_back.Goals as goal

pub returns : goal.returns
returns c = signatures_are_read_back c.modules_are_read_back.ensures
