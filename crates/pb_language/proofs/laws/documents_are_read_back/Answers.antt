use Rattle.pb_language.proofs.ReadsBack.{documents_are_read_back}
use Rattle.pb_language.proofs.laws.documents_are_read_back.Goals as goal

pub returns : goal.returns
returns c = documents_are_read_back
