use Rattle.pb_rules.proofs.Told.{first-told}
use Rattle.pb_rules.proofs.laws.first_is_told.Goals as goal

pub returns : goal.returns
returns c = first-told
