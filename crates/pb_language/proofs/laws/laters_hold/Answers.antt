use Rattle.pb_language.proofs.Certain.{laters_hold}
use Rattle.pb_language.proofs.laws.laters_hold.Goals as goal

pub returns : goal.returns
returns c = laters_hold
