use Rattle.pb_language.proofs.Unwound.{unwinding_walks}
use Rattle.pb_language.proofs.laws.unwinding_walks.Goals as goal

pub returns : goal.returns
returns c = unwinding_walks
