use Rattle.pb_language.proofs.WellKinds.{kinds_are_well}
use Rattle.pb_language.proofs.laws.kinds_are_well.Goals as goal

pub returns : goal.returns
returns c = kinds_are_well
