use Rattle.pb_core.proofs.Readings.{core_agrees}
use Rattle.pb_core.proofs.laws.readings_agree.Goals as goal

pub returns : goal.returns
returns g c a b agree core s i = core_agrees a b agree core s i
