use Rattle.pb_language.proofs.KindsUp.{kinds_up}
use Rattle.pb_language.proofs.order.kinds_go_up.Goals as goal

pub returns : goal.returns
returns c = kinds_up
