use Rattle.pb_language.proofs.ExitsUp.{exits_up}
use Rattle.pb_language.proofs.order.exits_go_up.Goals as goal

pub returns : goal.returns
returns c = exits_up
