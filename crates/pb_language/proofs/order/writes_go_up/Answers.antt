use Rattle.pb_language.proofs.TablesUp.{writes_up}
use Rattle.pb_language.proofs.order.writes_go_up.Goals as goal

pub returns : goal.returns
returns c = writes_up
