use Rattle.pb_language.proofs.TablesUp.{below_both}
use Rattle.pb_language.proofs.order.same_writes_below.Goals as goal

pub returns : goal.returns
returns c = below_both
