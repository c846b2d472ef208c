use Rattle.std.proofs.Common.{leb, sym, ap}
use Rattle.pb_value.proofs.Fields.{count_of-items_view}
use Rattle.pb_inventory.proofs.variables.is_short.Goals as goal

pub returns : goal.returns
returns c = ap (λ n. leb n 65536) (sym (count_of-items_view c.args.items.now))
