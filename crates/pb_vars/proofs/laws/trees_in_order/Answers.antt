use Rattle.pb_vars.proofs.InOrder.{trees-in-order}
use Rattle.pb_vars.proofs.Scopes.{short-chains}
use Rattle.pb_vars.proofs.laws.trees_in_order.Goals as goal

pub returns : goal.returns
returns c = λ scope ps short order. trees-in-order scope ps (short-chains scope short) order
