use Rattle.std.proofs.Common.{[]}
use Rattle.pb_vars.proofs.InOrder.{all-in-order}
use Rattle.pb_vars.proofs.Scopes.{short-chains}
use Rattle.pb_vars.proofs.laws.all_are_in_order.Goals as goal

pub returns : goal.returns
returns c = λ scope ps none behind short. all-in-order scope [] ps behind (λ n i. short n i (short-chains scope none n))
