use Rattle.std.proofs.Common.{ap}
use Rattle.pb_vars.proofs.Scopes.{same-trees, same-lengths}
use Rattle.pb_vars.proofs.laws.same_scopes.Goals as goal

pub returns-clause-trees : goal.returns-clause-trees
returns-clause-trees c = λ ps qs h n. ap (λ f. f n) (same-trees ps qs h)

pub returns-clause-chains : goal.returns-clause-chains
returns-clause-chains c = same-lengths
