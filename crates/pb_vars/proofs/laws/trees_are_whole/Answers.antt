use Rattle.pb_vars.proofs.Scopes.{whole-trees}
use Rattle.pb_vars.proofs.laws.trees_are_whole.Goals as goal

pub returns : goal.returns
returns c = whole-trees
