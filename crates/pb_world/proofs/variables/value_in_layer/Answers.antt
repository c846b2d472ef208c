use Rattle.pb_world.proofs.Layers.{sorted-once}
use Rattle.pb_world.proofs.variables.value_in_layer.Goals as goal

pub returns-clause-once : goal.returns-clause-once
returns-clause-once c = sorted-once c.args.layer.now.entries c.iter.ensures.ordered
