use Rattle.pb_runner.proofs.Scripts.{item_at-found}
use Rattle.pb_runner.proofs.script.item_in.Goals as goal

pub returns : goal.returns
returns c = let found = c.get.ensures.lookup in item_at-found c.get.result c.args.items.now c.args.number found.0 found.1
