use Rattle.pb_finish.proofs.FactChanges.{after_prefix-stripped}
use Rattle.pb_finish.proofs.gathered.bare_name.Goals as goal

pub returns : goal.returns
returns c = after_prefix-stripped c.args.name.now c.strip_prefix.result c.strip_prefix.ensures.cases
