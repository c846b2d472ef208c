use Rattle.pb_route.proofs.Stripped.{after_prefix-stripped}
use Rattle.pb_route.proofs.gathered.without_prefix.Goals as goal

pub returns : goal.returns
returns c = after_prefix-stripped c.args.name.now c.strip_prefix.result c.strip_prefix.ensures.cases
