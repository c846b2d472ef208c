use Rattle.pb_kind.proofs.KindLemmas.{found_spot}
use Rattle.pb_kind.proofs.below.find.Goals as goal

pub returns : goal.returns
returns c = found_spot c.args.name.now c.args.slots.now.entries c.get.result c.get.ensures.value
