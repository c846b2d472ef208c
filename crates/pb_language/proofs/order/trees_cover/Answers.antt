use Rattle.pb_language.proofs.Numbers.{trees_cover}
use Rattle.pb_language.proofs.order.trees_cover.Goals as goal

pub returns : goal.returns
returns c = trees_cover
