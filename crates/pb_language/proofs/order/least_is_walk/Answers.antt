use Rattle.pb_language.proofs.Walks.{least_play, covers_play, walk_well, values_well}
use Rattle.pb_language.specs.Walk.{walk}
use Rattle.pb_language.specs.Nodes.{values}
use Rattle.pb_language.proofs.order.least_is_walk.Goals as goal

pub returns : goal.returns
returns c = λ st row e vs last a w u v x f.
    let k = least_play st row e vs last a w u v x in
    let g = f (values st row e) (walk st row e).well (values_well st a row e w) (walk_well st a row e w).0 (covers_play st row e a w) in
    (k.0, g.0, k.1, g.1)
