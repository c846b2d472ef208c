use Rattle.pb_language.proofs.NumbersWalk.{numbers_walk}
use Rattle.pb_language.proofs.order.numbers_are_walk.Goals as goal

pub returns : goal.returns
returns c = numbers_walk
