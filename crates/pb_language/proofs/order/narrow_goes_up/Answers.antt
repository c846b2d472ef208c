use Rattle.pb_language.proofs.NarrowUp.{narrow_up}
use Rattle.pb_language.proofs.order.narrow_goes_up.Goals as goal

pub returns : goal.returns
returns c = λ x y e b w v l. narrow_up e x y b w v l
