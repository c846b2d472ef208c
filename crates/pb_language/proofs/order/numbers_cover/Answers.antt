use Rattle.pb_language.proofs.Numbers.{numbers_cover}
use Rattle.pb_language.proofs.order.numbers_cover.Goals as goal

pub returns : goal.returns
returns c = numbers_cover
