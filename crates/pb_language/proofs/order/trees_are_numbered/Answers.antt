use Rattle.pb_language.proofs.Numbered.{read_row}
use Rattle.pb_language.proofs.order.trees_are_numbered.Goals as goal

pub returns : goal.returns
returns c = read_row
