use Rattle.pb_semantics.proofs.Projected.{projected_keeps}
use Rattle.pb_semantics.proofs.laws.projected_keeps.Goals as goal

pub returns : goal.returns
returns c = projected_keeps
