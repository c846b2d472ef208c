use Rattle.pb_semantics.proofs.Projected.{projected_of_kept}
use Rattle.pb_semantics.proofs.laws.projected_of_kept.Goals as goal

pub returns : goal.returns
returns c = projected_of_kept
