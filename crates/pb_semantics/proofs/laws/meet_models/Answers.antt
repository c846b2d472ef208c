use Rattle.pb_semantics.proofs.JoinModels.{meet_models}
use Rattle.pb_semantics.proofs.laws.meet_models.Goals as goal

pub returns : goal.returns
returns c = meet_models
