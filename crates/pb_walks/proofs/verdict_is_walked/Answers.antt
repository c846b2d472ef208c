use Rattle.pb_walks.proofs.Settles.{verdict_is_walked}
use Rattle.pb_walks.proofs.verdict_is_walked.Goals as goal

pub returns : goal.returns
returns c = verdict_is_walked
