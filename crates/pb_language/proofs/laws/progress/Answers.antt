use Rattle.pb_language.proofs.Least.{progress}
use Rattle.pb_language.proofs.laws.progress.Goals as goal

pub returns : goal.returns
returns c = progress
