use Rattle.pb_journal.proofs.Views.{same_seen}
use Rattle.pb_journal.proofs.laws.looks_at_what_is_said.Goals as goal

pub returns : goal.returns
returns c = same_seen
