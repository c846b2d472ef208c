use Rattle.pb_journal.proofs.Firsts.{first_happen}
use Rattle.pb_journal.proofs.laws.first_events_happen.Goals as goal

pub returns : goal.returns
returns c = first_happen
