use Rattle.pb_language.proofs.After.{after_claim}
use Rattle.pb_language.proofs.Given.{give_claim}
use Rattle.pb_language.proofs.Started.{start_claim}
use Rattle.pb_language.proofs.Sound.{never_stuck_from}
use Rattle.pb_language.proofs.Short.{short_history_from}
use Rattle.pb_language.proofs.laws.short_history.Goals as goal

pub returns : goal.returns
returns c = short_history_from (never_stuck_from after_claim start_claim give_claim)
